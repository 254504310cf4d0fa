use Rattle.std.proofs.Common.{◌≡◌, ◌∙◌, [], sym}
use Rattle.std.proofs.lemmas.Bool.{eqb-true}
use Rattle.std.proofs.lemmas.List.{nil_from_length}
use Rattle.terms.specs.Over.{chain}
use Rattle.sysmods.specs.Choices.{choice}
use Rattle.zones.proofs.NoDeletions.{none_of_chain}
use Rattle.zones.proofs.scope.Scope.view_deletions.Goals as goal

pub returns-then-is_empty : goal.returns-then-is_empty
returns-then-is_empty c =
    let scope = c.args.self.now in
    let vers = scope.vers.now in
    let none : scope.dels.now ≡ [] = nil_from_length _ (eqb-true _ _ (sym c.if-is_empty.ensures)) in
    c.new.ensures.items ∙ sym (none_of_chain (choice vers) scope.ids.now
    (chain vers.global.now (choice vers) c.args.id) (sym scope.are_deletions ∙ none))
