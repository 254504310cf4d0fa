use Rattle.std.proofs.Common.{◌≡◌, ◌∙◌, [], sym, ap}
use Rattle.std.proofs.lemmas.Bool.{eqb-true}
use Rattle.std.proofs.lemmas.List.{nil_from_length}
use Rattle.std.proofs.lemmas.Result.{IfOk-weaker}
use Rattle.terms.specs.Choice.{del_of}
use Rattle.sysmods.specs.Choices.{choice}
use Rattle.zones.proofs.Lost.{lost_orphans, orphans_none}
use Rattle.zones.proofs.orphaned.orphans.Goals as goal

pub returns-then-is_empty : goal.returns-then-is_empty
returns-then-is_empty c s eg ec ez =
    let none : c.del-dels.result.now ≡ [] = nil_from_length _ (eqb-true _ _ (sym c.if-is_empty.ensures)) in
    c.new.ensures.items ∙ sym (orphans_none s c.args.id (ap (λ d. del_of d c.args.id) ec ∙ sym c.del-dels.ensures
    ∙ none))

pub returns : goal.returns
returns c =
    IfOk-weaker c.all_lost_requisites.result _ _
    (λ found same s eg ec ez. same ∙ lost_orphans c.args.vers.now.global.now (choice c.args.vers.now)
    c.del-dels.result.now c.args.zone.now s c.args.id c.del-dels.ensures eg ec ez) c.all_lost_requisites.ensures
