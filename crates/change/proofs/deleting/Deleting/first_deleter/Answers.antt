use Rattle.std.proofs.Common.{◌≡◌, ◌∙◌, ap, ap₂, true, false, sym, subst, true≢false, Contains, rules, tests}
use Rattle.std.specs.Prelude.{◌&&◌, if◌then◌else◌}
use Rattle.std.proofs.lemmas.Iterator.{YieldsList-from_slice}
use Rattle.std.proofs.lemmas.Iterator.Consumers.{YieldsList-from_copied, YieldsList-at}
use Rattle.std.proofs.lemmas.Iterator.Search.{find_from_yields_List}
use Rattle.std.proofs.lemmas.Iterator.Adapters.{option_map_id}
use Rattle.terms.proofs.Ids.{is_in_from_Contains}
use Rattle.terms.specs.Choice.{del_of}
use Rattle.terms.specs.Deleted.{is_deleted}
use Rattle.terms.specs.Lookups.{is_function, is_in}
use Rattle.zones.specs.Gone.{is_gone}
use Rattle.change.specs.Deleting.{choice_of, global_of, is_function_gone, first_deleter, first_meeting}
use Rattle.change.specs.Deleting.{first_naming}
use Rattle.change.proofs.Leaving.{named_by_none}
use Rattle.change.proofs.deleting.Deleting.first_deleter.Goals.{After-contains}
use Rattle.change.proofs.deleting.Deleting.first_deleter.Goals.{else-is_function-via-then-is_function+else-takes_out}
use Rattle.change.proofs.deleting.Deleting.first_deleter.Goals.{else-is_function-via-else-is_function}
use Rattle.change.proofs.deleting.Deleting.first_deleter.Goals as goal

pub returns-then-takes_out : goal.returns-then-takes_out
returns-then-takes_out c =
    let d = c.args.self.now in
    let x = c.args.id in
    let of = sym (c.is_function.ensures ∙ ap (λ g. is_function g x) c.global.ensures) in
    let gone : is_function_gone d x ≡ true =
    ap₂ (λ a b. a && b) (of ∙ c.if-is_function.true) (sym c.takes_out.ensures ∙ c.if-takes_out.true) in
    sym (option_map_id c.find.result)
    ∙ find_from_yields_List (λ k. is_deleted (global_of d) (choice_of d) (del_of (choice_of d) k) x) _ _
    c.find.result c.find.ensures.ran
    (YieldsList-from_copied (YieldsList-at c.copied.ensures.source (YieldsList-from_slice _ c.iter.ensures.rest)))
    (λ z b q k. (
      search (rules, tests),
      subst (λ y. b ≡ is_deleted (global_of d) (choice_of d) (del_of (choice_of d) y) x) k.shows
          (search (rules, tests)),
    ))
    ∙ sym (ap (λ b. if b then first_meeting d x else first_naming d x) gone)

-- where it is no function that is taken out, the first that names it is wanted
by_name : (c : After-contains) → first_naming c.args.self.now c.args.id ≡ first_deleter c.args.self.now c.args.id
by_name c =
    let d = c.args.self.now in
    let x = c.args.id in
    let of = sym (c.is_function.ensures ∙ ap (λ g. is_function g x) c.global.ensures) in
    let stays : is_function_gone d x ≡ false = elim c.else-is_function.branch [
      | else-is_function-via-then-is_function+else-takes_out w ↦
          ap₂ (λ a b. a && b) (of ∙ w.if-is_function.true) (sym w.takes_out.ensures ∙ w.if-takes_out.false)
      | else-is_function-via-else-is_function w ↦ ap (λ a. a && is_gone d.left x) (of ∙ w.if-is_function.false)
    ] in
    sym (ap (λ b. if b then first_meeting d x else first_naming d x) stays)

pub returns-then-not-contains : goal.returns-then-not-contains
returns-then-not-contains c =
    let d = c.args.self.now in
    let among : c.contains.result ≡ is_in d.left.dels.now c.args.id = search (rules, tests) in
    sym (named_by_none (choice_of d) d.kept.now c.args.id
    (λ h. true≢false (sym (is_in_from_Contains d.left.dels.now c.args.id
    (subst (λ ids. Contains ids c.args.id) (sym c.requires) h)) ∙ sym among ∙ c.if-not-contains.true)))
    ∙ by_name (goal.at.returns-then-not-contains c).After-contains

pub returns : goal.returns
returns c =
    let d = c.args.self.now in
    let x = c.args.id in
    sym (option_map_id c.find-2.result)
    ∙ find_from_yields_List (λ k. is_in (del_of (choice_of d) k) x) _ _ c.find-2.result c.find-2.ensures.ran
    (YieldsList-from_copied (YieldsList-at c.copied-2.ensures.source (YieldsList-from_slice _ c.iter-2.ensures.rest)))
    (λ z b q k. (
      search (rules, tests),
      subst (λ y. b ≡ is_in (del_of (choice_of d) y) x) k.shows (search (rules, tests)),
    ))
    ∙ by_name (goal.at.returns c).After-contains
