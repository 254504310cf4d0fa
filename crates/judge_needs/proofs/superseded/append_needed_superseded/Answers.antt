use Rattle.std.proofs.Common.{◌∙◌, ◌++◌, ap, filter, subst, sym, Contains}
use Rattle.std.specs.Prelude.{◌↔◌}
use Rattle.std.specs.Str.{bytes_eq}
use Rattle.terms.proofs.Searches.{find_gives}
use Rattle.terms.proofs.TextOrder.{same_from}
use Rattle.terms.specs.Types.{Id}
use Rattle.terms.specs.Lookups.{is_in}
use Rattle.sysmods.specs.Choices.{choice}
use Rattle.judge_needs.specs.Closures.{IsClosure, SupersedesOne}
use Rattle.judge_needs.specs.declared.superseded.Closure.{Closure}
use Rattle.judge_needs.proofs.Closing.{below_one, needed_below}
use Rattle.judge_needs.proofs.Growing.{on_ok_from}
use Rattle.judge_needs.proofs.superseded.append_needed_superseded.Goals as goal

pub returns-in-Some : goal.returns-in-Some
returns-in-Some c =
    let ch = choice c.args.vers.now in
    let needed = c.args.needed.now in
    let x = c.args.id in
    let old = c.args.found.now.items in
    let closure = c.in-Some.closure.now in
    let gives = find_gives (λ (k : Closure). bytes_eq k.id x) c.args.known.now closure (sym c.in-Some.ensures) in
    let own : (z : Id) → Contains closure.ids z ↔ SupersedesOne ch needed x z =
    subst (λ w. (z : Id) → Contains closure.ids z ↔ SupersedesOne ch needed w z) (same_from closure.id x gives.0)
    (subst (IsClosure ch needed) gives.1.2 (c.requires gives.1.0 closure gives.1.1)) in
    on_ok_from c.extend_from_slice.result c.extend_from_slice.new.self.items (old ++ c.as_slice.result.now) old
    c.extend_from_slice.ensures.items
    (λ is. below_one ch needed x closure.ids old c.extend_from_slice.new.self.items own
    (is ∙ ap (λ l. old ++ l) c.as_slice.ensures.items))

pub returns-in_ok-asked-in-None : goal.returns-in_ok-asked-in-None
returns-in_ok-asked-in-None c =
    let ch = choice c.args.vers.now in
    let needed = c.args.needed.now in
    let x = c.args.id in
    let old = c.args.found.now.items in
    let all = c.in_ok-all-in-None.all in
    let asked = c.in_ok-asked-in-None.asked.items in
    let new = c.extend_from_slice-in-None.new.self.items in
    on_ok_from c.extend_from_slice-in-None.result new (old ++ c.as_slice-in-None-2.result.now) old
    c.extend_from_slice-in-None.ensures.items
    (λ is. below_one ch needed x asked old new
    (needed_below ch needed x all asked c.in_ok-all-in-None.ensures
    (c.in_ok-asked-in-None.ensures ∙ ap (filter (is_in needed)) c.as_slice-in-None.ensures.items))
    (is ∙ ap (λ l. old ++ l) c.as_slice-in-None-2.ensures.value))
