use Rattle.std.proofs.Common.{◌≡◌, ◌∙◌, [], refl, sym, ap, is_some, if◌then◌else◌, true≢false}
use Rattle.std.proofs.lemmas.Result.{IfOk-weaker}
use Rattle.std.specs.Ordering.{nat_cmp}
use Rattle.std.specs.Cmp.Lexicographic.{slice_cmp}
use Rattle.terms.specs.Rising.{with_item}
use Rattle.sysmods.specs.Held.{zone_of}
use Rattle.sysmods.proofs.Fronts.{none_refused, global_last, new_last, item_last, some_fault}
use Rattle.sysmods.proofs.parts.try_insert_last.Goals as goal

pub returns-clause-fits : goal.returns-clause-fits
returns-clause-fits c =
    let xs = c.args.received.now in
    let s = c.args.sysmod in
    let none : s.holds ≡ [] = c.has_no_holds.ensures.0 c.if-not-has_no_holds.false in (
      λ e. global_last xs s c.requires.last none c.requires.global c.attest.ensures
          c.in-Ok.ensures.ok,
      λ g. refl,
    )

pub returns-clause-ok : goal.returns-clause-ok
returns-clause-ok c =
    let xs = c.args.received.now in
    let s = c.args.sysmod in
    λ e. c.in_ok-insert.ensures.ok
    ∙ ap (λ o. if is_some o then xs else with_item (slice_cmp nat_cmp) (λ r. r.id) xs s) (new_last xs s c.requires.last)
    ∙ item_last xs s c.requires.last s refl

pub returns-in-Err-clause-fits : goal.returns-in-Err-clause-fits
returns-in-Err-clause-fits c =
    let xs = c.args.received.now in
    let s = c.args.sysmod in
    let none : s.holds ≡ [] = c.has_no_holds.ensures.0 c.if-not-has_no_holds.false in
    IfOk-weaker c.refusal_as_false.result _ _ (λ fits e. (
      λ fit. absurd (true≢false (sym fit ∙ e.0)),
      λ g. absurd (
          let fault = some_fault (zone_of xs) s c.in-Err.why c.in-Err.ensures.refused e.1 in
          none_refused xs s c.requires.last none g fault.0 fault.1
          ),
    )) c.refusal_as_false.ensures

pub returns-in-Err-clause-ok : goal.returns-in-Err-clause-ok
returns-in-Err-clause-ok c =
    IfOk-weaker c.refusal_as_false.result _ _ (λ fits e fit. absurd (true≢false (sym fit ∙ e.0)))
    c.refusal_as_false.ensures
