use Rattle.std.proofs.Common.{◌∙◌, ◌++◌, ◌&&◌, not, ap, arith, filter, refl, sym}
use Rattle.std.specs.List.{flat_map}
use Rattle.std.specs.Str.{bytes_eq}
use Rattle.terms.specs.Lookups.{is_applied}
use Rattle.zones.specs.Scopes.{choice_of}
use Rattle.report.specs.Facts.{stated_by, conditions_of}
use Rattle.why_facts.specs.Asking.{view_in}
use Rattle.why_facts.proofs.Growing.{kept_more, grown_then, grown_else}
use Rattle.why_facts.proofs.requisites.push_ifreqs_of_others.Goals.{then-is_another_applied+in_ok-push_ifreqs_for}
use Rattle.why_facts.proofs.requisites.push_ifreqs_of_others.Goals.{else-is_another_applied}
use Rattle.why_facts.proofs.requisites.push_ifreqs_of_others.Goals as goal

pub loop-by-preserved : goal.loop-by-preserved
loop-by-preserved c =
    let a = c.args.asking.now in
    let by = c.by-item.result in
    let more = kept_more (λ y. is_applied (view_in a) y && not (bytes_eq a.id y)) (conditions_of (choice_of a.scope)
    (bytes_eq a.id)) c.args.ids.now
    c.loop-by.by-index by (omega arith) c.by-item.is in
    elim c.if-is_another_applied.branch [
      | then-is_another_applied+in_ok-push_ifreqs_for w ↦
          rw w.found-is (grown_then c.args.found.now.items _ _ _ _ _ _ c.loop-by.invariant more
          (sym c.is_another_applied.ensures ∙ w.if-is_another_applied.true)
          (w.in_ok-push_ifreqs_for.ensures
          ∙ ap (λ ifs. c.loop-by.found.items ++ flat_map (stated_by by) (filter (λ i. bytes_eq a.id i.function) ifs))
          w.ifs.ensures))
      | else-is_another_applied w ↦
          rw w.found-is (grown_else c.args.found.now.items _ _ _ _ _ _ c.loop-by.invariant more
          (sym c.is_another_applied.ensures ∙ w.if-is_another_applied.false) refl)
    ]
