use Rattle.std.proofs.Common.{◌≡◌, [], ◌++◌, ◌∙◌, append-nil, ap, cond, sym, take_all, arith}
use Rattle.std.specs.List.{flat_map}
use Rattle.terms.proofs.Lists.{flat_next}
use Rattle.terms.specs.Types.{Entry}
use Rattle.report.specs.ErrorHolds.{open_on, open_in}
use Rattle.report.proofs.OpenHolds.{open_entries}
use Rattle.report.proofs.error_holds.open_error_holds.Goals.{then-is_current+in_ok-append_open_error_holds}
use Rattle.report.proofs.error_holds.open_error_holds.Goals.{else-is_current}
use Rattle.report.proofs.error_holds.open_error_holds.Goals as goal

pub loop-entry-preserved : goal.loop-entry-preserved
loop-entry-preserved c =
    let g = c.args.global.now in
    let zone = c.args.zone.now in
    let e = c.entry-item.result in
    let old = c.loop-entry.found.items in
    let one : c.if-is_current.found.items ≡ old ++ open_in g zone e = elim c.if-is_current.branch [
      | then-is_current+in_ok-append_open_error_holds w ↦
          rw w.found-is (w.in_ok-append_open_error_holds.ensures
          ∙ ap (λ (x : Entry). old ++ open_on g zone x.id) c.entry.view_is
          ∙ ap (λ b. old ++ cond b (open_on g zone e.id) []) (sym (sym c.is_current.ensures ∙ w.if-is_current.true)))
      | else-is_current w ↦
          rw w.found-is (sym (append-nil old)
          ∙ ap (λ b. old ++ cond b (open_on g zone e.id) []) (sym (sym c.is_current.ensures ∙ w.if-is_current.false)))
    ] in
    one ∙ ap (λ l. l ++ open_in g zone e) c.loop-entry.invariant
    ∙ sym (flat_next (open_in g zone) c.entries-entry-items.result.now c.loop-entry.entry-index e (omega arith)
    c.entry-item.is)

pub returns : goal.returns
returns c =
    let f = open_in c.args.global.now c.args.zone.now in
    c.loop-entry.invariant
    ∙ ap (flat_map f) (take_all c.loop-entry.entry-index c.entries-entry-items.result.now (omega arith)
    ∙ c.entries-entry-items.ensures.same)
    ∙ open_entries c.args.global.now c.args.zone.now c.args.zone.now.entries
