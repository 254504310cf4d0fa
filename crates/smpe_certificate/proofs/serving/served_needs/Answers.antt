use Rattle.std.proofs.Common.{◌≡◌, ◌++◌, ℕ, length, take, drop, arith, sym, subst, replicate}
use Rattle.std.proofs.lemmas.Grind.{common_steps}
use Rattle.solve.specs.declared.system.Need.{Need}
use Rattle.solve.specs.NeedView.{numbered}
use Rattle.solve.specs.Rows.{row_at, times}
use Rattle.smpe_certificate.proofs.Indexing.{served_next, served_end}
use Rattle.smpe_certificate.proofs.Searching.{need_at, same_length}
use Rattle.smpe_certificate.proofs.serving.served_needs.Goals as goal

pub loop-place-preserved : goal.loop-place-preserved
loop-place-preserved c =
    let p = c.args.system.now in
    let needs = c.needs-needs.result.now in
    let n = c.index-needs-place.result in
    let place = c.loop-place.place in
    let rows = c.loop-place.rows.items in
    let new = c.add_to_rows.new.rows in
    let whole : take c.loop-place.rows.len (new ++ drop (length new) rows) ≡ new = grind (arith, common_steps) in
    rw whole (served_next p place (numbered n) rows new
    (need_at needs p.needs place n c.needs-needs.ensures.needs c.loop-place-test.true c.index-needs-place.is)
    (omega (arith, c.add_to_rows.auto.rows, c.deref_mut.ensures.len, c.loop-place.invariant.size))
    (subst (λ (m : Need). (y : ℕ) → row_at new y ≡ row_at rows y ++ replicate (times y m.any.items) place)
    (sym c.index-needs-place.is) (rw (c.deref_mut.ensures.value, c.deref.ensures.value) at c.in_ok-add_to_rows.ensures))
    c.loop-place.invariant)

pub returns : goal.returns
returns c =
    let p = c.args.system.now in
    let long = same_length c.needs-needs.result.now p.needs c.needs-needs.ensures.needs in
    served_end p c.loop-place.place c.loop-place.rows.items (omega (arith, long, c.loop-place-test.false))
    c.loop-place.invariant
