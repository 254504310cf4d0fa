use Rattle.std.proofs.Common.{◌<◌, ◌∙◌, ap, sym, length, subst, arith}
use Rattle.std.specs.Prelude.{All}
use Rattle.solve.proofs.Added.{row_at_read}
use Rattle.judge_system.proofs.failures.failure_at.Goals as goal

pub ids_at-requires : goal.ids_at-requires
ids_at-requires c =
    let found = c.args.findings.now in
    let n = c.args.place in
    subst (All (λ m. m < length c.args.ids.now))
    (row_at_read found.causers.now n c.index-findings-place-2.result c.as_slice-causer_places.result.now
    (omega (arith, c.requires.within, c.requires.findings.causers)) c.index-findings-place-2.is
    (c.as_slice-causer_places.ensures.value ∙ ap (λ row. row.items) (sym c.index-findings-place-2.is)))
    (c.requires.findings.within n)
