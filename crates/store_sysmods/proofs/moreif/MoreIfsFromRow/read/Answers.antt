use Rattle.std.proofs.Common.{rules, sym, ◌∙◌}
use Rattle.store_sysmods.proofs.CellLemmas.{next}
use Rattle.store_sysmods.proofs.Exact.{formed_if}
use Rattle.store_sysmods.proofs.moreif.MoreIfsFromRow.read.Goals as goal

pub returns-in_err-id-clause-none : goal.returns-in_err-id-clause-none
returns-in_err-id-clause-none c bad item forms same =
    c.id.ensures.none (search rules) item.id _ forms.0.0 (c.new-columns.ensures ∙ same)

pub returns-clause-read : goal.returns-clause-read
returns-clause-read c =
    let requisites = c.in_ok-req.ensures.read in (
      sym c.new-columns.ensures ∙ next c.in_ok-id.ensures.read.0 (next c.in_ok-srel.ensures.read.0
          (next c.in_ok-place.ensures.read.0 (next c.in_ok-number.ensures.read (next c.in_ok-function.ensures.read.0
          (next requisites.0 c.in_ok-expect_end.ensures.read))))),
      (
        (
          c.in_ok-id.ensures.read.1,
          c.in_ok-srel.ensures.read.1,
          formed_if _ _ _ c.in_ok-function.ensures.read.1 (requisites.1, requisites.2),
        ),
        c.in_ok-place.ensures.read.1,
      ),
    )
