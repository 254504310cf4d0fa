use Rattle.std.proofs.Common.{◌≡◌, ◌≢◌, arith, refl, rules, sym, subst, ◌∙◌}
use Rattle.std.specs.Prelude.{IfSome}
use Rattle.terms.specs.Forms.{IsId}
use Rattle.store_sysmods.proofs.CellLemmas.{next, rest_is, text_is}
use Rattle.store_sysmods.proofs.ver.VersFromRow.read.Goals as goal

pub returns-in_err-id-clause-none : goal.returns-in_err-id-clause-none
returns-in_err-id-clause-none c bad item forms same =
    c.id.ensures.none (search rules) item.id _ forms.0.0 (c.new-columns.ensures ∙ same)

pub returns-in_err-fmid-clause-none : goal.returns-in_err-fmid-clause-none
returns-in_err-fmid-clause-none c bad item forms same =
    let first = c.new-columns.ensures ∙ same in
    let read = c.in_ok-id.ensures.read in
    c.read_other_id.ensures.none (search rules) item.ver.fmid _
    (subst (λ x. IfSome item.ver.fmid (λ f. IsId f × (f ≢ x))) (text_is read.0 first) forms.0.1.fmid)
    (rest_is c.in_ok-srel.ensures.read.0 (rest_is read.0 first))

pub returns-clause-read : goal.returns-clause-read
returns-clause-read c = (
  sym c.new-columns.ensures ∙ next c.in_ok-id.ensures.read.0 (next c.in_ok-srel.ensures.read.0
      (next c.in_ok-fmid.ensures.read.0 (next c.in_ok-pre.ensures.read.0 (next c.in_ok-req.ensures.read.0
      (next c.in_ok-sup.ensures.read.0 (next c.in_ok-npre.ensures.read.0 (next c.in_ok-del.ensures.read.0
      c.in_ok-expect_end.ensures.read))))))),
  (
    (
      c.in_ok-id.ensures.read.1,
      record {
        srel = c.in_ok-srel.ensures.read.1;
        fmid = c.in_ok-fmid.ensures.read.1;
        pre = c.in_ok-pre.ensures.read.1;
        req = c.in_ok-req.ensures.read.1;
        sup = c.in_ok-sup.ensures.read.1;
        npre = c.in_ok-npre.ensures.read.1;
        del = c.in_ok-del.ensures.read.1;
        ifs = λ k d within. absurd (omega arith);
        suits = tt;
      },
      c.new-ifs.ensures.items,
    ),
    refl,
  ),
)
