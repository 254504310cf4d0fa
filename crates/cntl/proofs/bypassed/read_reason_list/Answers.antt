use Rattle.std.proofs.Common.{rules, ◌∙◌, ◌↔◌, IsTrue, sym, subst}
use Rattle.std.specs.Prelude.{All}
use Rattle.std.proofs.lemmas.Bool.{true≢false}
use Rattle.std.proofs.lemmas.List.{map-id}
use Rattle.std.proofs.lemmas.Result.{err_from_is_err_and}
use Rattle.terms.specs.Forms.{IsClass, IsReason}
use Rattle.terms.specs.Operands.{HasSorted}
use Rattle.terms.specs.Words.{IsShort}
use Rattle.terms.proofs.ExactOperands.{has_sorted_only}
use Rattle.rec80.specs.Views.{word_of}
use Rattle.rec80.proofs.Failing.{excludes_more}
use Rattle.cntl.proofs.Bypassing.{sorted_classes, sorted_reasons}
use Rattle.cntl.proofs.bypassed.read_reason_list.Goals as goal

pub returns-in_err-reasons-clause-bad : goal.returns-in_err-reasons-clause-bad
returns-in_err-reasons-clause-bad c =
    let p = err_from_is_err_and c.from_residual.result c.from_residual.ensures.1 in
    rw (p.1, p.2) (excludes_more c.in_err-reasons.field-0.0 _ _
    (λ x. (x.0, ((sorted_classes c.args.kind (word_of c.args.member.now) x.0 x.1.0).0, x.1.1)))
    c.in_err-reasons.ensures.bad)

pub returns-then-not-all-clause-bad : goal.returns-then-not-all-clause-bad
returns-then-not-all-clause-bad c = λ x.
    let m = word_of c.args.member.now in
    let suit : IsTrue c.all.result ↔ All (IsReason c.args.kind) c.in_ok-reasons.reasons = search rules in
    let s = sorted_classes c.args.kind m x.0 x.1.0 in
    let listed = subst (HasSorted IsClass m) (map-id c.in_ok-reasons.reasons) c.in_ok-reasons.ensures.ok.0 in
    let same = has_sorted_only IsClass m x.0 c.in_ok-reasons.reasons s.0 listed in
    true≢false (sym (suit.1 (subst (All (IsReason c.args.kind)) same s.1)) ∙ c.if-not-all.true)

pub returns-clause-ok : goal.returns-clause-ok
returns-clause-ok c =
    let suit : IsTrue c.all.result ↔ All (IsReason c.args.kind) c.in_ok-reasons.reasons = search rules in
    let same = map-id c.in_ok-reasons.reasons in (
      sorted_reasons c.args.kind (word_of c.args.member.now) c.in_ok-reasons.reasons
          (subst (HasSorted IsClass (word_of c.args.member.now)) same c.in_ok-reasons.ensures.ok.0)
          (suit.0 c.if-not-all.false),
      subst IsShort same c.in_ok-reasons.ensures.ok.1,
    )
