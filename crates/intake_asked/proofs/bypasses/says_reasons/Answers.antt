use Rattle.std.proofs.Common.{map, subst, sym}
use Rattle.std.proofs.lemmas.Result.{IfOk-weaker}
use Rattle.terms.specs.Types.{TheseReasons}
use Rattle.fields.specs.Choices.{reasons_in}
use Rattle.intake_asked.specs.Said.{SaysReasons}
use Rattle.intake_asked.proofs.bypasses.says_reasons.Goals as goal

pub returns-in-These : goal.returns-in-These
returns-in-These c =
    IfOk-weaker c.says_these_reasons.result _ _ (λ says said t.
    subst (λ r. SaysReasons (map (λ n. n.now) c.args.names.now) c.args.bypassed.now (reasons_in r)) (sym c.in-These.is)
    (subst (λ rs. SaysReasons (map (λ n. n.now) c.args.names.now) c.args.bypassed.now (TheseReasons rs))
    c.as_slice.ensures.items (said t))) c.says_these_reasons.ensures
