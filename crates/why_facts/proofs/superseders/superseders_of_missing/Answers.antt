use Rattle.std.proofs.Common.{◌∙◌, sym}
use Rattle.std.proofs.lemmas.Result.{IfOk-weaker}
use Rattle.why_facts.proofs.superseders.superseders_of_missing.Goals as goal

pub returns : goal.returns
returns c =
    IfOk-weaker c.installable_suppliers.result _ _
    (λ ids are. record {
      rising = are.0;
      members = λ y. (
        λ h. (sym c.is_missing.ensures ∙ c.if-not-is_missing.false, (are.1 y).0 h),
        λ both. (are.1 y).1 both.1,
      );
    }) c.installable_suppliers.ensures
