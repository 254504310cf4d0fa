use Rattle.std.proofs.Common.{◌≡◌, Some, false, ap, subst, sym, ◌∙◌}
use Rattle.std.specs.Prelude.{◌↔◌, None, IsTrue}
use Rattle.std.proofs.lemmas.Bool.{true≢false}
use Rattle.terms.specs.Types.{Id}
use Rattle.intake_holds.specs.Holds.{IsInternal}
use Rattle.intake_holds.proofs.holds.is_internal.Goals as goal

pub returns-in-Some : goal.returns-in-Some
returns-in-Some c =
    subst (λ own. IsTrue c.is_internal_in.result ↔ IsInternal own c.args.stated.now)
    (ap Some c.as_bytes.ensures.same ∙ sym c.in-Some.is) c.is_internal_in.ensures

none : {id : Id} → None ≡ Some id → ⊥
none e = cc

pub returns-in-None : goal.returns-in-None
returns-in-None c =
    subst (λ own. IsTrue false ↔ IsInternal own c.args.stated.now) (sym c.in-None.is)
    (λ t. absurd (true≢false (sym t)), λ is. absurd (none is.1))
