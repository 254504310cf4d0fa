use Rattle.std.proofs.Common.{◌++◌, subst, sym, append-nil}
use Rattle.std.specs.Prelude.{option_to_list}
use Rattle.intake_holds.specs.Outside.{AreCarried}
use Rattle.intake_holds.proofs.outside.OutsideHolds.carry_if_any.Goals as goal

pub returns-in-None : goal.returns-in-None
returns-in-None c = λ stated carried.
    subst (λ h. AreCarried (stated ++ option_to_list h) c.args.self.now) (sym c.in-None.is)
    (subst (λ l. AreCarried l c.args.self.now) (sym (append-nil stated)) carried)
