-- A SYSMOD with its holds is no looser than without them.
use Rattle.std.proofs.Common.{◌≡◌, Bool, List, Option, None, Some, Result, Ok, Err, subst, sym}
use Rattle.std.specs.Prelude.{IfOk, IfSome}
use Rattle.terms.specs.Types.{Sysmod}
use Rattle.intake_read.specs.declared.items.WideSysmod.{WideSysmod}
use Rattle.intake_sysmod.specs.NoLooser.{IsNoLooser}

pub with_its_holds : (decide : Bool) (run : List WideSysmod) (stated : WideSysmod) (sysmod : Sysmod) (o : Option Sysmod)
    → IsNoLooser decide run stated sysmod → IfSome o (λ s. s ≡ record sysmod { holds = s.holds })
    → IfSome o (IsNoLooser decide run stated)
with_its_holds decide run stated sysmod None n e = tt
with_its_holds decide run stated sysmod (Some s) n e = subst (IsNoLooser decide run stated) (sym e) (record {
  id_is = n.id_is;
  kind_is = n.kind_is;
  header_read = n.header_read;
  others_are = n.others_are;
  vers_are = n.vers_are;
  changed = n.changed;
  said = n.said;
})

-- what two clauses say of one value
pub from_both : {T E : Type 0} {P Q R : T → Type 0} (r : Result T E) → ((value : T) → P value → Q value → R value)
    → IfOk r P → IfOk r Q → IfOk r R
from_both (Ok value) all p q = all value p q
from_both (Err error) all p q = tt
