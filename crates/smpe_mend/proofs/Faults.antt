-- The fault for which a SYSMOD is refused.
use Rattle.std.proofs.Common.{Option, None, Some, is_some, IsTrue}
use Rattle.std.specs.Prelude.{IfSome}
use Rattle.std.proofs.lemmas.Bool.{false≢true}

pub found_fault : {F : Type 0} (P : F → Type 0) (o : Option F) → IsTrue (is_some o) → IfSome o P → (f : F) × P f
found_fault P (Some f) some is = (f, is)
found_fault P None some is = absurd (false≢true some)
