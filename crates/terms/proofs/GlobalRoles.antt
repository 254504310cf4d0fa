-- Which functions and other SYSMODs are received, and whether roles fit, after a change of the global zone.
use Rattle.std.proofs.Common.{◌≡◌, false, IsTrue}
use Rattle.std.specs.List.{list_any}
use Rattle.terms.proofs.Booleans.{neither, both_none}
use Rattle.terms.proofs.Searches.{list_any_fewer}
use Rattle.terms.specs.Types.{Id, Ver, Global}
use Rattle.terms.specs.Lookups.{is_function}
use Rattle.terms.specs.Global.{is_service, fits_roles, named_functions}

-- Where fewer functions and fewer others are received, roles that fitted fit.
pub fits_fewer : (g new : Global) → ((x : Id) → is_function g x ≡ false → is_function new x ≡ false)
    → ((x : Id) → is_service g x ≡ false → is_service new x ≡ false)
    → (v : Ver) → IsTrue (fits_roles g v) → IsTrue (fits_roles new v)
fits_fewer g new functions services v fits =
    let parts = neither (list_any (is_function g) v.sup) (list_any (is_service g) (named_functions v)) fits in
    both_none (list_any (is_function new) v.sup) (list_any (is_service new) (named_functions v))
    (list_any_fewer (is_function g) (is_function new) v.sup functions parts.0)
    (list_any_fewer (is_service g) (is_service new) (named_functions v) services parts.1)
