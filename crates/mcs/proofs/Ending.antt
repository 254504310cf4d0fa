-- A word without a list.
use Rattle.std.proofs.Common.{◌≡◌, Option, None, ap}
use Rattle.std.specs.Prelude.{option_map, is_some, false}
use Rattle.terms.proofs.Options.{None_from_is_some}

pub no_list : {X Y : Type 0} (o : Option X) (f : X → Y) → is_some o ≡ false → option_map f o ≡ None
no_list o f e = ap (option_map f) (None_from_is_some o e)
