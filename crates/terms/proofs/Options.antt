-- Options, beyond what std has on them.
use Rattle.std.proofs.Common.{◌≡◌, Option, Some, None, refl, is_some}
use Rattle.std.specs.Option.{option_map, option_or, option_map_or}
use Rattle.std.specs.Prelude.{Bool, false, true, not, ◌&&◌}
use Rattle.std.specs.Prelude.{if◌then◌else◌}

pub None_from_is_some : {X : Type 0} (o : Option X) → is_some o ≡ false → o ≡ None
None_from_is_some None is = refl
None_from_is_some (Some x) is = absurd (cc (is))

pub some_from : {X : Type 0} (o : Option X) → is_some o ≡ true → (x : X) × (o ≡ Some x)
some_from None is = absurd (cc (is))
some_from (Some x) is = (x, refl)

-- a test that some value passes
pub is_some_if : {X : Type 0} (p : X → Bool) (o : Option X) → option_map_or p o false ≡ true → is_some o ≡ true
is_some_if p None passes = passes
is_some_if p (Some x) passes = refl

pub is_some_map : {X : Type 0} (f : X → X) (o : Option X) → is_some (option_map f o) ≡ is_some o
is_some_map f None = refl
is_some_map f (Some x) = refl

pub option_or-none : {X : Type 0} (o : Option X) → option_or o None ≡ o
option_or-none None = refl
option_or-none (Some x) = refl

-- a test that does not see the change
pub map_or_map : {X Y : Type 0} (h : X → Y) (f : X → X) (d : Y) → ((x : X) → h (f x) ≡ h x) → (o : Option X)
    → option_map_or h (option_map f o) d ≡ option_map_or h o d
map_or_map h f d same None = refl
map_or_map h f d same (Some x) = same x

-- of some value something is made
pub map_not_none : {X Y : Type 0} (o : Option X) (f : X → Y) → is_some o ≡ true → option_map f o ≡ None → ⊥
map_not_none None f is none = cc (is)
map_not_none (Some x) f is none = cc (none)

-- a value that goes where a test holds
pub is_some_unless : {X : Type 0} (gone : Bool) (o : Option X) → is_some (if gone then None else o) ≡ (is_some o && not gone)
is_some_unless true None = refl
is_some_unless true (Some x) = refl
is_some_unless false None = refl
is_some_unless false (Some x) = refl
