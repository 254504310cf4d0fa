-- Values as they are bound, and as columns keep them.
use Rattle.std.proofs.Common.{◌≡◌, ℕ, ℤ, List, Option, Some, None, refl}
use Rattle.sqlite.specs.declared.types.Value.TheVariants.{Int, Text}
use Rattle.sqlite.specs.Kind.TheVariants as kind
use Rattle.sqlite.specs.Cast.{cast}
use Rattle.sqlite.specs.Ops.{unary}
use Rattle.sqlite.specs.Values.{or_null, bound_value}
use Rattle.terms.proofs.Booleans.{cond_same}

-- a text that may be NULL is bound as it is
pub bound_optional : (t : Option (List ℕ)) → bound_value (or_null Text t) ≡ or_null Text t
bound_optional None = refl
bound_optional (Some t) = refl

-- A TEXT column keeps it, and an INTEGER column keeps a whole number.
pub kept_optional : (t : Option (List ℕ)) → cast kind.Text (or_null Text t) ≡ or_null Text t
kept_optional None = refl
kept_optional (Some t) = refl

pub kept_whole : (n : ℤ) → cast kind.Integer (Int n) ≡ Int n
unfolding unary
kept_whole n = cond_same _ (Int n)
