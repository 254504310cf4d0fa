-- Keys of texts.
use Rattle.std.proofs.Common.{◌≡◌, ℕ, List, Bool, true, false, ◌&&◌, Some, refl, ap, ◌∙◌}
use Rattle.std.specs.Ordering.{is_eq}
use Rattle.std.specs.Str.{bytes_eq}
use Rattle.std.proofs.lemmas.Map.Text.{is_eq-slice_cmp}
use Rattle.sqlite.specs.declared.types.Value.TheVariants.{Text}
use Rattle.sqlite.specs.Collation.TheVariants.{Binary}
use Rattle.sqlite.specs.Order.{value_cmp}
use Rattle.sqlite.specs.Ops.{binary, is_true, from_truth}
use Rattle.sqlite_value.proofs.OrderLemmas.{value_cmp-Text}
use Rattle.sqlite_schema.specs.Rules.{equal}

-- SQL's truth values tell the Booleans
pub told : (b : Bool) → is_true (from_truth (Some b)) ≡ b
told true = refl
told false = refl

-- SQL compares texts by their bytes
pub equals : (a b : List ℕ) → equal Binary (Text a) (Text b) ≡ bytes_eq a b
unfolding binary
equals a b = told (is_eq (value_cmp (Text a) (Text b))) ∙ ap is_eq (value_cmp-Text a b) ∙ is_eq-slice_cmp a b

pub and_true : (b : Bool) → (b && true) ≡ b
and_true true = refl
and_true false = refl
