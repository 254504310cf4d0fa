-- The test of a hold's key is that of the order of holds.
use Rattle.std.proofs.Common.{◌≡◌, ◌==◌, ◌&&◌, ◌∙◌, ℕ, refl, sym, ap}
use Rattle.std.specs.Ordering.{nat_cmp, ordering_then, is_eq}
use Rattle.std.specs.Cmp.{unsigned_ties}
use Rattle.std.proofs.lemmas.Cmp.{nat_eq_equiv}
use Rattle.std.specs.Cmp.Lexicographic.{slice_cmp}
use Rattle.std.specs.Str.{bytes_eq}
use Rattle.std.proofs.lemmas.Map.Text.{is_eq-slice_cmp}
use Rattle.terms.proofs.Booleans.{and_assoc}
use Rattle.terms.proofs.Orderings.{is_eq_then}
use Rattle.terms.specs.declared.kinds.HoldKind.{HoldKind}
use Rattle.terms.specs.declared.kinds.HoldKind.TheVariants.{Error, System, User}
use Rattle.terms.specs.Types.{Text, Id, Hold, hold_number, is_error}
use Rattle.terms.specs.Global.{has_key}
use Rattle.terms.proofs.TextOrder.{same_back}

-- an ERROR hold, by the number of its kind
pub error_by_number : (k : HoldKind) → is_error k ≡ (hold_number k == hold_number Error)
error_by_number Error = refl
error_by_number System = refl
error_by_number User = refl

pub number_back : (a b : HoldKind) → is_eq (nat_cmp (hold_number a) (hold_number b)) ≡ (hold_number b == hold_number a)
number_back a b = by (hold_number a) (hold_number b)
  where
    by : (m n : ℕ) → is_eq (nat_cmp m n) ≡ (n == m)
    by m n = sym (unsigned_ties m n) ∙ nat_eq_equiv.symm m n

pub has_key_ties : (x : Id) (kind : HoldKind) (reason : Text) (h : Hold)
    → is_eq (ordering_then (slice_cmp nat_cmp x h.id) (ordering_then (nat_cmp (hold_number kind) (hold_number h.kind))
    (slice_cmp nat_cmp reason h.reason)))
    ≡ has_key x kind reason h
has_key_ties x kind reason h =
    is_eq_then (slice_cmp nat_cmp x h.id) (ordering_then (nat_cmp (hold_number kind) (hold_number h.kind))
    (slice_cmp nat_cmp reason h.reason))
    ∙ ap (λ b. is_eq (slice_cmp nat_cmp x h.id) && b) (is_eq_then (nat_cmp (hold_number kind) (hold_number h.kind))
    (slice_cmp nat_cmp reason h.reason))
    ∙ ap (λ b. b && (is_eq (nat_cmp (hold_number kind) (hold_number h.kind)) && is_eq
    (slice_cmp nat_cmp reason h.reason))) (is_eq-slice_cmp x h.id ∙ same_back x h.id)
    ∙ ap (λ b. bytes_eq h.id x && (b && is_eq (slice_cmp nat_cmp reason h.reason))) (number_back kind h.kind)
    ∙ ap (λ b. bytes_eq h.id x && ((hold_number h.kind == hold_number kind) && b))
    (is_eq-slice_cmp reason h.reason ∙ same_back reason h.reason)
    ∙ and_assoc (bytes_eq h.id x) (hold_number h.kind == hold_number kind) (bytes_eq h.reason reason)
