-- The reasons of ERROR holds.
use Rattle.std.proofs.Common.{◌≡◌, ◌==◌, ◌&&◌, Bool, true, false, List, [], ◌∷◌, ◌++◌, map, filter, cond, refl, ap, ◌∙◌}
use Rattle.std.proofs.Common.{if◌then◌else◌}
use Rattle.std.specs.List.{flat_map}
use Rattle.std.specs.Str.{bytes_eq}
use Rattle.terms.specs.declared.kinds.HoldKind.TheVariants.{Error}
use Rattle.terms.specs.Types.{Id, Hold, Global, hold_number, is_error}
use Rattle.terms.specs.Lookups.{holds_of}
use Rattle.terms.proofs.HoldOrder.{error_by_number}

-- the reason of an ERROR hold
abbrev pub error_reason : Hold → List Id
error_reason h = if is_error h.kind then h.reason ∷ [] else []

abbrev is_error_on : Id → Hold → Bool
is_error_on x h = bytes_eq h.id x && (hold_number h.kind == 0)

pub error_reasons : (g : Global) (x : Id)
    → flat_map error_reason (holds_of g Error x) ≡ map (λ h. h.reason) (holds_of g Error x)
error_reasons g x = by g.holds
  where
    by : (hs : List Hold) → flat_map error_reason (filter (is_error_on x) hs)
        ≡ map (λ h. h.reason) (filter (is_error_on x) hs)
    by [] = refl
    by (h ∷ hs) = at (by hs) (bytes_eq h.id x) (hold_number h.kind == 0) (error_by_number h.kind)
      where
        at : flat_map error_reason (filter (is_error_on x) hs) ≡ map (λ h. h.reason) (filter (is_error_on x) hs)
            → (b k : Bool) → is_error h.kind ≡ k
            → flat_map error_reason (cond (b && k) (h ∷ filter (is_error_on x) hs) (filter (is_error_on x) hs))
            ≡ map (λ h. h.reason) (cond (b && k) (h ∷ filter (is_error_on x) hs) (filter (is_error_on x) hs))
        at rest true true e =
            ap (λ b. (if b then h.reason ∷ [] else []) ++ flat_map error_reason (filter (is_error_on x) hs)) e
            ∙ ap (λ ys. h.reason ∷ ys) rest
        at rest true false e = rest
        at rest false k e = rest
