-- The ERROR holds on a SYSMOD, and the reasons of those that BYPASS does not cover.
use Rattle.std.proofs.Common.{◌≡◌, ◌∙◌, Bool, true, false, List, [], ◌∷◌, ◌++◌, All, ap, append_assoc, cond, filter}
use Rattle.std.proofs.Common.{map, refl, subst, sym}
use Rattle.std.specs.Prelude.{◌==◌, ◌&&◌, not}
use Rattle.std.specs.Str.{bytes_eq}
use Rattle.std.proofs.lemmas.Bool.{and_parts}
use Rattle.std.proofs.lemmas.List.Elements.{All-head, All-tail, filter_passes}
use Rattle.terms.specs.declared.kinds.HoldKind.TheVariants.{Error}
use Rattle.terms.specs.Types.{Bypass, Id, Global, Hold, hold_number}
use Rattle.terms.specs.Lookups.{holds_of}
use Rattle.terms.specs.Tests.{is_bypassed_hold}
use Rattle.terms.proofs.GlobalKept.{kind_from}

pub all_errors : (g : Global) (x : Id) → All (λ h. h.kind ≡ Error) (holds_of g Error x)
all_errors g x i d below =
    let passes = filter_passes (λ h. bytes_eq h.id x && (hold_number h.kind == hold_number Error)) g.holds i d below in
    kind_from _ Error (and_parts _ _ passes).1

module _ (b : Bypass) (all : List Id) where
  -- the reasons of those holds
  abbrev reasons : List Hold → List Id
  reasons hs = map (λ h. h.reason) (filter (λ h. not (is_bypassed_hold b h)) hs)

  -- what was found so far, and then the reasons of the ERROR holds that are left to be gone through, are all
  pub record AreFound (so_far : List Id) (rest : List Hold) : Type 0 where
    pub found : so_far ++ reasons rest ≡ all
    pub errors : All (λ h. h.kind ≡ Error) rest

  module _ (h : Hold) (now rest : List Hold) (old : List Id) (first : now ≡ h ∷ rest) (are : AreFound old now) where
    errors : All (λ h. h.kind ≡ Error) (h ∷ rest)
    errors = subst (All (λ h. h.kind ≡ Error)) first are.errors

    pub is_error : h.kind ≡ Error
    is_error = All-head (λ h. h.kind ≡ Error) h rest errors

    pub found_next : (new : List Id) → new ≡ old ++ cond (not (is_bypassed_hold b h)) (h.reason ∷ []) []
        → AreFound new rest
    found_next new is = record {
      found = ap (λ l. l ++ reasons rest) is
          ∙ append_assoc old (cond (not (is_bypassed_hold b h)) (h.reason ∷ []) []) (reasons rest)
          ∙ ap (λ l. old ++ l) (by (not (is_bypassed_hold b h))) ∙ sym (ap (λ l. old ++ reasons l) first) ∙ are.found;
      errors = All-tail (λ h. h.kind ≡ Error) h rest errors;
    }
      where
        by : (left : Bool) → cond left (h.reason ∷ []) [] ++ reasons rest
            ≡ map (λ h. h.reason) (cond left (h ∷ filter (λ h. not (is_bypassed_hold b h)) rest)
            (filter (λ h. not (is_bypassed_hold b h)) rest))
        by true = refl
        by false = refl
