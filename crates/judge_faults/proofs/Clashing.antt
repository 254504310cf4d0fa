-- Which candidates clash: for any setting, where it is known who survives.
use Rattle.std.proofs.Common.{◌≡◌, ◌∙◌, inl, inr, ℕ, List, length, Some, IsTrue, refl, sym}
use Rattle.std.proofs.Common.{subst, map, Contains, slice_get}
use Rattle.std.specs.Prelude.{◌↔◌, ◌⊎◌}
use Rattle.std.proofs.lemmas.Option.{slice_get_within, same_Some}
use Rattle.terms.proofs.ListMembers.{map_in}
use Rattle.terms.proofs.Places.{found_at}
use Rattle.terms.specs.declared.kinds.ElemType.{ElemType}
use Rattle.terms.specs.Types.{Text, Id, Global}
use Rattle.terms.specs.Lookups.{changes_of, change_key, has_change}
use Rattle.terms.specs.Choice.{Choice, npre_of}
use Rattle.terms.specs.Tests.{Setting, Survives, Clash, IsInClash}
use Rattle.terms.proofs.ChangedElements.{change_has, changes_to}
use Rattle.judge_faults.specs.declared.own.OwnFaults.{OwnFaults}
use Rattle.judge_faults.specs.declared.claims.Claim.{Claim}
use Rattle.judge_faults.specs.Own.{passes}
use Rattle.judge_faults.specs.Claims.{a_claim, PassesAt, AreClaims}
use Rattle.judge_faults.specs.Sharing.{ClashesOnOne, IsAmong, IsClashing}
use Rattle.judge_faults.specs.Forbidding.{IsForbidding}
use Rattle.terms.proofs.BesideLists.{beside_there}

-- what it claims, it changes
changes_from : (g : Global) (x : Id) (key : ElemType × Text) → Contains (map change_key (changes_of g x)) key
    → IsTrue (has_change g x key.0 key.1)
changes_from g x key h =
    let m = map_in change_key (changes_of g x) key h in
    subst (λ k. IsTrue (has_change g x k.0 k.1)) m.2 (change_has g x m.0 m.1)

-- the claims that clash are those of the candidates that do
pub clashing_at : (g : Global) (c : Choice) (ids : List Id) (faults : List OwnFaults) (claims : List Claim)
    → AreClaims g ids faults (length ids) claims → (n : ℕ)
    → IsAmong (ClashesOnOne g c) claims n ↔ IsClashing g c ids faults n
clashing_at g c ids faults claims are n = (from, to)
  where
    from : IsAmong (ClashesOnOne g c) claims n → IsClashing g c ids faults n
    from m =
        let own = (are m.a.element m.a.id m.a.place).0 m.own in
        let other = (are m.b.element m.b.id m.b.place).0 m.other in
        record {
          x = m.a.id;
          passes = subst (λ k. PassesAt ids faults k m.a.id) (sym m.place) own.by;
          place = m.b.place;
          y = m.b.id;
          other = other.by;
          apart = m.clash.1.0;
          element = (
            m.a.element.0,
            m.a.element.1,
            changes_from g m.a.id m.a.element own.changes,
            subst (λ k. IsTrue (has_change g m.b.id k.0 k.1)) (sym m.clash.0)
                (changes_from g m.b.id m.b.element other.changes),
          );
          may_not = m.clash.1.1;
        }

    to : IsClashing g c ids faults n → IsAmong (ClashesOnOne g c) claims n
    to h =
        let key : ElemType × Text = (h.element.0, h.element.1) in
        record {
          a = a_claim key h.x n;
          b = a_claim key h.y h.place;
          own = (are key h.x n).1 (record {
            below = slice_get_within ids n h.x h.passes.at;
            by = h.passes;
            changes = changes_to g h.x key.0 key.1 h.element.2;
          });
          other = (are key h.y h.place).1 (record {
            below = slice_get_within ids h.place h.y h.other.at;
            by = h.other;
            changes = changes_to g h.y key.0 key.1 h.element.3;
          });
          clash = (refl, (h.apart, h.may_not));
          place = refl;
        }

module _ (s : Setting) (faults : List OwnFaults) (lengths : length faults ≡ length s.cands)
    (survives : (n : ℕ) (x : Id) (a : OwnFaults) → slice_get s.cands n ≡ Some x → slice_get faults n ≡ Some a
    → IsTrue (passes a) ↔ Survives s x) where
  own_at_holds : (n : ℕ) (x : Id) → slice_get s.cands n ≡ Some x → (a : OwnFaults) × (slice_get faults n ≡ Some a)
  own_at_holds = beside_there s.cands faults lengths

  passes_from : (n : ℕ) (x : Id) → PassesAt s.cands faults n x → Survives s x
  passes_from n x p = (survives n x p.own p.at p.own_at).0 p.passing

  passes_to : (n : ℕ) (x : Id) → slice_get s.cands n ≡ Some x → Survives s x → PassesAt s.cands faults n x
  passes_to n x at h =
      let a = own_at_holds n x at in
      record { at = at; own = a.0; own_at = a.1; passing = (survives n x a.0 at a.1).1 h }

  -- a candidate that clashes fails the test, and no other does
  pub fails_nine : (n : ℕ) (x : Id) → slice_get s.cands n ≡ Some x
      → (IsClashing s.global s.choice s.cands faults n ⊎ IsForbidding s.choice s.cands faults n) ↔ IsInClash s x
  fails_nine n x at = (from, to)
    where
      from : IsClashing s.global s.choice s.cands faults n ⊎ IsForbidding s.choice s.cands faults n → IsInClash s x
      from (inl h) =
          let same : h.x ≡ x = same_Some h.x x (sym h.passes.at ∙ at) in
          subst (IsInClash s) same (
            passes_from n h.x h.passes,
            (h.y, passes_from h.place h.y h.other, h.apart, inr (inr (h.element, h.may_not))),
          )
      from (inr h) =
          let same : h.x ≡ x = same_Some h.x x (sym h.passes.at ∙ at) in
          let clash : Clash s h.x h.y = elim h.names [ inl named ↦ inl named | inr by ↦ inr (inl by) ] in
          subst (IsInClash s) same
          (passes_from n h.x h.passes, (h.y, passes_from h.place h.y h.other, h.apart, clash))

      to : IsInClash s x → IsClashing s.global s.choice s.cands faults n ⊎ IsForbidding s.choice s.cands faults n
      to (own, (y, other, apart, clash)) = by clash
        where
          found : (k : ℕ) × (slice_get s.cands k ≡ Some y)
          found = found_at s.cands y other.0.0

          forbidding : Contains (npre_of s.choice x) y ⊎ Contains (npre_of s.choice y) x
              → IsForbidding s.choice s.cands faults n
          forbidding names = record {
            x = x;
            passes = passes_to n x at own;
            place = found.0;
            y = y;
            other = passes_to found.0 y found.1 other;
            apart = apart;
            names = names;
          }

          by : Clash s x y
              → IsClashing s.global s.choice s.cands faults n ⊎ IsForbidding s.choice s.cands faults n
          by (inl named) = inr (forbidding (inl named))
          by (inr (inl named)) = inr (forbidding (inr named))
          by (inr (inr both)) = inl (record {
            x = x;
            passes = passes_to n x at own;
            place = found.0;
            y = y;
            other = passes_to found.0 y found.1 other;
            apart = apart;
            element = both.0;
            may_not = both.1;
          })
