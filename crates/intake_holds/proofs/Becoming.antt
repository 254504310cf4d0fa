-- What a list becomes, as a loop goes over it.
use Rattle.std.proofs.Common.{◌≡◌, ◌<◌, ◌≤◌, ◌+◌, ℕ, Bool, true, false, List, [], ◌++◌, ◌∷◌, Option, Some, length, take}
use Rattle.std.proofs.Common.{get_or, subst, subst₂, sym, ap, ◌∙◌, refl, append-nil, append_assoc}
use Rattle.std.specs.Prelude.{◌↔◌, None, IsTrue, IsFalse, Result, Ok, Err, OnOk}
use Rattle.std.proofs.lemmas.Bool.{true≢false}
use Rattle.std.proofs.lemmas.List.{take_more, take_all}
use Rattle.terms.specs.declared.kinds.HoldKind.{HoldKind}
use Rattle.terms.specs.declared.kinds.HoldKind.TheVariants as kind
use Rattle.terms.specs.Types as terms
use Rattle.intake_read.specs.declared.items.WideHold.{WideHold}
use Rattle.intake_read.specs.declared.items.WideHoldKind.{WideHoldKind}
use Rattle.intake_read.specs.declared.items.WideHoldKind.TheVariants.{Error, System, User, Fixcat}
use Rattle.intake_holds.specs.Become.{Become}
use Rattle.intake_holds.specs.Holds.{placed_at, wide_kind, IsHold, IsInternal, HoldBecomes}
use Rattle.intake_holds.specs.Holds.{IsInside, IsOutside}
use Rattle.intake_holds.specs.declared.placed.PlacedItem.{PlacedItem}
use Rattle.mcs.specs.declared.hold_item.HoldItem.TheVariants.{Hold}

pub become_more : {X A B : Type 0} (R : X → List A → List B → Type 0) (xs : List X) (ones : List A) (others : List B)
    (x : X) (one : List A) (other : List B) → Become R xs ones others → R x one other
    → Become R (xs ++ x ∷ []) (ones ++ one) (others ++ other)
become_more R [] ones others x one other b r = (
  one,
  [],
  other,
  [],
  ap (λ l. l ++ one) b.0 ∙ sym (append-nil one),
  ap (λ l. l ++ other) b.1
      ∙ sym (append-nil other),
  r,
  (refl, refl),
)
become_more R (y ∷ ys) ones others x one other b r = (
  b.0,
  b.1 ++ one,
  b.2,
  b.3 ++ other,
  ap (λ l. l ++ one) b.4 ∙ append_assoc b.0 b.1 one,
  ap (λ l. l ++ other) b.5 ∙ append_assoc b.2 b.3 other,
  b.6,
  become_more R ys b.1 b.3 x one other b.7 r,
)

pub become_next : {X A B : Type 0} (R : X → List A → List B → Type 0) (xs : List X) (ones new_ones : List A)
    (others new_others : List B) (i : ℕ) (x : X) (one : List A) (other : List B) → i < length xs → x ≡ get_or xs i x
    → new_ones ≡ ones ++ one → new_others ≡ others ++ other → R x one other → Become R (take i xs) ones others
    → Become R (take (i + 1) xs) new_ones new_others
become_next R xs ones new_ones others new_others i x one other below at e f r b =
    subst₂ (Become R (take (i + 1) xs)) (sym e) (sym f)
    (subst (λ l. Become R l (ones ++ one) (others ++ other))
    (sym (take_more xs i x below ∙ ap (λ u. take i xs ++ u ∷ []) (sym at)))
    (become_more R (take i xs) ones others x one other b r))

pub become_whole : {X A B : Type 0} (R : X → List A → List B → Type 0) (xs : List X) (ones : List A) (others : List B)
    (i : ℕ) → length xs ≤ i → Become R (take i xs) ones others → Become R xs ones others
become_whole R xs ones others i whole b = subst (λ l. Become R l ones others) (take_all i xs whole) b

-- what is put inside or outside is what the hold becomes
pub hold_put : (own : Option terms.Id) (stated : WideHold) (hold : terms.Hold) (old new : terms.Sysmod)
    (placed after : List PlacedItem) → IsHold stated hold → (IsTrue hold.internal ↔ IsInternal own stated)
    → (IsTrue hold.internal → (new ≡ record old { holds = old.holds ++ hold ∷ [] }) × (after ≡ placed))
    → (IsFalse hold.internal → (new ≡ old) × (after ≡ placed ++ placed_at stated.place (Hold hold) ∷ []))
    → (one : List terms.Hold) × (other : List PlacedItem) × (new.holds ≡ old.holds ++ one)
    × (after ≡ placed ++ other) × HoldBecomes own stated one other × (new ≡ record old { holds = new.holds })
hold_put own stated hold old new placed after is internal inside outside = by hold.internal refl
  where
    by : (b : Bool) → hold.internal ≡ b
        → (one : List terms.Hold) × (other : List PlacedItem) × (new.holds ≡ old.holds ++ one)
        × (after ≡ placed ++ other) × HoldBecomes own stated one other × (new ≡ record old { holds = new.holds })
    by true e =
        let i = inside e in
        let holds = ap (λ (s : terms.Sysmod). s.holds) i.0 in (
          hold ∷ [],
          [],
          holds,
          i.1 ∙ sym (append-nil placed),
          IsInside hold is e (internal.0 e),
          i.0 ∙ ap (λ hs. record old { holds = hs }) (sym holds),
        )
    by false e =
        let o = outside e in
        let holds = ap (λ (s : terms.Sysmod). s.holds) o.0 in (
          [],
          placed_at stated.place (Hold hold) ∷ [],
          holds ∙ sym (append-nil old.holds),
          o.1,
          IsOutside hold is e (λ i. true≢false (sym (internal.1 i) ∙ e)),
          o.0 ∙ ap (λ hs. record old { holds = hs }) (sym holds),
        )

-- a hold that is stated to be of the kind SYSTEM is of it
pub system_carried : (k : HoldKind) (stated : Option WideHoldKind) → stated ≡ Some (wide_kind k)
    → stated ≡ Some System → k ≡ kind.System
system_carried kind.System stated e s = refl
system_carried kind.Error stated e s = absurd (by (sym e ∙ s))
  where
    by : Some Error ≡ Some System → ⊥
    by f = cc
system_carried kind.User stated e s = absurd (by (sym e ∙ s))
  where
    by : Some User ≡ Some System → ⊥
    by f = cc

-- without a SYSMOD around it, a hold is external
pub not_inside : (hold : terms.Hold) (stated : WideHold) → (IsTrue hold.internal ↔ IsInternal None stated)
    → IsFalse hold.internal
not_inside hold stated internal = by hold.internal refl
  where
    none : {x : terms.Id} → None ≡ Some x → ⊥
    none f = cc

    by : (b : Bool) → hold.internal ≡ b → IsFalse hold.internal
    by true e = absurd (none (internal.0 e).1)
    by false e = e

-- one hold more outside SYSMODs, unless one of them was refused
pub held_more : (stated : List WideHold) (hold : WideHold) (placed after other : List PlacedItem) (refused : Bool)
    → HoldBecomes None hold [] other → after ≡ placed ++ other
    → (IsFalse refused → Become (HoldBecomes None) stated [] placed)
    → IsFalse refused → Become (HoldBecomes None) (stated ++ hold ∷ []) [] after
held_more stated hold placed after other refused becomes e carried f =
    subst (Become (HoldBecomes None) (stated ++ hold ∷ []) []) (sym e)
    (become_more (HoldBecomes None) stated [] placed hold [] other (carried f) becomes)

-- what is so whatever a call returns
pub whatever_returns : {T E P : Type 0} (r : Result T E) → P → OnOk r P
whatever_returns (Ok x) p = p
whatever_returns (Err e) p = tt
