-- What is told of ids, part by part.
use Rattle.std.proofs.Common.{◌≡◌, ◌∙◌, ◌+◌, ℕ, zero, suc, List, [], ◌∷◌, ◌++◌, Some, map, refl, sym, ap, arith}
use Rattle.std.proofs.Common.{◌<◌, slice_get, get_or, take, length, append-nil, subst, subst₂, Option, None}
use Rattle.std.proofs.Common.{true, false, Contains}
use Rattle.std.specs.Prelude.{max, if◌then◌else◌}
use Rattle.std.specs.List.{flat_map}
use Rattle.std.specs.Ordering.{nat_cmp}
use Rattle.std.specs.Cmp.Lexicographic.{slice_cmp}
use Rattle.std.specs.declared.cmp.Ordering.TheVariants.{Equal}
use Rattle.std.proofs.lemmas.Cmp.{nat_list_cmp_total, tied_itself}
use Rattle.std.proofs.lemmas.List.{get_or_default, length-map}
use Rattle.std.proofs.lemmas.List.Concat.{flat_map-append}
use Rattle.terms.specs.Beside.{Beside}
use Rattle.terms.proofs.BesideLists.{beside_next}
use Rattle.terms.specs.Types.{Text, Id, Global, Zone, Bypass}
use Rattle.terms.specs.Lookups.{IsRising}
use Rattle.terms.specs.Rising.{StandsAt}
use Rattle.terms.proofs.IdPlaces.{stands_at}
use Rattle.terms.proofs.RisingLists.{Stands_at, with_item_same}
use Rattle.terms.specs.Choice.{Choice, counting}
use Rattle.terms.specs.Tests.{Setting}
use Rattle.report.specs.Facts.{among, with_id}
use Rattle.smpe_why.specs.declared.told.WhyAnswer.{WhyAnswer}
use Rattle.smpe_why.specs.Telling.{greatest, Inquiry, AreToldBy, IsTold}

-- one part more
pub greatest_more : (parts : List (Text × ℕ)) (p : Text × ℕ) → greatest (parts ++ p ∷ []) ≡ max (greatest parts) p.1
greatest_more [] p = omega arith
greatest_more (q ∷ qs) p = ap (max q.1) (greatest_more qs p) ∙ max_parts q.1 (greatest qs) p.1
  where
    max_parts : (a b c : ℕ) → max a (max b c) ≡ max (max a b) c
    max_parts a b c = omega arith

-- what stands at a place of what is seen of a list
seen_at : {X Y : Type 0} (f : X → Y) (xs : List X) (n : ℕ) (y : Y) → slice_get (map f xs) n ≡ Some y
    → (x : X) × (slice_get xs n ≡ Some x) × (f x ≡ y)
seen_at f [] n y at = absurd (cc at)
seen_at f (x ∷ xs) zero y at = (x, refl, cc at)
seen_at f (x ∷ xs) (suc n) y at = seen_at f xs n y at

-- beside what is seen of a list
pub beside_seen : {X Y Z : Type 0} (R : Y → Z → Type 0) (f : X → Y) (xs : List X) (zs : List Z)
    → Beside (λ n x z. R (f x) z) xs zs → Beside (λ n y z. R y z) (map f xs) zs
beside_seen R f xs zs b = record {
  lengths = b.lengths ∙ sym (length-map xs f);
  each = λ n y z at other.
      let x = seen_at f xs n y at in
      subst (λ v. R v z) x.2 (b.each n x.0 z x.1 other);
}

-- what is told of the first items of a list
pub record AreTold {X : Type 0} (Told : X → Text → ℕ → Type 0) (xs : List X) (text : Text) (code : ℕ) : Type 0 where
  pub parts : List (Text × ℕ)
  pub each : Beside (λ n x p. Told x p.0 p.1) xs parts
  pub text_is : text ≡ flat_map (λ p. p.0) parts
  pub code_is : code ≡ greatest parts

pub told_none : {X : Type 0} (Told : X → Text → ℕ → Type 0) (text : Text) → text ≡ [] → AreTold Told [] text 0
told_none Told text none = record {
  parts = [];
  each = record { lengths = refl; each = λ n x p at other. absurd (cc at) };
  text_is = none;
  code_is = refl;
}

pub told_more : {X : Type 0} (Told : X → Text → ℕ → Type 0) (xs : List X) (i : ℕ) (x : X) (old new text : Text)
    (was is code : ℕ) → i < length xs → x ≡ get_or xs i x → AreTold Told (take i xs) old was → Told x text code
    → new ≡ old ++ text → is ≡ max was code → AreTold Told (take (i + 1) xs) new is
told_more Told xs i x old new text was is code below at so one made greater = record {
  parts = so.parts ++ (text, code) ∷ [];
  each = beside_next (λ n x p. Told x p.0 p.1) xs so.parts _ i x (text, code) below at refl one so.each;
  text_is = made ∙ ap (λ l. l ++ text) so.text_is ∙ ap (λ l. flat_map (λ p. p.0) so.parts ++ l) (sym (append-nil text))
      ∙ sym (flat_map-append (λ p. p.0) so.parts ((text, code) ∷ []));
  code_is = greater ∙ ap (λ n. max n code) so.code_is ∙ sym (greatest_more so.parts (text, code));
}

-- the setting of these values
abbrev a_setting : Global → Choice → Zone → List Id → Bypass → Setting
a_setting g c zone ids bypass =
    record { global = g; choice = c; zone = zone; related = None; cands = ids; bypass = bypass }

pub setting_is : (g : Global) (zone : Zone) (cands : List Id) (bypass : Bypass) (x : Id) (h : Global) (c : Choice)
    (z : Zone) (ids : List Id) → h ≡ g → z ≡ zone → c ≡ counting g zone ids → ids ≡ with_id cands x
    → a_setting h c z ids bypass ≡ among g zone cands bypass x
setting_is g zone cands bypass x h c z ids eg ez ec ei =
    ap (λ v. a_setting v c z ids bypass) eg
    ∙ ap (λ (v : Zone). a_setting g c v ids bypass) ez
    ∙ ap (λ v. a_setting g v zone ids bypass) ec
    ∙ ap (λ v. a_setting g (counting g zone v) zone v bypass) ei

-- a candidate is among the candidates
pub with_candidate : (ids : List Id) (x : Id) → IsRising ids → Contains ids x → with_id ids x ≡ ids
with_candidate ids x rising is =
    let tie : (d : Id) → slice_cmp nat_cmp (get_or ids is.0 d) x ≡ Equal =
    λ d. subst (λ y. slice_cmp nat_cmp y x ≡ Equal) (sym (get_or_default ids is.0 d x is.1 ∙ is.2))
    (tied_itself nat_list_cmp_total x) in
    let at = Stands_at nat_list_cmp_total (λ y. y) x ids is.0 is.1 tie in
    with_item_same nat_list_cmp_total (λ y. y) ids is.0 x rising
    (subst (λ v. StandsAt (slice_cmp nat_cmp) (λ y. y) x ids is.0 v) (stands_at ids x is.0 is.1 at.0 at.1).1 at.1)

-- ---- what is told as a whole

module _ (g : Global) (zone : Zone) (related : Option Zone) (a : Inquiry) where
  abbrev By : List Id → Text → ℕ → Type 0
  By ids text code = AreToldBy g zone related a ids text code

  -- all by one command
  pub told_once : (told : WhyAnswer) → a.together ≡ true → By a.ids told.text.items told.status
      → IsTold g (Some zone) related a told
  told_once told together is = (
    (told.text.items, told.status) ∷ [],
    subst (λ b. Beside (λ n ids (p : Text × ℕ). By ids p.0 p.1) (if b then a.ids ∷ [] else map (λ x. x ∷ []) a.ids)
        ((told.text.items, told.status) ∷ [])) (sym together) (record { lengths = refl; each = one }),
    sym (append-nil told.text.items),
    omega arith,
  )
    where
      one : (n : ℕ) (ids : List Id) (p : Text × ℕ) → slice_get (a.ids ∷ []) n ≡ Some ids
          → slice_get ((told.text.items, told.status) ∷ []) n ≡ Some p → By ids p.0 p.1
      one zero ids p e f =
          let same : a.ids ≡ ids = cc e in
          let part : (told.text.items, told.status) ≡ p = cc f in
          subst₂ (λ i q. By i q.0 q.1) same part is
      one (suc n) ids p e f = absurd (cc e)

  -- each by its own
  pub told_each : (told : WhyAnswer) → a.together ≡ false → (parts : List (Text × ℕ))
      → Beside (λ n x p. By (x ∷ []) p.0 p.1) a.ids parts → told.text.items ≡ flat_map (λ p. p.0) parts
      → told.status ≡ greatest parts → IsTold g (Some zone) related a told
  told_each told apart parts each text status = (
    parts,
    subst (λ b. Beside (λ n ids (p : Text × ℕ). By ids p.0 p.1) (if b then a.ids ∷ [] else map (λ x. x ∷ []) a.ids)
        parts) (sym apart) (beside_seen (λ ids (p : Text × ℕ). By ids p.0 p.1) (λ x. x ∷ []) a.ids parts each),
    text,
    status,
  )
