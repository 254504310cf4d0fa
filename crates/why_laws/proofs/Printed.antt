-- Which texts are printed, and which are not.
use Rattle.std.proofs.Common.{◌≡◌, ◌≢◌, ◌⊎◌, inl, inr, ℕ, Bool, true, false, List, [], ◌∷◌, ◌++◌, Contains, refl, sym}
use Rattle.std.proofs.Common.{subst, true≢false}
use Rattle.std.specs.Prelude.{if◌then◌else◌}
use Rattle.std.specs.List.{flat_map}
use Rattle.terms.specs.Types.{Text, Id}
use Rattle.terms.proofs.ListMembers.{here, there, here_or, none_in}

-- a text that depends on a test
pub true_if : (b : Bool) (text : Text) → (if b then text else []) ≢ [] → b ≡ true
true_if true text some = refl
true_if false text some = absurd (some refl)

pub false_if : (b : Bool) (text : Text) → (if b then [] else text) ≢ [] → b ≡ false
false_if true text some = absurd (some refl)
false_if false text some = refl

pub cons_some : (c : ℕ) (text : Text) → (c ∷ text) ≢ []
cons_some c text none = cc none

pub some_if : (b : Bool) (c : ℕ) (text : Text) → b ≡ true → (if b then c ∷ text else []) ≢ []
some_if true c text is = cons_some c text
some_if false c text is = absurd (true≢false (sym is))

pub some_unless : (b : Bool) (c : ℕ) (text : Text) → b ≡ false → (if b then [] else c ∷ text) ≢ []
some_unless true c text is = absurd (true≢false is)
some_unless false c text is = cons_some c text

-- one text after another
pub front_or_back : (a b : Text) → (a ++ b) ≢ [] → (a ≢ []) ⊎ (b ≢ [])
front_or_back [] b some = inr some
front_or_back (c ∷ a) b some = inl (cons_some c a)

pub some_front : (a b : Text) → a ≢ [] → (a ++ b) ≢ []
some_front [] b some = absurd (some refl)
some_front (c ∷ a) b some = cons_some c (a ++ b)

pub some_back : (a b : Text) → b ≢ [] → (a ++ b) ≢ []
some_back [] b some = some
some_back (c ∷ a) b some = cons_some c (a ++ b)

-- the texts of all items
pub some_flat : {X : Type 0} (f : X → Text) (xs : List X) (x : X) → Contains xs x → f x ≢ [] → flat_map f xs ≢ []
some_flat f [] x is some = absurd (none_in x is)
some_flat f (y ∷ xs) x is some = elim (here_or y xs x is) [
  | inl same ↦ some_front (f y) (flat_map f xs) (subst (λ z. f z ≢ []) (sym same) some)
  | inr later ↦ some_back (f y) (flat_map f xs) (some_flat f xs x later some)
]

pub flat_some : {X : Type 0} (f : X → Text) (xs : List X) → flat_map f xs ≢ [] → (x : X) × Contains xs x × (f x ≢ [])
flat_some f [] some = absurd (some refl)
flat_some f (y ∷ xs) some = elim (front_or_back (f y) (flat_map f xs) some) [
  | inl first ↦ (y, here y xs, first)
  | inr rest ↦ let m = flat_some f xs rest in (m.0, there y xs m.0 m.1, m.2)
]

-- ids that depend on a test
pub if_in : (b : Bool) (ids : List Id) (y : Id) → Contains (if b then ids else []) y → (b ≡ true) × Contains ids y
if_in true ids y is = (refl, is)
if_in false ids y is = absurd (none_in y is)

pub in_if : (b : Bool) (ids : List Id) (y : Id) → b ≡ true → Contains ids y → Contains (if b then ids else []) y
in_if true ids y on is = is
in_if false ids y on is = absurd (true≢false (sym on))

-- a list with members
pub some_member : {X : Type 0} (xs : List X) → xs ≢ [] → (x : X) × Contains xs x
some_member [] some = absurd (some refl)
some_member (x ∷ xs) some = (x, here x xs)

pub member_some : {X : Type 0} (xs : List X) (x : X) → Contains xs x → xs ≢ []
member_some xs x is none = none_in x (subst (λ l. Contains l x) none is)
