-- Searches for what breaks a rule: they find nothing if and only if the rule holds, and what they find breaks it.
use Rattle.std.proofs.Common.{◌≡◌, ◌∙◌, Bool, true, false, List, [], ◌∷◌, All, Option, Some, None, find, refl, sym, ap}
use Rattle.std.proofs.Common.{subst, IsTrue, ◌⊎◌, inl, inr}
use Rattle.std.specs.Prelude.{IsFalse, IfSome, Contains, is_some, not, option_map, if◌then◌else◌}
use Rattle.std.specs.Option.{option_or}
use Rattle.std.proofs.lemmas.Bool.{not-false, not_from_true}
use Rattle.std.proofs.lemmas.List.Elements.{All-nil, All-cons, All-head, All-tail, All-weaker, recursion_from_All}
use Rattle.terms.specs.Lookups.{at_most_one}
use Rattle.terms.proofs.ListMembers.{here, there, here_or, none_in}
use Rattle.terms.proofs.Searches.{find_gives, find_none, is_some_find, All_from_no_list_any}
use Rattle.smpe_verify.specs.FirstBreach.{first_of, none_or}

pub record Judges {Y : Type 0} (o : Option Y) (Rule : Type 0) (Breaks : Y → Type 0) : Type 0 where
  pub none : o ≡ None → Rule
  pub holds : Rule → o ≡ None
  pub some : (y : Y) → o ≡ Some y → Breaks y

-- the rule in other words
pub restated : {Y : Type 0} {o : Option Y} {P Q : Type 0} {B : Y → Type 0} → Judges o P B → (P → Q) → (Q → P)
    → Judges o Q B
restated j into back = record {
  none = λ e. into (j.none e);
  holds = λ q. j.holds (back q);
  some = j.some;
}

-- no search
pub nothing : {Y : Type 0} {B : Y → Type 0} → Judges None (Unit {0}) B
nothing = record { none = λ e. tt; holds = λ u. refl; some = λ y e. absurd (cc e) }

-- what is found is told in another way
pub mapped : {X Y : Type 0} {P : Type 0} {A : X → Type 0} {B : Y → Type 0} (o : Option X) (f : X → Y)
    → ((x : X) → A x → B (f x)) → Judges o P A → Judges (option_map f o) P B
mapped None f more j = record { none = λ e. j.none refl; holds = λ p. refl; some = λ y e. absurd (cc e) }
mapped {B = B} (Some x) f more j = record {
  none = λ e. absurd (cc e);
  holds = λ p. absurd (cc (j.holds p));
  some = λ y e. let same : f x ≡ y = cc e in subst B same (more x (j.some x refl));
}

-- one search, and then another one
pub either : {Y : Type 0} {P Q : Type 0} {B : Y → Type 0} (a b : Option Y) → Judges a P B → Judges b Q B
    → Judges (option_or a b) (P × Q) B
either None b one two = record {
  none = λ e. (one.none refl, two.none e);
  holds = λ both. two.holds both.1;
  some = two.some;
}
either (Some x) b one two = record {
  none = λ e. absurd (cc e);
  holds = λ both. one.holds both.0;
  some = one.some;
}

-- a search that is only made if a test passes
pub when : {Y : Type 0} {P : Type 0} {B : Y → Type 0} (b : Bool) (o : Option Y) → (IsTrue b → Judges o P B)
    → Judges (if b then o else None) (IsTrue b → P) B
when true o j = restated (j refl) (λ p is. p) (λ rule. rule refl)
when false o j = record { none = λ e is. absurd (cc is); holds = λ rule. refl; some = λ y e. absurd (cc e) }

-- a single test
pub tested : {Y : Type 0} {B : Y → Type 0} (y : Y) (b : Bool) → (IsFalse b → B y) → Judges (none_or y b) (IsTrue b) B
tested y true more = record { none = λ e. refl; holds = λ is. refl; some = λ z e. absurd (cc e) }
tested {B = B} y false more = record {
  none = λ e. absurd (cc e);
  holds = λ is. absurd (cc is);
  some = λ z e. let same : y ≡ z = cc e in subst B same (more refl);
}

-- the first item that passes
pub searched : {X : Type 0} (p : X → Bool) (xs : List X)
    → Judges (find p xs) (All (λ x. IsFalse (p x)) xs) (λ x. IsTrue (p x) × Contains xs x)
searched p xs = record {
  none = λ e. All_from_no_list_any p xs (sym (is_some_find p xs) ∙ ap is_some e);
  holds = λ all. find_none p xs (recursion_from_All (λ x. p x ≡ false) xs all);
  some = λ y e. find_gives p xs y e;
}

-- the first item that does not
pub searched_not : {X : Type 0} (p : X → Bool) (xs : List X)
    → Judges (find (λ x. not (p x)) xs) (All (λ x. IsTrue (p x)) xs) (λ x. IsTrue (not (p x)) × Contains xs x)
searched_not p xs = restated (searched (λ x. not (p x)) xs)
    (All-weaker (λ x. IsFalse (not (p x))) (λ x. IsTrue (p x)) (λ x h. not-false (p x) h) xs)
    (All-weaker (λ x. IsTrue (p x)) (λ x. IsFalse (not (p x))) (λ x h. not_from_true (p x) h) xs)

-- each item in turn
pub listed : {X Y : Type 0} (f : X → Option Y) (P : X → Type 0) (B : Y → Type 0) (xs : List X)
    → ((x : X) → Contains xs x → Judges (f x) (P x) B) → Judges (first_of f xs) (All P xs) B
listed f P B [] each = record { none = λ e. All-nil P; holds = λ all. refl; some = λ y e. absurd (cc e) }
listed f P B (x ∷ xs) each =
    restated (either (f x) (first_of f xs) (each x (here x xs)) (listed f P B xs (λ y h. each y (there x xs y h))))
    (λ both. All-cons P x xs both.0 both.1) (λ all. (All-head P x xs all, All-tail P x xs all))

-- of one value or none
pub all_of_one : {X : Type 0} (P : X → Type 0) (o : Option X) → All P (at_most_one o) → IfSome o P
all_of_one P None all = tt
all_of_one P (Some x) all = All-head P x [] all

pub one_of_all : {X : Type 0} (P : X → Type 0) (o : Option X) → IfSome o P → All P (at_most_one o)
one_of_all P None h = All-nil P
one_of_all P (Some x) h = All-cons P x [] h (All-nil P)

pub in_one : {X : Type 0} (o : Option X) (x : X) → Contains (at_most_one o) x → o ≡ Some x
in_one None x has = absurd (none_in x has)
in_one (Some y) x has = by (here_or y [] x has)
  where
    by : (y ≡ x) ⊎ Contains [] x → Some y ≡ Some x
    by (inl same) = ap Some same
    by (inr none) = absurd (none_in x none)
