-- The members of a list are read one by one.
use Rattle.std.proofs.Common.{◌≡◌, List, [], ◌∷◌, ◌++◌, map, Option, Some, None, refl, sym, ◌∙◌, ap, subst}
use Rattle.std.proofs.Common.{append_assoc}
use Rattle.std.specs.Prelude.{All, true, false, is_some, option_map, IsSomeAnd, IfSome, IfNone}
use Rattle.std.proofs.lemmas.List.{map-append}
use Rattle.std.proofs.lemmas.List.Elements.{All-head, All-tail}
use Rattle.terms.specs.Types.{Text}
use Rattle.terms.specs.Words.{Word, plain}

-- one text more
pub plain_more : (texts : List Text) (t : Text) (ms : List Word)
    → map plain (texts ++ t ∷ []) ++ ms ≡ map plain texts ++ plain t ∷ ms
plain_more texts t ms = ap (λ x. x ++ ms) (map-append plain texts (t ∷ []))
    ∙ append_assoc (map plain texts) (plain t ∷ []) ms

pub text_more : {X : Type 0} (text : X → Text) (xs items : List X) (x : X) → items ≡ xs ++ x ∷ []
    → map text items ≡ map text xs ++ text x ∷ []
text_more text xs items x items_are = ap (map text) items_are ∙ map-append text xs (x ∷ [])

-- Among plain members of a form there is none that is not one.
pub no_plain : (form : Text → Type 0) (ms : List Text) (before rest : List Word) (w : Word) → All form ms
    → map plain ms ≡ before ++ w ∷ rest → ((m : Text) → w ≡ plain m → form m → ⊥) → ⊥
no_plain form [] [] rest w each is none = cc (is)
no_plain form [] (b ∷ before) rest w each is none = cc (is)
no_plain form (m ∷ ms) [] rest w each is none =
    let first : plain m ≡ w = cc (is) in
    none m (sym first) (All-head form m ms each)
no_plain form (m ∷ ms) (b ∷ before) rest w each is none =
    let others : map plain ms ≡ before ++ w ∷ rest = cc (is) in
    no_plain form ms before rest w (All-tail form m ms each) others none

-- of one member
pub one_is : (rest : List Word) (m : Text) (w : Word) → plain m ∷ [] ≡ w ∷ rest → (w ≡ plain m) × (rest ≡ [])
one_is rest m w is = (cc (is), cc (is))

pub plain_word : (w : Word) → w.list ≡ None → w ≡ plain w.word
plain_word w none = ap (λ l. record { word = w.word; list = l }) none

-- The members are all read.
pub plain_only : (ms texts : List Text) → map plain ms ≡ map plain texts ++ [] → ms ≡ texts
plain_only [] [] e = refl
plain_only [] (t ∷ texts) e = absurd (cc (e))
plain_only (m ∷ ms) [] e = absurd (cc (e))
plain_only (m ∷ ms) (t ∷ texts) e =
    let first : plain m ≡ plain t = cc (e) in
    let others : map plain ms ≡ map plain texts ++ [] = cc (e) in
    cc (ap (λ w. w.word) first, plain_only ms texts others)

pub some_and : {X Y : Type 0} (o : Option X) (f : X → Y) (x : X) (P : Y → Type 0) → o ≡ Some x
    → IsSomeAnd (option_map f o) P → P (f x)
some_and o f x P is h = subst (λ o. IsSomeAnd (option_map f o) P) is h

pub and_some : {X Y : Type 0} (o : Option X) (f : X → Y) (x : X) (P : Y → Type 0) → o ≡ Some x → P (f x)
    → IsSomeAnd (option_map f o) P
and_some o f x P is h = subst (λ o. IsSomeAnd (option_map f o) P) (sym is) h

pub if_none : {X : Type 0} (o : Option X) (P : Type 0) → is_some o ≡ false → IfNone o P → P
if_none None P is h = h
if_none (Some x) P is h = absurd (cc (is))

pub if_some : {X : Type 0} (o : Option X) (P : X → Type 0) → is_some o ≡ true → IfSome o P → (x : X) × P x
if_some None P is h = absurd (cc (is))
if_some (Some x) P is h = (x, h)
