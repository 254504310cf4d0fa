-- The values of operands are determined.
use Rattle.std.proofs.Common.{◌≡◌, Bool, List, [], ◌∷◌, Option, Some, None, sym, ◌∙◌, ap, subst}
use Rattle.std.specs.Prelude.{IsSomeAnd}
use Rattle.std.proofs.lemmas.Cmp.{nat_list_cmp_total}
use Rattle.terms.specs.Types.{Text}
use Rattle.terms.specs.Words.{Word, HasMembers, IsListOf, IsOneOf, plain}
use Rattle.terms.specs.Operands.{AreSorted, HasOne, HasListed, HasSorted, HasRequired, HasOptional, HasTexts, HasFlag}
use Rattle.terms.proofs.RisingAlike.{rises_only}
use Rattle.terms.proofs.ExactWords.{members_only, list_only}

pub sorted_only : (texts a b : List Text) → AreSorted texts a → AreSorted texts b → a ≡ b
sorted_only texts a b s t = rises_only nat_list_cmp_total (λ x. x) a b s.rising t.rising (λ x h. (t.same x).1 ((s.same x).0 h))
    (λ x h. (s.same x).1 ((t.same x).0 h))

listed_only : (form : Text → Type 0) (list : Option Text) (a b : List Text)
    → IsSomeAnd list (λ text. IsListOf form text a) → IsSomeAnd list (λ text. IsListOf form text b) → a ≡ b
listed_only form None a b h k = absurd h
listed_only form (Some text) a b h k = list_only form form text a b h k

-- A word's list has one list of values in rising order.
pub has_sorted_only : (form : Text → Type 0) (w : Word) (a b : List Text) → HasSorted form w a → HasSorted form w b
    → a ≡ b
has_sorted_only form w a b h k = sorted_only h.0 a b h.2 (subst (λ l. AreSorted l b)
    (listed_only form w.list k.0 h.0 k.1 h.1) k.2)

-- and one value, where it has one
pub members_one : (list : Option Text) (m n : Text) → IsSomeAnd list (λ text. HasMembers text (plain m ∷ []))
    → IsSomeAnd list (λ text. HasMembers text (plain n ∷ [])) → m ≡ n
members_one None m n h k = absurd h
members_one (Some text) m n h k =
    let same = members_only text (plain m ∷ []) (plain n ∷ []) h k in
    let words : plain m ≡ plain n = cc (same) in
    ap (λ (w : Word). w.word) words

pub has_member : (form : Text → Type 0) (list : Option Text) (m : Text) → IsSomeAnd list (λ text. IsOneOf form text m)
    → IsSomeAnd list (λ text. HasMembers text (plain m ∷ [])) × form m
has_member form None m h = absurd h
has_member form (Some text) m h = (h.has_member, h.form_is)

pub one_of : (form : Text → Type 0) (list : Option Text) (m : Text)
    → IsSomeAnd list (λ text. HasMembers text (plain m ∷ [])) → form m → IsSomeAnd list (λ text. IsOneOf form text m)
one_of form None m h f = absurd h
one_of form (Some text) m h f = record { has_member = h; form_is = f }

-- Two forms take one and the same member.
pub own_only : (form other : Text → Type 0) (own : Option Text) (m n : Text)
    → IsSomeAnd own (λ text. IsOneOf form text m) → IsSomeAnd own (λ text. IsOneOf other text n) → m ≡ n
own_only form other own m n h k = members_one own m n (has_member form own m h).0 (has_member other own n k).0

pub one_value : (form : Text → Type 0) (w : Word) (m n : Text) → HasOne form w m → HasOne form w n → m ≡ n
one_value form w m n h k = own_only form form w.list m n h k

pub required_only : (form : Text → Type 0) (found : Option Word) (m n : Text) → HasRequired form found m
    → HasRequired form found n → m ≡ n
required_only form None m n h k = absurd h
required_only form (Some w) m n h k = one_value form w m n h k

pub optional_only : (form : Text → Type 0) (found : Option Word) (m n : Option Text) → HasOptional form found m
    → HasOptional form found n → m ≡ n
optional_only form None m n h k = h ∙ sym k
optional_only form (Some w) None n h k = absurd h
optional_only form (Some w) (Some m) None h k = absurd k
optional_only form (Some w) (Some m) (Some n) h k = ap (λ t. Some t) (one_value form w m n h k)

pub texts_only : (form : Text → Type 0) (found : Option Word) (a b : List Text) → HasTexts form found a
    → HasTexts form found b → a ≡ b
texts_only form None a b h k = h ∙ sym k
texts_only form (Some w) a b h k = has_sorted_only form w a b h k

pub some_only : (form : Text → Type 0) (found : Option Word) (a b : List Text)
    → IsSomeAnd found (λ w. HasSorted form w a) → IsSomeAnd found (λ w. HasSorted form w b) → a ≡ b
some_only form None a b h k = absurd h
some_only form (Some w) a b h k = has_sorted_only form w a b h k

pub listed_some_only : (form : Text → Type 0) (found : Option Word) (a b : List Text)
    → IsSomeAnd found (λ w. HasListed form w a) → IsSomeAnd found (λ w. HasListed form w b) → a ≡ b
listed_some_only form None a b h k = absurd h
listed_some_only form (Some w) a b h k = listed_only form w.list a b h k

pub flag_only : (found : Option Word) (m n : Bool) → HasFlag found m → HasFlag found n → m ≡ n
flag_only None m n h k = h ∙ sym k
flag_only (Some w) m n h k = h.0 ∙ sym k.0
