-- Short texts are in the order of their numbers.
use Rattle.std.proofs.Common.{◌≡◌, ◌<◌, ◌≤◌, ◌+◌, ◌*◌, ℕ, zero, suc, List, [], ◌∷◌, length, get_or, refl, sym, ap, ◌∙◌}
use Rattle.std.proofs.Common.{arith, subst}
use Rattle.std.specs.Prelude.{nat_eq}
use Rattle.std.specs.declared.cmp.Ordering.TheVariants.{Less, Equal, Greater}
use Rattle.std.specs.Ordering.{nat_cmp, ordering_then, is_eq}
use Rattle.std.specs.Cmp.{nat_cmp_is, unsigned_ties}
use Rattle.std.specs.Cmp.Lexicographic.{slice_cmp, texts_ties}
use Rattle.std.specs.List.{AllByRecursion}
use Rattle.std.specs.Str.{bytes_eq}
use Rattle.std.proofs.lemmas.Cmp.{ranked, by_ranked}
use Rattle.fields.specs.Padded.{padded}
use Rattle.fields.specs.ShortNumbers.{number_from, number_of}

abbrev AreBytes : List ℕ → Type 0
AreBytes text = AllByRecursion (λ b. b < 256) text

-- what comes first counts most
below : (n a b l m : ℕ) (x y : List ℕ) → a < b → l < 256 → m < 256 → AreBytes x → AreBytes y
    → number_from n a l x < number_from n b m y
below zero a b l m x y less fits room small few = omega arith
below (suc n) a b l m [] [] less fits room small few =
    below n (a * 256) (b * 256) l m [] [] (omega arith) fits room tt tt
below (suc n) a b l m (c ∷ x) [] less fits room small few =
    let byte = small.0 in
    below n (a * 256 + c) (b * 256) l m x [] (omega (arith, byte)) fits room small.1 tt
below (suc n) a b l m [] (d ∷ y) less fits room small few =
    below n (a * 256) (b * 256 + d) l m [] y (omega arith) fits room tt few.1
below (suc n) a b l m (c ∷ x) (d ∷ y) less fits room small few =
    let byte = small.0 in
    below n (a * 256 + c) (b * 256 + d) l m x y (omega (arith, byte)) fits room small.1 few.1

-- a text that has ended is below one that is longer, also where that has zeros alone
ended : (n a l m : ℕ) (y : List ℕ) → l < m → m < 256 → AreBytes y → number_from n a l [] < number_from n a m y
ended zero a l m y less room few = omega arith
ended (suc n) a l m [] less room few = ended n (a * 256) l m [] less room tt
ended (suc n) a l m (zero ∷ y) less room few =
    subst (λ k. number_from n (a * 256) l [] < number_from n k m y) (omega arith)
    (ended n (a * 256) l m y less room few.1)
ended (suc n) a l m (suc d ∷ y) less room few =
    below n (a * 256) (a * 256 + suc d) l m [] y (omega arith) (omega (arith, less, room)) room tt few.1

order : (n a k l m : ℕ) (x y : List ℕ) → l ≡ k + length x → m ≡ k + length y → length x ≤ n → length y ≤ n
    → l < 256 → m < 256 → AreBytes x → AreBytes y
    → nat_cmp (number_from n a l x) (number_from n a m y) ≡ slice_cmp nat_cmp x y
order n a k l m [] [] long wide fits room short few small bytes =
    sym (nat_cmp_is (number_from n a l []) (number_from n a m []) Equal
    (ap (λ j. number_from n a j []) (long ∙ sym wide)))
order n a k l m [] (d ∷ y) long wide fits room short few small bytes =
    sym (nat_cmp_is (number_from n a l []) (number_from n a m (d ∷ y)) Less
    (ended n a l m (d ∷ y) (omega (arith, long, wide)) few bytes))
order n a k l m (c ∷ x) [] long wide fits room short few small bytes =
    sym (nat_cmp_is (number_from n a l (c ∷ x)) (number_from n a m []) Greater
    (ended n a m l (c ∷ x) (omega (arith, long, wide)) short small))
order zero a k l m (c ∷ x) (d ∷ y) long wide fits room short few small bytes = absurd (omega (arith, fits))
order (suc n) a k l m (c ∷ x) (d ∷ y) long wide fits room short few small bytes =
    let one = number_from n (a * 256 + c) l x in
    let other = number_from n (a * 256 + d) m y in
    let rest = slice_cmp nat_cmp x y in
    by_ranked (c < d) (c ≡ d) (d < c) (nat_cmp c d) (ranked c d (nat_cmp c d) refl)
    (λ is less. sym (nat_cmp_is one other Less
    (below n (a * 256 + c) (a * 256 + d) l m x y (omega (arith, less)) short few small.1 bytes.1))
    ∙ sym (ap (λ o. ordering_then o rest) is))
    (λ is same. ap (λ b. nat_cmp one (number_from n (a * 256 + b) m y)) (sym same)
    ∙ order n (a * 256 + c) (suc k) l m x y (omega (arith, long)) (omega (arith, wide)) (omega (arith, fits))
    (omega (arith, room)) short few small.1 bytes.1
    ∙ sym (ap (λ o. ordering_then o rest) is))
    (λ is more. sym (nat_cmp_is one other Greater
    (below n (a * 256 + d) (a * 256 + c) m l y x (omega (arith, more)) few short bytes.1 small.1))
    ∙ sym (ap (λ o. ordering_then o rest) is))

pub order_of_numbers : (x y : List ℕ) → length x ≤ 7 → length y ≤ 7 → AreBytes x → AreBytes y
    → nat_cmp (number_of x) (number_of y) ≡ slice_cmp nat_cmp x y
order_of_numbers x y fits room small bytes =
    order 7 0 0 (length x) (length y) x y (omega arith) (omega arith) fits room (omega (arith, fits))
    (omega (arith, room)) small bytes

pub same_numbers : (x y : List ℕ) → length x ≤ 7 → length y ≤ 7 → AreBytes x → AreBytes y
    → nat_eq (number_of x) (number_of y) ≡ bytes_eq x y
same_numbers x y fits room small bytes =
    unsigned_ties (number_of x) (number_of y) ∙ ap is_eq (order_of_numbers x y fits room small bytes)
    ∙ sym (texts_ties x y)

-- the number is that of the eight bytes
pub number_of_bytes : (text bytes : List ℕ) → length text ≤ 7 → bytes ≡ padded 7 text
    → get_or bytes 0 0 * 72057594037927936 + get_or bytes 1 0 * 281474976710656 + get_or bytes 2 0 * 1099511627776
    + get_or bytes 3 0 * 4294967296 + get_or bytes 4 0 * 16777216 + get_or bytes 5 0 * 65536 + get_or bytes 6 0 * 256
    + length text ≡ number_of text
number_of_bytes [] bytes fits is =
    let whole : bytes ≡ 0 ∷ 0 ∷ 0 ∷ 0 ∷ 0 ∷ 0 ∷ 0 ∷ [] = is in
    let worth : number_of [] ≡
    (((((((0 * 256) * 256) * 256) * 256) * 256) * 256) * 256) * 256 + 0 = refl in
    rw whole (omega (arith, worth))
number_of_bytes (a ∷ []) bytes fits is =
    let whole : bytes ≡ a ∷ 0 ∷ 0 ∷ 0 ∷ 0 ∷ 0 ∷ 0 ∷ [] = is in
    let worth : number_of (a ∷ []) ≡
    (((((((0 * 256 + a) * 256) * 256) * 256) * 256) * 256) * 256) * 256 + 1 = refl in
    rw whole (omega (arith, worth))
number_of_bytes (a ∷ b ∷ []) bytes fits is =
    let whole : bytes ≡ a ∷ b ∷ 0 ∷ 0 ∷ 0 ∷ 0 ∷ 0 ∷ [] = is in
    let worth : number_of (a ∷ b ∷ []) ≡
    (((((((0 * 256 + a) * 256 + b) * 256) * 256) * 256) * 256) * 256) * 256 + 2 = refl in
    rw whole (omega (arith, worth))
number_of_bytes (a ∷ b ∷ c ∷ []) bytes fits is =
    let whole : bytes ≡ a ∷ b ∷ c ∷ 0 ∷ 0 ∷ 0 ∷ 0 ∷ [] = is in
    let worth : number_of (a ∷ b ∷ c ∷ []) ≡
    (((((((0 * 256 + a) * 256 + b) * 256 + c) * 256) * 256) * 256) * 256) * 256 + 3 = refl in
    rw whole (omega (arith, worth))
number_of_bytes (a ∷ b ∷ c ∷ d ∷ []) bytes fits is =
    let whole : bytes ≡ a ∷ b ∷ c ∷ d ∷ 0 ∷ 0 ∷ 0 ∷ [] = is in
    let worth : number_of (a ∷ b ∷ c ∷ d ∷ []) ≡
    (((((((0 * 256 + a) * 256 + b) * 256 + c) * 256 + d) * 256) * 256) * 256) * 256 + 4 = refl in
    rw whole (omega (arith, worth))
number_of_bytes (a ∷ b ∷ c ∷ d ∷ e ∷ []) bytes fits is =
    let whole : bytes ≡ a ∷ b ∷ c ∷ d ∷ e ∷ 0 ∷ 0 ∷ [] = is in
    let worth : number_of (a ∷ b ∷ c ∷ d ∷ e ∷ []) ≡
    (((((((0 * 256 + a) * 256 + b) * 256 + c) * 256 + d) * 256 + e) * 256) * 256) * 256 + 5 = refl in
    rw whole (omega (arith, worth))
number_of_bytes (a ∷ b ∷ c ∷ d ∷ e ∷ f ∷ []) bytes fits is =
    let whole : bytes ≡ a ∷ b ∷ c ∷ d ∷ e ∷ f ∷ 0 ∷ [] = is in
    let worth : number_of (a ∷ b ∷ c ∷ d ∷ e ∷ f ∷ []) ≡
    (((((((0 * 256 + a) * 256 + b) * 256 + c) * 256 + d) * 256 + e) * 256 + f) * 256) * 256 + 6 = refl in
    rw whole (omega (arith, worth))
number_of_bytes (a ∷ b ∷ c ∷ d ∷ e ∷ f ∷ g ∷ []) bytes fits is =
    let whole : bytes ≡ a ∷ b ∷ c ∷ d ∷ e ∷ f ∷ g ∷ [] = is in
    let worth : number_of (a ∷ b ∷ c ∷ d ∷ e ∷ f ∷ g ∷ []) ≡
    (((((((0 * 256 + a) * 256 + b) * 256 + c) * 256 + d) * 256 + e) * 256 + f) * 256 + g) * 256 + 7 = refl in
    rw whole (omega (arith, worth))
number_of_bytes (a ∷ b ∷ c ∷ d ∷ e ∷ f ∷ g ∷ h ∷ text) bytes fits is = absurd (omega (arith, fits))
