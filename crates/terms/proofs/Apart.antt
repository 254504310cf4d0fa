-- Lists without doubles, and how long they are.
use Rattle.std.proofs.Common.{◌≢◌, List, ◌≤◌, [], ◌∷◌, ◌++◌, length, sym, ◌∙◌, ap, subst, arith, length-append, ◌≡◌}
use Rattle.std.proofs.Common.{suc, take, drop, get_or, inl, inr}
use Rattle.std.specs.Prelude.{AllPairs, Contains}
use Rattle.std.proofs.Math.Seq.{drop-cons}
use Rattle.std.proofs.lemmas.List.{take-append-drop, get_or-take, length-take-le}
use Rattle.std.proofs.lemmas.List.Elements.{Contains-get_or, Contains-append_left, Contains-append_right}
use Rattle.std.proofs.lemmas.List.Elements.{Contains-append_cases}
use Rattle.terms.proofs.ListMembers.{here, there, here_or, parts, but}
use Rattle.terms.proofs.Pairs.{AllPairs_first, AllPairs_rest}

abbrev pub AreApart : {X : Type 0} → List X → Type 0
AreApart xs = AllPairs (λ a b. a ≢ b) xs

-- A list without doubles whose items stand in another is no longer.
pub apart_le : {X : Type 0} (xs ys : List X) → AreApart xs → ((z : X) → Contains xs z → Contains ys z)
    → length xs ≤ length ys
apart_le [] ys apart within = omega arith
apart_le {X = X} (x ∷ xs) ys apart within =
    let p = parts ys x (within x (here x xs)) in
    let first = AllPairs_first (λ a b. a ≢ b) x xs apart in
    let rest : (z : X) → Contains xs z → Contains (p.0 ++ p.1) z =
    λ z h. but p.0 p.1 x z (λ same. first h.0 z h.1 (same ∙ sym h.2))
    (subst (λ l. Contains l z) p.2 (within z (there x xs z h))) in
    let more = apart_le xs (p.0 ++ p.1) (AllPairs_rest (λ a b. a ≢ b) x xs apart) rest in
    omega (arith, more, ap length p.2, length-append p.0 (x ∷ p.1), length-append p.0 p.1)

-- One that has each item of a list without doubles, and is no longer, has none.
pub apart_from_length : {X : Type 0} (xs ys : List X) → AreApart ys → ((z : X) → Contains ys z → Contains xs z)
    → length xs ≤ length ys → AreApart xs
apart_from_length {X = X} xs ys apart within short = λ i j d before below same.
    let front = take j xs in
    let back = drop (suc j) xs in
    let x = get_or xs j d in
    let cut : xs ≡ front ++ x ∷ back = sym (take-append-drop j xs) ∙ ap (λ l. front ++ l) (drop-cons xs j d below) in
    let len : length front ≡ j = length-take-le j xs (omega arith) in
    let first : get_or front i d ≡ get_or xs i d = get_or-take j xs i d (omega (arith, len)) in
    let double : Contains front x = subst (Contains front) (first ∙ same)
    (Contains-get_or front i d (omega (arith, len))) in
    let rest : (z : X) → Contains ys z → Contains (front ++ back) z =
    λ z h. elim (Contains-append_cases front (x ∷ back) z (subst (λ l. Contains l z) cut (within z h))) [
      | inl low ↦ Contains-append_left front back z low
      | inr high ↦ elim (here_or x back z high) [
        | inl is ↦ Contains-append_left front back z
            (subst (Contains front) is double)
        | inr later ↦ Contains-append_right front back z later
      ]
    ] in
    omega (
      arith,
      apart_le ys (front ++ back) apart rest,
      short,
      ap length cut,
      length-append front (x ∷ back),
      length-append front back,
    )
