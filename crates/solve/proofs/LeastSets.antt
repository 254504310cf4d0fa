-- The least closed set is what the greatest self-supporting set leaves out.
use Rattle.std.proofs.Common.{◌≡◌, ◌<◌, ℕ, suc, Bool, false, List, [], ◌∷◌, length, map, get_or, refl, sym, ◌∙◌, ap}
use Rattle.std.proofs.Common.{arith, inl, inr}
use Rattle.std.specs.Prelude.{IsTrue, ◌&&◌, not, nat_lt}
use Rattle.std.specs.List.{All, Any, Contains, list_all}
use Rattle.std.proofs.lemmas.List.{get_or-map, get_or_past, length-map}
use Rattle.std.proofs.lemmas.List.Elements.{All-contains, All-map, Contains-get_or}
use Rattle.std.proofs.lemmas.List.Sums.{AllPass-from_list_all}
use Rattle.std.proofs.lemmas.Bool.{cases_Bool, cases_lt, and_parts, and_from, ltb-true, lt-ltb, not-true}
use Rattle.solve.specs.System.{System, Need, IsNeed, IsSystem, IsSelfSupporting, AreKept, holds}
use Rattle.solve.specs.Least.{Growth, IsClosed, IsLeast, rule_of, growth_of}
use Rattle.solve.proofs.GreatestKept.{greatest_from_kept}

-- flags that are closed and part of every closed set are the least
pub least_from_closed : (g : Growth) (flags : List Bool) → length flags ≡ length g.start → IsClosed g (holds flags)
    → ((set : ℕ → Bool) → IsClosed g set → (x : ℕ) → IsTrue (holds flags x) → IsTrue (set x)) → IsLeast g flags
least_from_closed g flags size closed part = record {
  size = size;
  members = λ x. (λ member set others. part set others x member, λ grown. grown (holds flags) closed);
}

-- the flags turned round, as tests
pub holds_not : (flags : List Bool) (x : ℕ) → x < length flags → holds (map not flags) x ≡ not (holds flags x)
holds_not flags x below = get_or-map not flags x false false below

-- a member of the flags turned round is below their number, and no member of the flags
pub member_not : (flags : List Bool) (x : ℕ) → IsTrue (holds (map not flags) x)
    → (x < length flags) × (holds flags x ≡ false)
member_not flags x member = elim (cases_lt x (length flags)) [
  | inl below ↦ (below, not-true (holds flags x) (sym (holds_not flags x below) ∙ member))
  | inr past ↦ absurd (
      let long : length (map not flags) ≡ length flags = length-map flags not in
      let out : holds (map not flags) x ≡ false = get_or_past (map not flags) x false (omega arith) in
      cc)
]

pub not_member : (flags : List Bool) (x : ℕ) → x < length flags → holds flags x ≡ false
    → IsTrue (holds (map not flags) x)
not_member flags x below out = holds_not flags x below ∙ ap not out

-- the numbers that are candidates and outside of a set
abbrev outside : System → (ℕ → Bool) → ℕ → Bool
outside p set x = nat_lt x p.size && not (set x)

outside_from : (p : System) (set : ℕ → Bool) (x : ℕ) → x < p.size → set x ≡ false → IsTrue (outside p set x)
outside_from p set x below out = and_from (nat_lt x p.size) (not (set x)) (lt-ltb x p.size below) (ap not out)

outside_parts : (p : System) (set : ℕ → Bool) (x : ℕ) → IsTrue (outside p set x) → (x < p.size) × (set x ≡ false)
outside_parts p set x member = let both = and_parts (nat_lt x p.size) (not (set x)) member
    in (ltb-true x p.size both.0, not-true (set x) both.1)

-- a number of the list that fails, where not all of them pass
some_fails : (set : ℕ → Bool) (xs : List ℕ) → list_all set xs ≡ false → Any (λ y. set y ≡ false) xs
some_fails set [] contra = cc
some_fails set (x ∷ xs) fails = elim (cases_Bool (set x)) [
  | inl passes ↦
      let rest = some_fails set xs (ap (λ b. b && list_all set xs) (sym passes) ∙ fails) in
      (suc rest.0, rest.1, omega (arith, rest.2), rest.3, rest.4)
  | inr here ↦ (0, x, omega arith, refl, here)
]

-- what a closed set leaves out supports itself
outside_supported : (p : System) (set : ℕ → Bool) → IsSystem p → IsClosed (growth_of p) set
    → IsSelfSupporting p (outside p set)
outside_supported p set valid closed = record {
  eligible = λ x member.
      let parts = outside_parts p set x member in
      elim (cases_Bool (holds p.eligible x)) [
        | inl good ↦ good
        | inr bad ↦ absurd (cc (
          parts.1,
          closed.start x (not_member p.eligible x (omega (arith, valid.flags, parts.0))
              bad),
        ))
      ];
  served = λ k e below member.
      let d = get_or p.needs k e in
      let parts = outside_parts p set d.of member in
      let among : Contains p.needs d = Contains-get_or p.needs k e below in
      let rule : All (λ y. IsTrue (set y)) d.any → IsTrue (set d.of) = rule_at p set closed d among in
      elim (cases_Bool (list_all set d.any)) [
        | inl all ↦ absurd (cc (parts.1, rule (AllPass-from_list_all set d.any all)))
        | inr fails ↦
            let some = some_fails set d.any fails in
            let low : some.1 < p.size = All-contains (λ y. y < p.size) d.any some.1
            (All-contains (IsNeed p.size) p.needs d valid.needs among).any (some.0, some.2, some.3) in
            (some.0, some.1, some.2, some.3, outside_from p set some.1 low some.4)
      ];
}
  where
    rule_at : (p : System) (set : ℕ → Bool) → IsClosed (growth_of p) set → (d : Need) → Contains p.needs d
        → All (λ y. IsTrue (set y)) d.any → IsTrue (set d.of)
    rule_at p set closed d among = All-contains (λ r. All (λ y. IsTrue (set y)) r.these → IsTrue (set r.that))
        (map rule_of p.needs) (rule_of d) closed.rules (
          among.0,
          rw length-map among.1,
          get_or-map rule_of p.needs among.0 d (rule_of d) among.1
              ∙ ap rule_of among.2,
        )

-- What the greatest self-supporting set leaves out is the least closed set.
pub least_from_kept : (p : System) (kept : List Bool) → IsSystem p → AreKept p kept
    → IsLeast (growth_of p) (map not kept)
least_from_kept p kept valid are_kept =
    let greatest = greatest_from_kept p kept are_kept in
    least_from_closed (growth_of p) (map not kept)
    (length-map kept not ∙ are_kept.size ∙ sym valid.flags ∙ sym (length-map p.eligible not))
    (record {
      start = λ x starts.
          let out = member_not p.eligible x starts in
          elim (cases_Bool (holds kept x)) [
            | inl inside ↦ absurd (cc (out.1, greatest.self_supporting.eligible x inside))
            | inr missing ↦ not_member kept x (omega (arith, are_kept.size, valid.flags, out.0)) missing
          ];
      rules = All-map (λ r. All (λ y. IsTrue (holds (map not kept) y)) r.these → IsTrue (holds (map not kept) r.that))
          rule_of p.needs
          (λ k e below all.
          let d = get_or p.needs k e in
          let low : d.of < p.size = (valid.needs k e below).of in
          elim (cases_Bool (holds kept d.of)) [
            | inl inside ↦ absurd (
                let some = greatest.self_supporting.served k e below inside in
                let out = member_not kept some.1 (All-contains (λ y. IsTrue (holds (map not kept) y)) d.any some.1 all
                (some.0, some.2, some.3)) in
                cc (out.1, some.4))
            | inr missing ↦ not_member kept d.of (omega (arith, are_kept.size, low)) missing
          ]);
    })
    (λ set closed x member.
    let out = member_not kept x member in
    elim (cases_Bool (set x)) [
      | inl inside ↦ inside
      | inr missing ↦ absurd (
          cc (
            out.1,
            greatest.greatest (outside p set) (outside_supported p set valid closed) x
                (outside_from p set x (omega (arith, are_kept.size, out.0)) missing),
          ))
    ])
