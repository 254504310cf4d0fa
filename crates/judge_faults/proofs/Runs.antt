-- The claims of one element after the other.
use Rattle.std.proofs.Common.{◌≡◌, ◌≢◌, ◌∙◌, ◌⊎◌, inl, inr, ℕ, ◌+◌, ◌-◌, ◌<◌, ◌≤◌, List, ◌++◌, Some, sym, ap, subst}
use Rattle.std.proofs.Common.{arith, Contains, get_or, slice_get, length}
use Rattle.std.specs.Prelude.{◌↔◌, take, drop}
use Rattle.std.proofs.Math.Seq.{take-add}
use Rattle.std.proofs.lemmas.Bool.{cases_eq, cases_order}
use Rattle.std.proofs.lemmas.List.{get_or-take, get_or-drop, length-take-le, length-drop}
use Rattle.std.proofs.lemmas.List.Elements.{Contains-append_left, Contains-append_right, Contains-append_cases}
use Rattle.std.proofs.lemmas.Option.{slice_get_within, slice_get-get_or, get_or_from_slice_get}
use Rattle.terms.specs.Types.{Global}
use Rattle.terms.specs.Choice.{Choice}
use Rattle.judge_faults.specs.declared.claims.Claim.{Claim}
use Rattle.judge_faults.specs.Claims.{AreGrouped}
use Rattle.judge_faults.specs.Sharing.{Clashes, ClashesOnOne, Marks, IsAmong, IsRun}

-- where an item stands in a part of a list
in_front_holds : {X : Type 0} (xs : List X) (k : ℕ) (x : X) → k ≤ length xs → Contains (take k xs) x
    → (i : ℕ) × (slice_get xs i ≡ Some x) × (i < k)
in_front_holds xs k x within (i, below, is) =
    let i_at : i < k = omega (arith, below, length-take-le k xs within) in (
      i,
      slice_get-get_or xs i x (omega (arith, i_at, within)) ∙ ap (λ v. Some v) (sym (get_or-take k xs i x i_at) ∙ is),
      i_at,
    )

in_part : {X : Type 0} (xs : List X) (start end : ℕ) (x : X) → start ≤ end → end ≤ length xs
    → Contains (take (end - start) (drop start xs)) x
    → (i : ℕ) × (slice_get xs i ≡ Some x) × (start ≤ i) × (i < end)
in_part xs start end x low high h =
    let p = in_front_holds (drop start xs) (end - start) x (omega (arith, high, length-drop start xs)) h in
    let inside : start + p.0 < length xs = omega (arith, p.2, high, low) in (
      start + p.0,
      slice_get-get_or xs (start + p.0) x inside ∙ ap (λ v. Some v) (sym (get_or-drop start xs p.0 x)
          ∙ get_or_is (drop start xs) p.0 x p.1),
      omega arith,
      omega (arith, p.2, low),
    )
  where
    get_or_is : {X : Type 0} (xs : List X) (i : ℕ) (x : X) → slice_get xs i ≡ Some x → get_or xs i x ≡ x
    get_or_is xs i x at = get_or_from_slice_get xs i x x at

-- no element has claims both in front of the place and from it on
abbrev pub IsSplit : List Claim → ℕ → Type 0
IsSplit claims k =
    (i j : ℕ) (a b : Claim) → slice_get claims i ≡ Some a → slice_get claims j ≡ Some b → i < k → k ≤ j
    → a.element ≢ b.element

-- a run ends where the next begins
pub split_next : (claims : List Claim) (start end : ℕ) → AreGrouped claims → IsRun claims start end
    → IsSplit claims start → IsSplit claims end
split_next claims start end grouped run split i j a b at_i at_j front back same = elim (cases_order i start) [
  | inl first ↦ in_run (omega (arith, first))
  | inr other ↦ elim other [
    | inl before ↦ split i j a b at_i at_j before (omega (arith, back, run.more)) same
    | inr after ↦ in_run (omega (arith, after))
  ]
]
  where
    in_run : start ≤ i → ⊥
    in_run low = elim (cases_eq j end) [
      | inl last ↦ run.ends b (subst (λ k. slice_get claims k ≡ Some b) last at_j)
          (sym same ∙ run.same i a at_i low front)
      | inr later ↦
          let below : end < length claims = omega (arith, back, later, slice_get_within claims j b at_j) in
          let d = get_or claims end a in
          let at_end = slice_get-get_or claims end a below in
          run.ends d at_end (grouped i end j a d b at_i at_end at_j front (omega (arith, back, later)) same
          ∙ run.same i a at_i low front)
    ]

pub split_none : (claims : List Claim) → IsSplit claims 0
split_none claims i j a b at_i at_j front back same = omega (arith, front)

module _ (g : Global) (c : Choice) where
  -- claims of other elements, and then those of one
  joined : (front run : List Claim) → ((a b : Claim) → Contains front a → Contains run b → a.element ≢ b.element)
      → ((a b : Claim) → Contains run a → Contains run b → a.element ≡ b.element)
      → (n : ℕ) → IsAmong (ClashesOnOne g c) (front ++ run) n
      ↔ (IsAmong (ClashesOnOne g c) front n ⊎ IsAmong (Clashes g c) run n)
  joined front run across one n = (from, to)
    where
      from : IsAmong (ClashesOnOne g c) (front ++ run) n
          → IsAmong (ClashesOnOne g c) front n ⊎ IsAmong (Clashes g c) run n
      from m = elim (Contains-append_cases front run m.a m.own) [
        | inl own ↦ elim (Contains-append_cases front run m.b m.other) [
          | inl other ↦ inl (record {
            a = m.a;
            b = m.b;
            own = own;
            other = other;
            clash = m.clash;
            place = m.place;
          })
          | inr other ↦ absurd (across m.a m.b own other m.clash.0)
        ]
        | inr own ↦ elim (Contains-append_cases front run m.b m.other) [
          | inl other ↦ absurd (across m.b m.a other own (sym m.clash.0))
          | inr other ↦ inr (record {
            a = m.a;
            b = m.b;
            own = own;
            other = other;
            clash = m.clash.1;
            place = m.place;
          })
        ]
      ]

      to : IsAmong (ClashesOnOne g c) front n ⊎ IsAmong (Clashes g c) run n
          → IsAmong (ClashesOnOne g c) (front ++ run) n
      to (inl m) = record {
        a = m.a;
        b = m.b;
        own = Contains-append_left front run m.a m.own;
        other = Contains-append_left front run m.b m.other;
        clash = m.clash;
        place = m.place;
      }
      to (inr m) = record {
        a = m.a;
        b = m.b;
        own = Contains-append_right front run m.a m.own;
        other = Contains-append_right front run m.b m.other;
        clash = (one m.a m.b m.own m.other, m.clash);
        place = m.place;
      }

  pub run_next : (claims : List Claim) (start end : ℕ) (shared new : List ℕ) → IsRun claims start end
      → IsSplit claims start
      → Marks (IsAmong (Clashes g c) (take (end - start) (drop start claims))) shared new
      → ((n : ℕ) → Contains shared n ↔ IsAmong (ClashesOnOne g c) (take start claims) n)
      → (n : ℕ) → Contains new n ↔ IsAmong (ClashesOnOne g c) (take end claims) n
  run_next claims start end shared new run split marks memo n =
      subst (λ l. Contains new n ↔ IsAmong (ClashesOnOne g c) l n) (sym parted) (
        λ h. both.1 (elim ((marks n).0 h) [ inl was ↦ inl ((memo n).0 was) | inr more ↦ inr more ]),
        λ m. (marks n).1 (elim (both.0 m) [ inl was ↦ inl ((memo n).1 was) | inr more ↦ inr more ]),
      )
    where
      within : start ≤ length claims
      within = let more = run.more in let inside = run.within in omega arith

      between : start ≤ end
      between = let more = run.more in omega arith

      parted : take end claims ≡ take start claims ++ take (end - start) (drop start claims)
      parted = subst (λ k. take k claims ≡ take start claims ++ take (end - start) (drop start claims))
          (omega (arith, between)) (take-add start (end - start) claims)

      both : IsAmong (ClashesOnOne g c) (take start claims ++ take (end - start) (drop start claims)) n
          ↔ (IsAmong (ClashesOnOne g c) (take start claims) n
          ⊎ IsAmong (Clashes g c) (take (end - start) (drop start claims)) n)
      both = joined (take start claims) (take (end - start) (drop start claims))
          (λ a b in_front in_run.
          let p = in_front_holds claims start a within in_front in
          let q = in_part claims start end b between run.within in_run in
          split p.0 q.0 a b p.1 q.1 p.2 q.2)
          (λ a b in_a in_b.
          let p = in_part claims start end a between run.within in_a in
          let q = in_part claims start end b between run.within in_b in
          run.same p.0 a p.1 p.2 p.3 ∙ sym (run.same q.0 b q.1 q.2 q.3)) n
