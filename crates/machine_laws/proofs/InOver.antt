-- Ids of which over orders each two can be put in its order.
use Rattle.std.proofs.Common.{◌≢◌, ◌⊎◌, inl, inr, List, [], ◌∷◌, Contains, AllPairs, sym, subst, arith}
use Rattle.std.specs.Prelude.{◌↔◌}
use Rattle.std.proofs.lemmas.List.Elements.{All-contains}
use Rattle.std.proofs.lemmas.List.Kept.{AllPairs-cons}
use Rattle.terms.proofs.ListMembers.{here, there, here_or}
use Rattle.terms.proofs.Pairs.{AllPairs_first, AllPairs_rest}
use Rattle.terms.specs.Types.{Id}
use Rattle.terms.specs.Choice.{Choice}
use Rattle.terms.specs.Over.{IsOver, names}
use Rattle.terms.proofs.Ids.{in_or_not}
use Rattle.terms.proofs.Leads.{reaches_through}
use Rattle.terms.proofs.Each.{All_from_each}

module _ (c : Choice) where
  -- each later id is over each earlier one
  abbrev pub Ascend : List Id → Type 0
  Ascend ids = AllPairs (λ y z. IsOver c z y) ids

  -- the same ids, in the order of over
  pub record AreInOver (ids ordered : List Id) : Type 0 where
    pub ascend : Ascend ordered
    pub members : (x : Id) → Contains ordered x ↔ Contains ids x

  -- One of two ids is over the other.
  abbrev pub AreOrderedBoth : Id → Id → Type 0
  AreOrderedBoth x y = IsOver c x y ⊎ IsOver c y x

  -- an id more takes its place
  placed : (x : Id) (ys : List Id) → Ascend ys → ((y : Id) → Contains ys y → AreOrderedBoth x y)
      → (zs : List Id) × AreInOver (x ∷ ys) zs
  placed x [] ascend ordered = (x ∷ [], record { ascend = one; members = λ z. (λ is. is, λ is. is) })
    where
      one : Ascend (x ∷ [])
      one = λ i j d before below. absurd (omega (arith, before, below))
  placed x (y ∷ ys) ascend ordered = by (placed x ys (AllPairs_rest (λ v w. IsOver c w v) y ys ascend)
      (λ z is. ordered z (there y ys z is))) (ordered y (here y ys))
    where
      above : (z : Id) → Contains ys z → IsOver c z y
      above z is = All-contains (λ w. IsOver c w y) ys z (AllPairs_first (λ v w. IsOver c w v) y ys ascend) is

      by : (zs : List Id) × AreInOver (x ∷ ys) zs → AreOrderedBoth x y → (zs : List Id) × AreInOver (x ∷ y ∷ ys) zs
      by rest (inr under) = (
        x ∷ y ∷ ys,
        record {
          ascend = AllPairs-cons (λ v w. IsOver c w v) x (y ∷ ys)
              (All_from_each (λ w. IsOver c w x) (y ∷ ys) (λ w is. elim (here_or y ys w is) [
                | inl same ↦ subst (λ v. IsOver c v x) same under
                | inr later ↦ reaches_through (names c) w y x (above w later) under
              ]))
              ascend;
          members = λ z. (λ is. is, λ is. is);
        },
      )
      by rest (inl over) = (
        y ∷ rest.0,
        record {
          ascend = AllPairs-cons (λ v w. IsOver c w v) y rest.0
              (All_from_each (λ w. IsOver c w y) rest.0 (λ w is. elim (here_or x ys w ((rest.1.members w).0 is)) [
                | inl same ↦ subst (λ v. IsOver c v y) same over
                | inr later ↦ above w later
              ]))
              rest.1.ascend;
          members = λ z. (
            λ is. elim (here_or y rest.0 z is) [
              | inl same ↦ there x (y ∷ ys) z (subst (Contains (y ∷ ys)) same (here y ys))
              | inr later ↦ elim (here_or x ys z ((rest.1.members z).0 later)) [
                | inl same ↦ subst (Contains (x ∷ y ∷ ys)) same (here x (y ∷ ys))
                | inr last ↦ there x (y ∷ ys) z (there y ys z last)
              ]
            ],
            λ is. elim (here_or x (y ∷ ys) z is) [
              | inl same ↦ there y rest.0 z ((rest.1.members z).1 (subst (Contains (x ∷ ys)) same (here x ys)))
              | inr later ↦ elim (here_or y ys z later) [
                | inl same ↦ subst (Contains (y ∷ rest.0)) same (here y rest.0)
                | inr last ↦ there y rest.0 z ((rest.1.members z).1 (there x ys z last))
              ]
            ],
          );
        },
      )

  pub in_over : (ids : List Id)
      → ((x y : Id) → Contains ids x → Contains ids y → x ≢ y → AreOrderedBoth x y)
      → (ordered : List Id) × AreInOver ids ordered
  in_over [] ordered = (
    [],
    record {
      ascend = λ i j d before below. absurd (omega (arith, below));
      members = λ x. (λ is. is, λ is. is);
    },
  )
  in_over (x ∷ xs) ordered = by (in_over xs (λ y z in_y in_z. ordered y z (there x xs y in_y) (there x xs z in_z)))
      (in_or_not xs x)
    where
      by : (ys : List Id) × AreInOver xs ys → Contains xs x ⊎ (¬ Contains xs x)
          → (ys : List Id) × AreInOver (x ∷ xs) ys
      by rest (inl again) = (
        rest.0,
        record {
          ascend = rest.1.ascend;
          members = λ z. (
            λ is. there x xs z ((rest.1.members z).0 is),
            λ is. elim (here_or x xs z is) [
              | inl same ↦ (rest.1.members z).1 (subst (Contains xs) same again)
              | inr later ↦ (rest.1.members z).1 later
            ],
          );
        },
      )
      by rest (inr new) =
          let more = placed x rest.0 rest.1.ascend (λ y is.
          let of_y = (rest.1.members y).0 is in
          ordered x y (here x xs) (there x xs y of_y)
          (λ same. new (subst (Contains xs) (sym same) of_y))) in (
            more.0,
            record {
              ascend = more.1.ascend;
              members = λ z. (
                λ is. elim (here_or x rest.0 z ((more.1.members z).0 is)) [
                  | inl same ↦ subst (Contains (x ∷ xs)) same (here x xs)
                  | inr later ↦ there x xs z ((rest.1.members z).0 later)
                ],
                λ is. (more.1.members z).1 (elim (here_or x xs z is) [
                  | inl same ↦ subst (Contains (x ∷ rest.0)) same (here x rest.0)
                  | inr later ↦ there x rest.0 z ((rest.1.members z).1 later)
                ]),
              );
            },
          )
