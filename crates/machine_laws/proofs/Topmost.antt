-- Where any two of some items stand one over the other, it can't be refuted that one of them stands over all others.
use Rattle.std.proofs.Common.{◌≡◌, ◌≢◌, ◌⊎◌, inl, inr, List, [], ◌∷◌, Contains, sym, ◌∙◌, subst}
use Rattle.terms.proofs.ListMembers.{here_or, none_in}

module _ {X : Type 0} (P : X → Type 0) (Over : X → X → Type 0) (same : (x y : X) → (x ≡ y) ⊎ (x ≢ y))
    (through : (x y z : X) → Over x y → Over y z → Over x z)
    (ordered : (x y : X) → P x → P y → x ≢ y → ¬ ((¬ Over x y) × (¬ Over y x))) where
  -- it has the property, and is over each other item of the list that has it
  pub record IsTopmost (xs : List X) (x : X) : Type 0 where
    pub is : P x
    pub over : (z : X) → Contains xs z → P z → z ≢ x → Over x z

  -- one more item, which does not have the property, is the topmost one or is below it
  without_first : (x t : X) (xs : List X) → ¬ P x → IsTopmost xs t → IsTopmost (x ∷ xs) t
  without_first x t xs out top = record {
    is = top.is;
    over = λ z there has other. elim (here_or x xs z there) [
      | inl first ↦ absurd (out (subst P (sym first) has))
      | inr later ↦ top.over z later has other
    ];
  }

  first_alone : (x : X) (xs : List X) → P x → ((z : X) → Contains xs z → ¬ P z) → IsTopmost (x ∷ xs) x
  first_alone x xs has none = record {
    is = has;
    over = λ z there hasz other. elim (here_or x xs z there) [
      | inl first ↦ absurd (other (sym first))
      | inr later ↦ absurd (none z later hasz)
    ];
  }

  first_over : (x t : X) (xs : List X) → P x → IsTopmost xs t → Over x t → IsTopmost (x ∷ xs) x
  first_over x t xs has top over = record {
    is = has;
    over = λ z there hasz other. elim (here_or x xs z there) [
      | inl first ↦ absurd (other (sym first))
      | inr later ↦ elim (same z t) [
        | inl at ↦ subst (Over x) (sym at) over
        | inr apart ↦ through x t z over (top.over z later hasz apart)
      ]
    ];
  }

  first_below : (x t : X) (xs : List X) → IsTopmost xs t → ((x ≢ t) → Over t x) → IsTopmost (x ∷ xs) t
  first_below x t xs top over = record {
    is = top.is;
    over = λ z there has other. elim (here_or x xs z there) [
      | inl first ↦ subst (Over t) first (over (λ at. other (sym first ∙ at)))
      | inr later ↦ top.over z later has other
    ];
  }

  none_or_topmost : (xs : List X) → ¬ ¬ (((z : X) → Contains xs z → ¬ P z) ⊎ ((x : X) × IsTopmost xs x))
  none_or_topmost [] refuted = refuted (inl (λ z there. absurd (none_in z there)))
  none_or_topmost (x ∷ xs) refuted = none_or_topmost xs (λ rest. elim rest [
    | inl none ↦
        let out : ¬ P x = λ has. refuted (inr (x, first_alone x xs has none)) in
        refuted (inl (λ z there has. elim (here_or x xs z there) [
          | inl first ↦ out (subst P (sym first) has)
          | inr later ↦ none z later has
        ]))
    | inr found ↦
        let t = found.0 in
        let top = found.1 in
        let out : ¬ P x = λ has. elim (same x t) [
          | inl at ↦ refuted (inr (t, first_below x t xs top (λ apart. absurd (apart at))))
          | inr apart ↦ ordered x t has top.is apart (
            (λ over. refuted (inr (x, first_over x t xs has top over))),
            (λ over. refuted (inr (t, first_below x t xs top (λ other. over)))),
          )
        ] in
        refuted (inr (t, without_first x t xs out top))
  ])

  -- of items of which one has the property
  pub topmost : (xs : List X) (y : X) → Contains xs y → P y → ¬ ¬ ((x : X) × IsTopmost xs x)
  topmost xs y there has refuted = none_or_topmost xs (λ found. elim found [
    | inl none ↦ none y there has
    | inr some ↦ refuted some
  ])
