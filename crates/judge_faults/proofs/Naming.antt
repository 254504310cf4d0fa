-- The marks of candidates that forbid each other by NPRE.
use Rattle.std.proofs.Common.{◌≡◌, ◌≢◌, ◌∙◌, ◌⊎◌, inl, inr, ℕ, ◌<◌, ◌+◌, true, false, List, [], ◌∷◌, ◌++◌}
use Rattle.std.proofs.Common.{Option, None, Some, length, take, get_or, refl, sym, ap, subst, Contains}
use Rattle.std.proofs.Common.{true≢false, slice_get, arith}
use Rattle.std.specs.Prelude.{◌↔◌}
use Rattle.std.proofs.lemmas.Bool.{cases_eq}
use Rattle.std.proofs.lemmas.Option.{same_Some, slice_get_within}
use Rattle.std.proofs.lemmas.List.Elements.{Contains-append_left, Contains-push, Contains-push_cases}
use Rattle.terms.specs.Types.{Id, Global}
use Rattle.terms.specs.Lookups.{IsRising, is_in}
use Rattle.terms.specs.Choice.{Choice, npre_of}
use Rattle.terms.proofs.Ids.{is_in_from_Contains}
use Rattle.terms.proofs.Places.{contains_at}
use Rattle.terms.proofs.Lists.{front_more}
use Rattle.judge_faults.specs.declared.own.OwnFaults.{OwnFaults}
use Rattle.judge_faults.specs.Own.{passes}
use Rattle.judge_faults.specs.Claims.{PassesAt}
use Rattle.judge_faults.specs.Sharing.{Marks, IsClashing}
use Rattle.judge_faults.specs.Forbidding.{IsEither, IsOfNamed, IsOfOne, IsByNpre, IsForbidding, AreClashing}
use Rattle.judge_faults.proofs.Marks.{marks_join, marks_same}
use Rattle.terms.proofs.IdPlaces.{two_places}

-- a candidate in front of a place passes and names one in NPRE, as `IsByNpre` says
abbrev pub IsByNpreBefore : Choice → List Id → List OwnFaults → ℕ → ℕ → Type 0
IsByNpreBefore c ids faults end n = (i : ℕ) × (i < end) × IsByNpre c ids faults i n

abbrev nowhere : Option ℕ
nowhere = None

-- the place of an id in a list that rises
pub only_place : (ids : List Id) → IsRising ids → (f x : Id) (i : ℕ) → slice_get ids i ≡ Some x → x ≡ f → (n : ℕ)
    → (Some i ≡ Some n) ↔ (slice_get ids n ≡ Some f)
only_place ids rising f x i at is n = (
  λ e. subst (λ k. slice_get ids k ≡ Some f) (same_Some i n e) (at ∙ ap (λ v. Some v) is),
  λ e. elim (cases_eq i n) [
    | inl same ↦ ap (λ k. Some k) same
    | inr other ↦ absurd (two_places ids rising i n x f at e other is)
  ],
)

pub place_none : (ids : List Id) (f : Id) → is_in ids f ≡ false → (n : ℕ)
    → (nowhere ≡ Some n) ↔ (slice_get ids n ≡ Some f)
place_none ids f none n = (
  λ e. absurd (cc e),
  λ e. absurd (true≢false (sym (is_in_from_Contains ids f (contains_at ids n f e)) ∙ none)),
)

pub marks_alike : (P Q : ℕ → Type 0) (old new : List ℕ) → ((n : ℕ) → P n ↔ Q n) → Marks P old new → Marks Q old new
marks_alike P Q old new same marks n = (
  λ h. elim ((marks n).0 h) [ inl was ↦ inl was | inr p ↦ inr ((same n).0 p) ],
  λ h. (marks n).1 (elim h [ inl was ↦ inl was | inr q ↦ inr ((same n).1 q) ]),
)

pub either_marked : (i m : ℕ) (old middle new : List ℕ) → Marks (λ n. n ≡ i) old middle → Marks (λ n. n ≡ m) middle new
    → Marks (IsEither i m) old new
either_marked i m old middle new first second =
    marks_join (λ n. n ≡ i) (λ n. n ≡ m) (IsEither i m) old middle new first second (λ n. (λ h. h, λ h. h))

module _ (ids : List Id) (faults : List OwnFaults) where
  -- ---- the place of a candidate that passes

  pub none_passing : (x : Id) → ((n : ℕ) → (nowhere ≡ Some n) ↔ (slice_get ids n ≡ Some x)) → (n : ℕ)
      → (nowhere ≡ Some n) ↔ PassesAt ids faults n x
  none_passing x told n = (λ e. absurd (cc e), λ p. (told n).1 p.at)

  module _ (i : ℕ) (x : Id) (own : OwnFaults) (at : (n : ℕ) → (Some i ≡ Some n) ↔ (slice_get ids n ≡ Some x))
      (own_at : slice_get faults i ≡ Some own) where
    pub one_passing : passes own ≡ true → (n : ℕ) → (Some i ≡ Some n) ↔ PassesAt ids faults n x
    one_passing on n = (
      λ e. subst (λ k. PassesAt ids faults k x) (same_Some i n e)
          (record { at = (at i).0 refl; own = own; own_at = own_at; passing = on }),
      λ p. (at n).1 p.at,
    )

    pub one_failing : passes own ≡ false → (n : ℕ) → (nowhere ≡ Some n) ↔ PassesAt ids faults n x
    one_failing off n = (
      λ e. absurd (cc e),
      λ p.
          let here : i ≡ n = same_Some i n ((at n).1 p.at) in
          let same : own ≡ p.own = same_Some own p.own (sym own_at ∙ subst (λ k. slice_get faults k ≡ Some p.own)
          (sym here) p.own_at) in
          absurd (true≢false (sym p.passing ∙ ap passes (sym same) ∙ off)),
    )

  -- ---- x, and one that it names

  pub named_none : (i : ℕ) (x y : Id) (old new : List ℕ) → new ≡ old
      → ((n : ℕ) → (nowhere ≡ Some n) ↔ PassesAt ids faults n y) → Marks (IsOfNamed ids faults i x y) old new
  named_none i x y old new same told =
      marks_same (IsOfNamed ids faults i x y) old new same
      (λ n h. let e = (told h.1.0).1 h.1.1 in absurd (cc e))

  pub named_there : (i m : ℕ) (x y : Id) (old new : List ℕ) → x ≢ y
      → ((n : ℕ) → (Some m ≡ Some n) ↔ PassesAt ids faults n y) → Marks (IsEither i m) old new
      → Marks (IsOfNamed ids faults i x y) old new
  named_there i m x y old new apart told =
      marks_alike (IsEither i m) (IsOfNamed ids faults i x y) old new (λ n. (
        λ h. (apart, (m, (told m).0 refl, h)),
        λ h. subst (λ k. IsEither i k n) (sym (same_Some m h.1.0 ((told h.1.0).1 h.1.1))) h.1.2,
      ))

  -- ---- x, and those that it names

  pub one_next : (i : ℕ) (x : Id) (named : List Id) (k : ℕ) (y : Id) (old middle new : List ℕ) → k < length named
      → y ≡ get_or named k y → Marks (IsOfOne ids faults i x (take k named)) old middle
      → Marks (IsOfNamed ids faults i x y) middle new → Marks (IsOfOne ids faults i x (take (k + 1) named)) old new
  one_next i x named k y old middle new below at first second =
      let front = take k named in
      subst (λ l. Marks (IsOfOne ids faults i x l) old new) (sym (front_more named k y below at))
      (marks_join (IsOfOne ids faults i x front) (IsOfNamed ids faults i x y) (IsOfOne ids faults i x (front ++ y ∷ []))
      old middle new first second (λ n. (
        λ h. elim (Contains-push_cases front y h.0 h.1) [
          | inl was ↦ inl (h.0, was, h.2)
          | inr is ↦ inr (subst (λ v. IsOfNamed ids faults i x v n) (sym is) h.2)
        ],
        λ h. elim h [
          | inl was ↦ (was.0, Contains-append_left front (y ∷ []) was.0 was.1, was.2)
          | inr this ↦ (y, Contains-push front y, this)
        ],
      )))

  module _ (c : Choice) where
    pub by_this : (i : ℕ) (x : Id) (a : OwnFaults) (old new : List ℕ) → slice_get ids i ≡ Some x
        → slice_get faults i ≡ Some a → passes a ≡ true → Marks (IsOfOne ids faults i x (npre_of c x)) old new
        → Marks (IsByNpre c ids faults i) old new
    by_this i x a old new at own_at on =
        marks_alike (IsOfOne ids faults i x (npre_of c x)) (IsByNpre c ids faults i) old new (λ n. (
          λ h. (x, record { at = at; own = a; own_at = own_at; passing = on }, h),
          λ h. subst (λ v. IsOfOne ids faults i v (npre_of c v) n) (same_Some h.0 x (sym h.1.at ∙ at)) h.2,
        ))

    -- ---- all of them

    pub before_next : (end : ℕ) (old middle new : List ℕ) → Marks (IsByNpreBefore c ids faults end) old middle
        → Marks (IsByNpre c ids faults end) middle new → Marks (IsByNpreBefore c ids faults (end + 1)) old new
    before_next end old middle new first second =
        marks_join (IsByNpreBefore c ids faults end) (IsByNpre c ids faults end) (IsByNpreBefore c ids faults (end + 1))
        old middle new first second (λ n. (
          λ h. elim (cases_eq h.0 end) [
            | inl last ↦ inr (subst (λ k. IsByNpre c ids faults k n) last h.2)
            | inr other ↦ inl (h.0, omega (arith, h.1, other), h.2)
          ],
          λ h. elim h [
            | inl was ↦ (was.0, omega (arith, was.1), was.2)
            | inr this ↦ (end, omega arith, this)
          ],
        ))

    pub before_all : (old new : List ℕ) → Marks (IsByNpreBefore c ids faults (length ids)) old new
        → Marks (IsForbidding c ids faults) old new
    before_all old new =
        marks_alike (IsByNpreBefore c ids faults (length ids)) (IsForbidding c ids faults) old new (λ n. (from n, to n))
      where
        from : (n : ℕ) → IsByNpreBefore c ids faults (length ids) n → IsForbidding c ids faults n
        from n (i, below, (x, own, (y, named, (apart, (m, other, inl is))))) = record {
          x = x;
          passes = subst (λ k. PassesAt ids faults k x) (sym is) own;
          place = m;
          y = y;
          other = other;
          apart = apart;
          names = inl named;
        }
        from n (i, below, (x, own, (y, named, (apart, (m, other, inr is))))) = record {
          x = y;
          passes = subst (λ k. PassesAt ids faults k y) (sym is) other;
          place = i;
          y = x;
          other = own;
          apart = λ same. apart (sym same);
          names = inr named;
        }

        to : (n : ℕ) → IsForbidding c ids faults n → IsByNpreBefore c ids faults (length ids) n
        to n f = by f.names
          where
            by : Contains (npre_of c f.x) f.y ⊎ Contains (npre_of c f.y) f.x
                → IsByNpreBefore c ids faults (length ids) n
            by (inl named) = (
              n,
              slice_get_within ids n f.x f.passes.at,
              (f.x, f.passes, (f.y, named, (f.apart, (f.place, f.other, inl refl)))),
            )
            by (inr named) = (
              f.place,
              slice_get_within ids f.place f.y f.other.at,
              (f.y, f.other, (f.x, named, (λ same. f.apart (sym same), (n, f.passes, inr refl)))),
            )

    pub clashing_both : (g : Global) (old new : List ℕ) → ((n : ℕ) → Contains old n ↔ IsClashing g c ids faults n)
        → Marks (IsForbidding c ids faults) old new → AreClashing g c ids faults new
    clashing_both g old new shared marks n = (
      λ h. elim ((marks n).0 h) [ inl was ↦ inl ((shared n).0 was) | inr by ↦ inr by ],
      λ h. (marks n).1 (elim h [ inl shares ↦ inl ((shared n).1 shares) | inr by ↦ inr by ]),
    )
