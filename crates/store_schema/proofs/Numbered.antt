-- The ++VERs of a SYSMOD with their numbers: they rise by SREL and number, and tell the list.
use Rattle.std.proofs.Common.{◌≡◌, ◌≢◌, ◌⊎◌, inl, inr, ℕ, ◌+◌, ◌<◌, Bool, true, false, not, eqb, List}
use Rattle.std.proofs.Common.{[], ◌∷◌, ◌++◌, map, filter, length, length-append, Ordering, Less, Equal, Greater}
use Rattle.std.proofs.Common.{IsTrue, IsFalse, true≢false, arith, refl, sym, ap, subst, ◌∙◌}
use Rattle.std.specs.Ordering.{is_lt, is_eq, nat_cmp, ordering_reverse}
use Rattle.std.specs.Str.{bytes_eq}
use Rattle.std.specs.Cmp.Lexicographic.{slice_cmp, texts_ties}
use Rattle.std.proofs.lemmas.Bool.{eqb-true, false_from_ne_true}
use Rattle.std.proofs.lemmas.Cmp.{nat_list_cmp_total}
use Rattle.std.proofs.lemmas.List.Elements.{filter-append}
use Rattle.terms.proofs.TextOrder.{same_from, same_itself}
use Rattle.sqlite.specs.Tree.{IsAscending}
use Rattle.sqlite_rules.specs.Lists.{Has}
use Rattle.sqlite_rules.proofs.ListLemmas.{all_has, all_from, has_either, has_filtered}
use Rattle.terms.specs.declared.kinds.Kind.{Kind}
use Rattle.terms.specs.declared.kinds.Kind.TheVariants.{Function}
use Rattle.terms.specs.Types.{Text, Ver, Sysmod}
use Rattle.terms.specs.Lookups.{is_before}
use Rattle.store_schema.specs.Forms.{AreVersApart, HasSysmodForms}
use Rattle.store_schema.specs.Rows.{number_behind, numbered_behind, is_first}
use Rattle.store_schema.proofs.WrittenLists.{ascending, one_place}
use Rattle.store_schema.proofs.Spelled.{before_once, not_before_same}

-- how many of these ++VERs are for the SREL
abbrev pub count_of : Text → List Ver → ℕ
count_of srel vs = length (filter (λ w. bytes_eq w.srel srel) vs)

count_more : (srel : Text) (front : List Ver) (v : Ver)
    → count_of srel (front ++ v ∷ []) ≡ count_of srel front + count_of srel (v ∷ [])
count_more srel front v =
    ap length (filter-append (λ (w : Ver). bytes_eq w.srel srel) front (v ∷ []))
    ∙ length-append (filter (λ (w : Ver). bytes_eq w.srel srel) front) _

count_same : (srel : Text) (v : Ver) → v.srel ≡ srel → count_of srel (v ∷ []) ≡ 1
count_same srel v e = rw (e, same_itself srel) refl

-- their members
pub numbered_is : (front vs : List Ver) → map (λ (p : ℕ × Ver). p.1) (numbered_behind front vs) ≡ vs
numbered_is front [] = refl
numbered_is front (v ∷ vs) = ap (λ ws. v ∷ ws) (numbered_is (front ++ v ∷ []) vs)

pub numbered_has : (front vs : List Ver) (p : ℕ × Ver) → Has (numbered_behind front vs) p → Has vs p.1
numbered_has front [] p h = absurd h
numbered_has front (v ∷ vs) p (inl e) = inl (ap (λ (q : ℕ × Ver). q.1) e)
numbered_has front (v ∷ vs) p (inr h) = inr (numbered_has (front ++ v ∷ []) vs p h)

-- a number is above those in front
pub number_above : (front vs : List Ver) (p : ℕ × Ver) → Has (numbered_behind front vs) p
    → count_of p.1.srel front < p.0
number_above front [] p h = absurd h
number_above front (v ∷ vs) p (inl e) = subst (λ (q : ℕ × Ver). count_of q.1.srel front < q.0) (sym e) (omega arith)
number_above front (v ∷ vs) p (inr h) = omega (
  arith,
  number_above (front ++ v ∷ []) vs p h,
  count_more p.1.srel front v,
)

-- ---- their order

-- by SREL, and then by number
abbrev pub IsVerBefore : ℕ × Ver → ℕ × Ver → Type 0
IsVerBefore a b = IsTrue (is_before a.1.srel b.1.srel) ⊎ ((a.1.srel ≡ b.1.srel) × (a.0 < b.0))

pub ver_once : (a b : ℕ × Ver) → IsVerBefore a b → ¬ IsVerBefore b a
ver_once a b (inl p) (inl q) = before_once a.1.srel b.1.srel p q
ver_once a b (inl p) (inr q) = not_before_same a.1.srel b.1.srel (sym q.0) p
ver_once a b (inr p) (inl q) = not_before_same b.1.srel a.1.srel (sym p.0) q
ver_once a b (inr p) (inr q) = absurd (omega (arith, p.1, q.1))

-- of two texts of which the second is not before the first
pub not_behind : (x y : Text) → IsFalse (is_before y x) → IsTrue (is_before x y) ⊎ (x ≡ y)
not_behind x y h = by (slice_cmp nat_cmp x y) refl
  where
    by : (o : Ordering) → slice_cmp nat_cmp x y ≡ o → IsTrue (is_before x y) ⊎ (x ≡ y)
    by Less e = inl (ap is_lt e)
    by Equal e = inr (same_from x y (texts_ties x y ∙ ap is_eq e))
    by Greater e = absurd (true≢false (sym (ap is_lt (nat_list_cmp_total.antisymm y x ∙ ap ordering_reverse e)) ∙ h))

module _ (kind : Kind) where
  -- each of these is apart from each that stands behind
  abbrev pub AreBehind : List Ver → List Ver → Type 0
  AreBehind front vs = (u w : Ver) → Has front u → Has vs w → AreVersApart kind u w

  behind_more : (front : List Ver) (v : Ver) (vs : List Ver) → AreBehind front (v ∷ vs)
      → IsAscending (AreVersApart kind) (v ∷ vs) → AreBehind (front ++ v ∷ []) vs
  behind_more front v vs behind rise u w hu hw = elim (has_either front (v ∷ []) u hu) [
    | inl before ↦ behind u w before (inr hw)
    | inr last ↦ elim last [
      | inl same ↦ subst (λ x. AreVersApart kind x w) (sym same) (all_has (AreVersApart kind v) vs w rise.0 hw)
      | inr none ↦ absurd none
    ]
  ]

  pub numbers_ascend : (front vs : List Ver) → IsAscending (AreVersApart kind) vs
      → IsAscending IsVerBefore (numbered_behind front vs)
  numbers_ascend front [] rise = tt
  numbers_ascend front (v ∷ vs) rise = (all_from _ _ first, numbers_ascend (front ++ v ∷ []) vs rise.1)
    where
      first : (p : ℕ × Ver) → Has (numbered_behind (front ++ v ∷ []) vs) p → IsVerBefore (number_behind front v, v) p
      first p h = elim (not_behind v.srel p.1.srel
          (all_has (AreVersApart kind v) vs p.1 rise.0 (numbered_has (front ++ v ∷ []) vs p h)).srels) [
            | inl before ↦ inl before
            | inr same ↦ inr (same, higher same)
          ]
        where
          higher : v.srel ≡ p.1.srel → number_behind front v < p.0
          higher same =
              let above = number_above (front ++ v ∷ []) vs p h in
              let more = count_more p.1.srel front v in
              let one = count_same p.1.srel v same in
              let front_is : count_of v.srel front ≡ count_of p.1.srel front = ap (λ x. count_of x front) same in
              omega (arith, above, more, one, front_is)

  -- one with a number other than 1 is in no function
  pub numbered_service : (front vs : List Ver) → AreBehind front vs → IsAscending (AreVersApart kind) vs → (p : ℕ × Ver)
      → Has (numbered_behind front vs) p → p.0 ≢ 1 → kind ≢ Function
  numbered_service front [] behind rise p h other = absurd h
  numbered_service front (v ∷ vs) behind rise p (inr h) other = numbered_service (front ++ v ∷ []) vs
      (behind_more front v vs behind rise) rise.1 p h other
  numbered_service front (v ∷ vs) behind rise p (inl e) other = by (filter (λ w. bytes_eq w.srel v.srel) front) refl
    where
      by : (some : List Ver) → filter (λ w. bytes_eq w.srel v.srel) front ≡ some → kind ≢ Function
      by [] none = absurd (other (ap (λ (q : ℕ × Ver). q.0) e ∙ ap (λ (ws : List Ver). length ws + 1) none))
      by (u ∷ us) some =
          let there = has_filtered (λ (w : Ver). bytes_eq w.srel v.srel) front u
          (subst (λ ws. Has ws u) (sym some) (inl refl)) in
          (behind u v there.0 (inl refl)).service (same_from u.srel v.srel there.1)

-- ---- those of a SYSMOD

abbrev pub numbered : Sysmod → List (ℕ × Ver)
numbered s = numbered_behind [] s.vers

pub vers_ascend : (s : Sysmod) → HasSysmodForms s → IsAscending IsVerBefore (numbered s)
vers_ascend s f = numbers_ascend s.kind [] s.vers (ascending _ _ f.apart)

pub vers_service : (s : Sysmod) → HasSysmodForms s → (p : ℕ × Ver) → Has (numbered s) p → p.0 ≢ 1 → s.kind ≢ Function
vers_service s f = numbered_service s.kind [] s.vers (λ u w hu hw. absurd hu) (ascending _ _ f.apart)

pub ver_of : (s : Sysmod) (p : ℕ × Ver) → Has (numbered s) p → Has s.vers p.1
ver_of s p h = numbered_has [] s.vers p h

-- whether it is a further one of its SREL
abbrev pub is_further : ℕ × Ver → Bool
is_further v = not (is_first v)

pub first_is : (p : ℕ × Ver) → is_first p ≡ true → p.0 ≡ 1
first_is p e = eqb-true p.0 1 e

pub further_is : (p : ℕ × Ver) → is_further p ≡ true → p.0 ≢ 1
further_is p e same = absurd (let wrong : is_further (1, p.1) ≡ true = subst (λ n. is_further (n, p.1) ≡ true) same e
    in cc)

pub first_or_further : (p : ℕ × Ver) → (is_first p ≡ true) ⊎ (is_further p ≡ true)
first_or_further p = by (is_first p) refl
  where
    by : (b : Bool) → is_first p ≡ b → (is_first p ≡ true) ⊎ (is_further p ≡ true)
    by true e = inl e
    by false e = inr (ap not e)

pub one_or_other : (n : ℕ) → (n ≡ 1) ⊎ (n ≢ 1)
one_or_other n = by (eqb n 1) refl
  where
    by : (b : Bool) → eqb n 1 ≡ b → (n ≡ 1) ⊎ (n ≢ 1)
    by true e = inl (eqb-true n 1 e)
    by false e = inr (λ same. true≢false (sym (rw same refl) ∙ e))

pub other_one : (n : ℕ) → n ≢ 1 → eqb n 1 ≡ false
other_one n other = false_from_ne_true (eqb n 1) (λ e. other (eqb-true n 1 e))

-- no two have one SREL and one number
not_same : (a b : ℕ × Ver) → a.0 ≡ b.0 → a.1.srel ≡ b.1.srel → ¬ IsVerBefore a b
not_same a b number srel (inl below) = not_before_same a.1.srel b.1.srel srel below
not_same a b number srel (inr below) = absurd (omega (arith, below.1))

pub one_numbered : (s : Sysmod) → HasSysmodForms s → (a b : ℕ × Ver) → Has (numbered s) a → Has (numbered s) b
    → a.0 ≡ b.0 → a.1.srel ≡ b.1.srel → a ≡ b
one_numbered s f a b ha hb number srel = one_place IsVerBefore ver_once (numbered s) a b (vers_ascend s f) ha hb
    (not_same a b number srel) (not_same b a (sym number) (sym srel))

-- lists with one list of numbered ++VERs are one
pub numbered_same : (s t : Sysmod) → numbered s ≡ numbered t → s.vers ≡ t.vers
numbered_same s t e =
    sym (numbered_is [] s.vers) ∙ ap (map (λ (p : ℕ × Ver). p.1)) e ∙ numbered_is [] t.vers
