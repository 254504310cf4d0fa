-- The numbered system has the causers of the ids.
use Rattle.std.specs.Prelude.{◌≡◌, ◌↔◌, ◌<◌, ℕ, Bool, false, List, [], ◌∷◌, Some, All, Contains, IsTrue, slice_get}
use Rattle.std.specs.Prelude.{slice_index_or, length, refl}
use Rattle.std.proofs.Common.{arith, sym, ◌∙◌, ap, subst, inl, inr, true≢false}
use Rattle.std.proofs.lemmas.Option.{slice_get_within, slice_get-get_or, same_Some}
use Rattle.std.proofs.lemmas.Bool.{false_from_ne_true}
use Rattle.terms.proofs.Places.{contains_at, found_at, any_at, any_found, All-found}
use Rattle.terms.specs.Types.{Id}
use Rattle.terms.specs.declared.codes.NeedKind.{NeedKind}
use Rattle.terms.specs.declared.codes.NeedKind.TheVariants.{Fmid}
use Rattle.solve.specs.System.{Need, IsNeed, System, holds}
use Rattle.judge_system.proofs.SystemOfIds.{IsFormOf}
use Rattle.solve.specs.Causes as numbered
use Rattle.terms.specs.Judging.{Judging}
use Rattle.terms.specs.Failures.{HasFailed, LeadsTo, LeadsThrough, HasBareNeed, IsRoot, IsCauser}

none_within : {X : Type 0} (xs : List X) → ((x : X) → ¬ Contains xs x) → xs ≡ []
none_within [] none = refl
none_within (x ∷ xs) none = absurd (none x (contains_at (x ∷ xs) 0 x refl))

not_both : {A : Type 0} (b : Bool) → IsTrue b → b ≡ false → A
not_both b t f = absurd (true≢false (sym t ∙ f))

module _ (judging : Judging) (kept : List Id) (p : System) (needed : List (NeedKind × Id))
    (h : IsFormOf judging p needed) (flags : List Bool)
    (same : (n : ℕ) (x : Id) → slice_get judging.cands n ≡ Some x → Contains kept x ↔ IsTrue (holds flags n)) where
  abbrev ids : List Id
  ids = judging.cands

  failed_number : (n : ℕ) (x : Id) → slice_get ids n ≡ Some x → HasFailed judging kept x
      → numbered.HasFailed p flags n
  failed_number n x at failed = (
    subst (λ k. n < k) (sym h.size) (slice_get_within ids n x at),
    false_from_ne_true (holds flags n) (λ t. failed.not_kept ((same n x at).1 t)),
  )

  failed_id : (n : ℕ) (x : Id) → slice_get ids n ≡ Some x → numbered.HasFailed p flags n → HasFailed judging kept x
  failed_id n x at failed = record {
    cand = contains_at ids n x at;
    not_kept = λ k. not_both (holds flags n) ((same n x at).0 k) failed.1;
  }

  -- the id of each number in a list that serves
  id_of : (d : Need) (i : ℕ) → slice_get p.needs i ≡ Some d → (m : ℕ) → Contains d.any m
      → (y : Id) × (slice_get ids m ≡ Some y)
  id_of d i at m there =
      let found = found_at d.any m there in
      let below = All-found (λ k. k < p.size) d.any found.0 m
      (All-found (IsNeed p.size) p.needs i d h.numbers.needs at).any found.1 in
      let within = subst (λ k. m < k) h.size below in
      (slice_index_or ids m [], slice_get-get_or ids m [] within)

  -- a need's list has no kept number exactly if nothing kept serves its need
  unserved_numbers : (d : Need) (i : ℕ) (kind : NeedKind) (z : Id) → slice_get p.needs i ≡ Some d
      → slice_get needed i ≡ Some (kind, z)
      → ((y : Id) → Contains kept y → ¬ judging.serves kind y z) → All (λ k. holds flags k ≡ false) d.any
  unserved_numbers d i kind z at need unserved k m below =
      let there : Contains d.any (slice_index_or d.any k m) =
      contains_at d.any k (slice_index_or d.any k m) (slice_get-get_or d.any k m below) in
      let y = id_of d i at (slice_index_or d.any k m) there in
      false_from_ne_true (holds flags (slice_index_or d.any k m)) (λ t.
      unserved y.0 ((same (slice_index_or d.any k m) y.0 y.1).1 t)
      (((h.needs i d (kind, z) at need).any (slice_index_or d.any k m) y.0 y.1).0 there))

  unserved_ids : (d : Need) (i : ℕ) (kind : NeedKind) (z : Id) → slice_get p.needs i ≡ Some d
      → slice_get needed i ≡ Some (kind, z)
      → ((y : Id) → Contains kept y → Contains ids y) → All (λ k. holds flags k ≡ false) d.any → (y : Id)
      → Contains kept y → ¬ judging.serves kind y z
  unserved_ids d i kind z at need within none y k serves =
      let place = found_at ids y (within y k) in
      let there = ((h.needs i d (kind, z) at need).any place.0 y place.1).1 serves in
      let spot = found_at d.any place.0 there in
      not_both (holds flags place.0) ((same place.0 y place.1).0 k)
      (All-found (λ j. holds flags j ≡ false) d.any spot.0 place.0 none spot.1)

  -- the need of a need
  need_of : (d : Need) (i : ℕ) → slice_get p.needs i ≡ Some d
      → (kind : NeedKind) × (z : Id) × (slice_get needed i ≡ Some (kind, z))
  need_of d i at =
      let need = slice_index_or needed i (Fmid, []) in (
        need.0,
        need.1,
        slice_get-get_or needed i (Fmid, []) (subst (λ k. i < k) (sym h.lengths)
            (slice_get_within p.needs i d at)),
      )

  -- whose need it is
  need_is : (d : Need) (i n : ℕ) (x z : Id) (kind : NeedKind) → slice_get p.needs i ≡ Some d
      → slice_get needed i ≡ Some (kind, z)
      → d.of ≡ n → slice_get ids n ≡ Some x → judging.needs x kind z
  need_is d i n x z kind at need of at_x =
      let meant = (h.needs i d (kind, z) at need).of in
      subst (λ v. judging.needs v kind z) (same_Some meant.0 x (sym meant.1 ∙ ap (slice_get ids) of ∙ at_x)) meant.2

  pub leads_number : (n m : ℕ) (x y : Id) → slice_get ids n ≡ Some x → slice_get ids m ≡ Some y
      → LeadsTo judging kept x y → numbered.LeadsTo p flags n m
  leads_number n m x y at_x at_y leads =
      let s = leads.serves in
      let a = h.all n x s.1 s.0 at_x s.2.needs in
      let listed = ((h.needs a.0 a.1 (s.0, s.1) a.2 a.3).any m y at_y).1 s.3 in (
        failed_number n x at_x leads.failed,
        any_at (numbered.LeadsBy flags n m) p.needs a.0 a.1 a.2
            (a.4, unserved_numbers a.1 a.0 s.0 s.1 a.2 a.3 s.2.unserved, listed),
      )

  module _ (within : (y : Id) → Contains kept y → Contains ids y) where
    pub leads_id : (n m : ℕ) (x y : Id) → slice_get ids n ≡ Some x → slice_get ids m ≡ Some y
        → numbered.LeadsTo p flags n m → LeadsTo judging kept x y
    leads_id n m x y at_x at_y leads =
        let a = any_found (numbered.LeadsBy flags n m) p.needs leads.1 in
        let need = need_of a.1 a.0 a.2 in
        record {
          failed = failed_id n x at_x leads.0;
          cand = contains_at ids m y at_y;
          serves = (
            need.0,
            need.1,
            record {
              needs = need_is a.1 a.0 n x need.1 need.0 a.2 need.2 a.3.0 at_x;
              unserved = unserved_ids a.1 a.0 need.0 need.1 a.2 need.2 within a.3.1;
            },
            ((h.needs a.0 a.1 (need.0, need.1) a.2 need.2).any m y at_y).0 a.3.2,
          );
        }

    -- the number that a number leads to has an id
    led_id : (n m : ℕ) → numbered.LeadsTo p flags n m → (y : Id) × (slice_get ids m ≡ Some y)
    led_id n m leads = let a = any_found (numbered.LeadsBy flags n m) p.needs leads.1 in id_of a.1 a.0 a.2 m a.3.2

    steps_id : (n m : ℕ) (steps : List ℕ) (x y : Id) → slice_get ids n ≡ Some x → slice_get ids m ≡ Some y
        → numbered.LeadsThrough p flags n steps m
        → (ws : List Id) × LeadsThrough judging kept x ws y
    steps_id n m [] x y at_x at_y e = ([], same_Some x y (sym at_x ∙ ap (slice_get ids) e ∙ at_y))
    steps_id n m (k ∷ ks) x y at_x at_y r =
        let w = led_id n k r.0 in
        let more = steps_id k m ks w.0 y w.1 at_y r.1 in
        (w.0 ∷ more.0, (leads_id n k x w.0 at_x w.1 r.0, more.1))

    bare_id : (n : ℕ) (x : Id) → slice_get ids n ≡ Some x → numbered.HasBareNeed p n → HasBareNeed judging kept x
    bare_id n x at_x bare =
        let a = any_found (λ d. (d.of ≡ n) × (d.any ≡ [])) p.needs bare in
        let need = need_of a.1 a.0 a.2 in (
          need.0,
          need.1,
          need_is a.1 a.0 n x need.1 need.0 a.2 need.2 a.3.0 at_x,
          λ y there serves.
              let place = found_at ids y there in
              let listed = ((h.needs a.0 a.1 (need.0, need.1) a.2 need.2).any place.0 y place.1).1 serves in
              absurd (omega (arith, subst (λ l. listed.0 < length l) a.3.1 listed.1)),
        )

    bare_number : (n : ℕ) (x : Id) → slice_get ids n ≡ Some x → HasBareNeed judging kept x → numbered.HasBareNeed p n
    bare_number n x at_x bare =
        let a = h.all n x bare.1 bare.0 at_x bare.2 in
        any_at (λ d. (d.of ≡ n) × (d.any ≡ [])) p.needs a.0 a.1 a.2 (
          a.4,
          none_within a.1.any (λ m there.
              let y = id_of a.1 a.0 a.2 m there in
              bare.3 y.0 (contains_at ids m y.0 y.1) (((h.needs a.0 a.1 (bare.0, bare.1) a.2 a.3).any m y.0 y.1).0
              there)),
        )

    root_id : (n : ℕ) (x : Id) → slice_get ids n ≡ Some x → numbered.IsRoot p flags n → IsRoot judging kept x
    root_id n x at root = record {
      failed = failed_id n x at root.0;
      why = elim root.1 [
        | inl off ↦ inl (λ eligible. not_both (holds p.eligible n) ((h.eligible n x at).1 eligible) off)
        | inr bare ↦ inr (bare_id n x at bare)
      ];
    }

    root_number : (n : ℕ) (x : Id) → slice_get ids n ≡ Some x → IsRoot judging kept x → numbered.IsRoot p flags n
    root_number n x at root = (
      failed_number n x at root.failed,
      elim root.why [
        | inl off ↦ inl (false_from_ne_true (holds p.eligible n) (λ t. off ((h.eligible n x at).0 t)))
        | inr bare ↦ inr (bare_number n x at bare)
      ],
    )

    -- the causers of an id from those of its number
    pub causer_id : (n m : ℕ) (x y : Id) → slice_get ids n ≡ Some x → slice_get ids m ≡ Some y
        → numbered.IsCauser p flags n m → IsCauser judging kept x y
    causer_id n m x y at_x at_y causer =
        let ws = steps_id n m causer.1.0 x y at_x at_y causer.1.1 in
        record { root = root_id m y at_y causer.0; steps = ws.0; reaches = ws.1 }

    module _ (once : (n m : ℕ) (x : Id) → slice_get ids n ≡ Some x → slice_get ids m ≡ Some x → n ≡ m) where
      steps_number : (n m : ℕ) (x y : Id) (ws : List Id) → slice_get ids n ≡ Some x → slice_get ids m ≡ Some y
          → LeadsThrough judging kept x ws y
          → numbered.LeadsOn p flags n m
      steps_number n m x y [] at_x at_y e = ([], once n m x at_x (at_y ∙ ap (λ v. Some v) (sym e)))
      steps_number n m x y (w ∷ ws) at_x at_y r =
          let k = found_at ids w r.0.cand in
          let more = steps_number k.0 m w y ws k.1 at_y r.1 in
          (k.0 ∷ more.0, (leads_number n k.0 x w at_x k.1 r.0, more.1))

      -- and those of its number from those of the id
      pub causer_number : (n m : ℕ) (x y : Id) → slice_get ids n ≡ Some x → slice_get ids m ≡ Some y
          → IsCauser judging kept x y → numbered.IsCauser p flags n m
      causer_number n m x y at_x at_y causer =
          (root_number m y at_y causer.root, steps_number n m x y causer.steps at_x at_y causer.reaches)
