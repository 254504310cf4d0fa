-- Roles among the received SYSMODs with one more.
use Rattle.std.proofs.Common.{◌≡◌, ◌||◌, ◌&&◌, ◌⊎◌, inl, inr, Bool, true, false, not, List, [], ◌∷◌, ◌++◌, map}
use Rattle.std.proofs.Common.{filter, cond, refl, sym, ap, ◌∙◌, Option, None, Some, is_some, All, IsTrue, true≢false}
use Rattle.std.proofs.Common.{if◌then◌else◌, get_or}
use Rattle.std.specs.List.{list_any}
use Rattle.std.specs.declared.cmp.Ordering.{Ordering}
use Rattle.std.specs.declared.cmp.Ordering.TheVariants.{Less, Equal, Greater}
use Rattle.std.specs.Ordering.{is_lt, is_eq, nat_cmp, ordering_reverse}
use Rattle.std.specs.Cmp.Lexicographic.{slice_cmp}
use Rattle.std.specs.Option.{option_map_or}
use Rattle.std.specs.Str.{bytes_eq}
use Rattle.std.proofs.lemmas.Cmp.{nat_list_cmp_total}
use Rattle.std.proofs.lemmas.Map.Text.{is_eq-slice_cmp}
use Rattle.std.proofs.lemmas.List.Folds.{list_any-append, list_any_none}
use Rattle.std.proofs.lemmas.List.Elements.{All-nil, All-cons, All-head, All-tail, All-weaker}
use Rattle.std.proofs.lemmas.Bool.{not-true}
use Rattle.terms.proofs.Searches.{All_from_no_list_any}
use Rattle.terms.proofs.Each.{All_front, All_back}
use Rattle.terms.specs.Types.{Id, Ver, Sysmod, Global, is_function_kind}
use Rattle.terms.specs.Rising.{before, behind}
use Rattle.terms.specs.Lookups.{sysmod_of, is_function, is_in, at_most_one}
use Rattle.terms.specs.Global.{is_service, fits_roles, named_functions, RolesFit, with_sysmod}
use Rattle.terms.proofs.GlobalLookups.{sysmod_of_with_sysmod}
use Rattle.terms.proofs.TextOrder.{same_back}
use Rattle.terms.proofs.Booleans.{neither, both_none}
use Rattle.terms.proofs.Placing.{All_with_item}
use Rattle.sysmods.specs.Held.{found, zone_of}

pub services_in_parts : (g : Global) (v : Ver)
    → list_any (is_service g) (named_functions v) ≡ ((list_any (is_service g) v.del || list_any (is_service g)
    (at_most_one v.fmid)) || list_any (is_service g) (map (λ i. i.function) v.ifs))
services_in_parts g v =
    list_any-append (is_service g) (v.del ++ at_most_one v.fmid) (map (λ i. i.function) v.ifs)
    ∙ ap (λ b. b || list_any (is_service g) (map (λ i. i.function) v.ifs))
    (list_any-append (is_service g) v.del (at_most_one v.fmid))

-- a test that changes at one id
module _ (p q : Id → Bool) (x : Id) (b : Bool) (changed : (y : Id) → q y ≡ cond (bytes_eq x y) b (p y)) where
  pub any_joined : (ys : List Id) → list_any p ys ≡ false → (b ≡ true → is_in ys x ≡ false) → list_any q ys ≡ false
  any_joined [] none out = refl
  any_joined (y ∷ ys) none out = by (any_joined ys) (bytes_eq x y) refl b refl (p y) refl
    where
      by : (list_any p ys ≡ false → (b ≡ true → is_in ys x ≡ false) → list_any q ys ≡ false)
          → (a : Bool) → bytes_eq x y ≡ a → (c : Bool) → b ≡ c → (d : Bool) → p y ≡ d → list_any q (y ∷ ys) ≡ false
      by again a e c f true h = let now = rw h at none in absurd (true≢false now)
      by again true e true f false h = let now = rw e at (out f) in absurd (true≢false now)
      by again true e false f false h =
          let rest = rw h at none in
          rw (changed y ∙ ap (λ k. cond k b (p y)) e ∙ f) (again rest (λ k. absurd (true≢false (sym k ∙ f))))
      by again false e c f false h =
          let rest = rw h at none in
          rw (changed y ∙ ap (λ k. cond k b (p y)) e ∙ h) (again rest (λ k. let now = rw e at (out k) in now))

  pub not_named : (ys : List Id) → b ≡ true → list_any q ys ≡ false → is_in ys x ≡ false
  not_named [] is none = refl
  not_named (y ∷ ys) is none = by (not_named ys is) (bytes_eq x y) refl (q y) refl
    where
      by : (list_any q ys ≡ false → is_in ys x ≡ false) → (a : Bool) → bytes_eq x y ≡ a → (d : Bool) → q y ≡ d
          → is_in (y ∷ ys) x ≡ false
      by again a e true h = let now = rw h at none in absurd (true≢false now)
      by again true e false h = absurd (true≢false (sym is ∙ sym (ap (λ k. cond k b (p y)) e) ∙ sym (changed y) ∙ h))
      by again false e false h = let rest = rw h at none in rw e (again rest)

-- ids that are not the same are ordered
ordered : (x y : Id) → bytes_eq y x ≡ false → (is_lt (slice_cmp nat_cmp y x) ≡ true)
    ⊎ (is_lt (slice_cmp nat_cmp x y) ≡ true)
ordered x y other = by (slice_cmp nat_cmp y x) refl
  where
    by : (c : Ordering) → slice_cmp nat_cmp y x ≡ c → (is_lt (slice_cmp nat_cmp y x) ≡ true)
        ⊎ (is_lt (slice_cmp nat_cmp x y) ≡ true)
    by Less e = inl (ap is_lt e)
    by Equal e = absurd (true≢false (sym (ap is_eq e) ∙ is_eq-slice_cmp y x ∙ other))
    by Greater e = inr (ap is_lt (nat_list_cmp_total.antisymm x y ∙ ap ordering_reverse e))

-- a list that none of its ids was in, by its parts
all_from_parts : (P : Sysmod → Type 0) (x : Id) (xs : List Sysmod) → found xs x ≡ None
    → All P (filter (λ s. is_lt (slice_cmp nat_cmp s.id x)) xs)
    → All P (filter (λ s. is_lt (slice_cmp nat_cmp x s.id)) xs) → All P xs
all_from_parts P x [] none low high = All-nil P
all_from_parts P x (s ∷ xs) none low high =
    by (all_from_parts P x xs) (bytes_eq s.id x) refl (is_lt (slice_cmp nat_cmp s.id x)) refl
    (is_lt (slice_cmp nat_cmp x s.id)) refl
  where
    some_none : Some s ≡ None → ⊥
    some_none e = cc

    by : (found xs x ≡ None → All P (filter (λ s. is_lt (slice_cmp nat_cmp s.id x)) xs)
        → All P (filter (λ s. is_lt (slice_cmp nat_cmp x s.id)) xs) → All P xs)
        → (a : Bool) → bytes_eq s.id x ≡ a → (b : Bool) → is_lt (slice_cmp nat_cmp s.id x) ≡ b → (c : Bool)
        → is_lt (slice_cmp nat_cmp x s.id) ≡ c → All P (s ∷ xs)
    by again true e b f c h = let now = rw e at none in absurd (some_none now)
    by again false e true f true h =
        let rest = rw e at none in let lower = rw f at low in let higher = rw h at high in
        All-cons P s xs (All-head P s (filter (λ s. is_lt (slice_cmp nat_cmp s.id x)) xs) lower)
        (again rest (All-tail P s (filter (λ s. is_lt (slice_cmp nat_cmp s.id x)) xs) lower)
        (All-tail P s (filter (λ s. is_lt (slice_cmp nat_cmp x s.id)) xs) higher))
    by again false e true f false h =
        let rest = rw e at none in let lower = rw f at low in let higher = rw h at high in
        All-cons P s xs (All-head P s (filter (λ s. is_lt (slice_cmp nat_cmp s.id x)) xs) lower)
        (again rest (All-tail P s (filter (λ s. is_lt (slice_cmp nat_cmp s.id x)) xs) lower) higher)
    by again false e false f true h =
        let rest = rw e at none in let lower = rw f at low in let higher = rw h at high in
        All-cons P s xs (All-head P s (filter (λ s. is_lt (slice_cmp nat_cmp x s.id)) xs) higher)
        (again rest lower (All-tail P s (filter (λ s. is_lt (slice_cmp nat_cmp x s.id)) xs) higher))
    by again false e false f false h =
        elim (ordered x s.id e) [
          | inl is ↦ absurd (true≢false (sym is ∙ f))
          | inr is ↦ absurd
              (true≢false (sym is ∙ h))
        ]

module _ (xs : List Sysmod) (s : Sysmod) where
  abbrev G : Global
  G = zone_of xs

  abbrev W : Global
  W = with_sysmod G s

  abbrev is_fn : Sysmod → Bool
  is_fn r = is_function_kind r.kind

  changed_sysmod : (y : Id) (b : Bool) → bytes_eq s.id y ≡ b
      → sysmod_of W y ≡ cond b (Some (record s { holds = [] })) (found xs y)
  changed_sysmod y b e = sysmod_of_with_sysmod G s y ∙ ap (λ a. cond a (Some (record s { holds = [] })) (sysmod_of G y))
      e

  changed_function : (y : Id) → is_function W y ≡ cond (bytes_eq s.id y) (is_fn s) (is_function G y)
  changed_function y = by (bytes_eq s.id y) refl
    where
      by : (b : Bool) → bytes_eq s.id y ≡ b → is_function W y ≡ cond (bytes_eq s.id y) (is_fn s) (is_function G y)
      by true e = ap (λ o. option_map_or is_fn o false) (changed_sysmod y true e)
          ∙ sym (ap (λ b. cond b (is_fn s) (is_function G y)) e)
      by false e = ap (λ o. option_map_or is_fn o false) (changed_sysmod y false e)
          ∙ sym (ap (λ b. cond b (is_fn s) (is_function G y)) e)

  changed_service : (y : Id) → is_service W y ≡ cond (bytes_eq s.id y) (not (is_fn s)) (is_service G y)
  changed_service y = by (bytes_eq s.id y) refl
    where
      by : (b : Bool) → bytes_eq s.id y ≡ b → is_service W y ≡ cond (bytes_eq s.id y) (not (is_fn s)) (is_service G y)
      by true e = ap (λ o. is_some o && not (option_map_or is_fn o false)) (changed_sysmod y true e)
          ∙ sym (ap (λ b. cond b (not (is_fn s)) (is_service G y)) e)
      by false e = ap (λ o. is_some o && not (option_map_or is_fn o false)) (changed_sysmod y false e)
          ∙ sym (ap (λ b. cond b (not (is_fn s)) (is_service G y)) e)

  -- whether an id is a function, or is none, as the code tests it
  pub function_own : (x : Id) → bytes_eq x s.id ≡ true → is_fn s ≡ is_function W x
  function_own x e = sym (ap (λ o. option_map_or is_fn o false) (changed_sysmod x true (same_back s.id x ∙ e)))

  pub function_other : (x : Id) → bytes_eq x s.id ≡ false → (o : Option Sysmod) → o ≡ found xs x
      → option_map_or is_fn o false ≡ is_function W x
  function_other x e o there = ap (λ o. option_map_or is_fn o false) there
      ∙ sym (ap (λ o. option_map_or is_fn o false) (changed_sysmod x false (same_back s.id x ∙ e)))

  pub service_own : (x : Id) → bytes_eq x s.id ≡ true → not (is_fn s) ≡ is_service W x
  service_own x e = sym (ap (λ o. is_some o && not (option_map_or is_fn o false))
      (changed_sysmod x true (same_back s.id x ∙ e)))

  pub service_other : (x : Id) → bytes_eq x s.id ≡ false → (o : Option Sysmod) → o ≡ found xs x
      → (is_some o && not (option_map_or is_fn o false)) ≡ is_service W x
  service_other x e o there =
      ap (λ o. is_some o && not (option_map_or is_fn o false)) there
      ∙ sym (ap (λ o. is_some o && not (option_map_or is_fn o false))
      (changed_sysmod x false (same_back s.id x ∙ e)))

  -- whether a received SYSMOD names it in another role
  abbrev Sup : Bool
  Sup = list_any (λ r. list_any (λ v. is_in v.sup s.id) r.vers) xs

  abbrev Fun : Bool
  Fun = list_any (λ r. list_any (λ v. is_in (named_functions v) s.id) r.vers) xs

  abbrev Fits : Sysmod → Type 0
  Fits r = All (λ v. IsTrue (fits_roles W v)) r.vers

  pub own_fit_holds : RolesFit W → All (λ v. IsTrue (fits_roles W v)) s.vers
  own_fit_holds all =
      All-head Fits (record s { holds = [] }) []
      (All_back Fits (before (slice_cmp nat_cmp) (λ r. r.id) s.id xs) (record s { holds = [] } ∷ [])
      (All_front Fits (before (slice_cmp nat_cmp) (λ r. r.id) s.id xs ++ record s { holds = [] } ∷ [])
      (behind (slice_cmp nat_cmp) (λ r. r.id) s.id xs) all))

  module _ (new : found xs s.id ≡ None) where
    others_each : RolesFit W → All Fits xs
    others_each all =
        all_from_parts Fits s.id xs new
        (All_front Fits (before (slice_cmp nat_cmp) (λ r. r.id) s.id xs) (record s { holds = [] } ∷ [])
        (All_front Fits (before (slice_cmp nat_cmp) (λ r. r.id) s.id xs ++ record s { holds = [] } ∷ [])
        (behind (slice_cmp nat_cmp) (λ r. r.id) s.id xs) all))
        (All_back Fits (before (slice_cmp nat_cmp) (λ r. r.id) s.id xs ++ record s { holds = [] } ∷ [])
        (behind (slice_cmp nat_cmp) (λ r. r.id) s.id xs) all)

    sup_none : is_fn s ≡ true → RolesFit W → Sup ≡ false
    sup_none is all =
        list_any_none (λ r. list_any (λ v. is_in v.sup s.id) r.vers) xs
        (All-weaker Fits (λ r. list_any (λ v. is_in v.sup s.id) r.vers ≡ false)
        (λ r fits. list_any_none (λ v. is_in v.sup s.id) r.vers
        (All-weaker (λ v. IsTrue (fits_roles W v)) (λ v. is_in v.sup s.id ≡ false)
        (λ v fit. not_named (is_function G) (is_function W) s.id (is_fn s) changed_function v.sup is
        (neither (list_any (is_function W) v.sup) (list_any (is_service W) (named_functions v)) fit).0) r.vers
        fits))
        xs (others_each all))

    fun_none : not (is_fn s) ≡ true → RolesFit W → Fun ≡ false
    fun_none is all =
        list_any_none (λ r. list_any (λ v. is_in (named_functions v) s.id) r.vers) xs
        (All-weaker Fits (λ r. list_any (λ v. is_in (named_functions v) s.id) r.vers ≡ false)
        (λ r fits. list_any_none (λ v. is_in (named_functions v) s.id) r.vers
        (All-weaker (λ v. IsTrue (fits_roles W v)) (λ v. is_in (named_functions v) s.id ≡ false)
        (λ v fit. not_named (is_service G) (is_service W) s.id (not (is_fn s)) changed_service (named_functions v) is
        (neither (list_any (is_function W) v.sup) (list_any (is_service W) (named_functions v)) fit).1) r.vers
        fits))
        xs (others_each all))

    pub others_fit_holds : RolesFit W → (if is_fn s then not Sup else not Fun) ≡ true
    others_fit_holds all = by (is_fn s) refl
      where
        by : (b : Bool) → is_fn s ≡ b → (if is_fn s then not Sup else not Fun) ≡ true
        by true e = ap (λ b. if b then not Sup else not Fun) e ∙ ap not (sup_none e all)
        by false e = ap (λ b. if b then not Sup else not Fun) e ∙ ap not (fun_none (ap not e) all)

  -- what the two tests say of received SYSMODs
  sup_out : (if is_fn s then not Sup else not Fun) ≡ true → is_fn s ≡ true → Sup ≡ false
  sup_out test is = not-true Sup (sym (ap (λ b. if b then not Sup else not Fun) is) ∙ test)

  fun_out : (if is_fn s then not Sup else not Fun) ≡ true → not (is_fn s) ≡ true → Fun ≡ false
  fun_out test is = not-true Fun (sym (ap (λ b. if b then not Sup else not Fun) (not-true (is_fn s) is)) ∙ test)

  each_out : (p : Ver → Bool) (b : Bool) → (b ≡ true → list_any (λ r. list_any p r.vers) xs ≡ false)
      → All (λ r. b ≡ true → All (λ v. p v ≡ false) r.vers) xs
  each_out p true out = All-weaker (λ r. list_any p r.vers ≡ false) (λ r. true ≡ true → All (λ v. p v ≡ false) r.vers)
      (λ r none is. All_from_no_list_any p r.vers none) xs (All_from_no_list_any (λ r. list_any p r.vers) xs (out refl))
  each_out p false out = trivial xs
    where
      trivial : (ys : List Sysmod) → All (λ r. false ≡ true → All (λ v. p v ≡ false) r.vers) ys
      trivial [] = All-nil (λ r. false ≡ true → All (λ v. p v ≡ false) r.vers)
      trivial (y ∷ ys) = All-cons (λ r. false ≡ true → All (λ v. p v ≡ false) r.vers) y ys
          (λ is. absurd (true≢false (sym is))) (trivial ys)

  keeps_fit : (v : Ver) → IsTrue (fits_roles G v) → (is_fn s ≡ true → is_in v.sup s.id ≡ false)
      → (not (is_fn s) ≡ true → is_in (named_functions v) s.id ≡ false) → IsTrue (fits_roles W v)
  keeps_fit v fit sup fun =
      let parts = neither (list_any (is_function G) v.sup) (list_any (is_service G) (named_functions v)) fit in
      both_none (list_any (is_function W) v.sup) (list_any (is_service W) (named_functions v))
      (any_joined (is_function G) (is_function W) s.id (is_fn s) changed_function v.sup parts.0 sup)
      (any_joined (is_service G) (is_service W) s.id (not (is_fn s)) changed_service (named_functions v) parts.1 fun)

  sysmod_fits : (r : Sysmod) → All (λ v. IsTrue (fits_roles G v)) r.vers
      → (is_fn s ≡ true → All (λ v. is_in v.sup s.id ≡ false) r.vers)
      → (not (is_fn s) ≡ true → All (λ v. is_in (named_functions v) s.id ≡ false) r.vers) → Fits r
  sysmod_fits r fits sup fun = λ i d below. keeps_fit (get_or r.vers i d) (fits i d below) (λ is. sup is i d below)
      (λ is. fun is i d below)

  pub all_fit : RolesFit G → All (λ v. IsTrue (fits_roles W v)) s.vers → (if is_fn s then not Sup else not Fun) ≡ true
      → RolesFit W
  all_fit was own test =
      All_with_item (slice_cmp nat_cmp) (λ r. r.id) Fits xs (record s { holds = [] })
      (λ i d below. sysmod_fits (get_or xs i d) (was i d below)
      (each_out (λ v. is_in v.sup s.id) (is_fn s) (sup_out test) i d below)
      (each_out (λ v. is_in (named_functions v) s.id) (not (is_fn s)) (fun_out test) i d below))
      own
