-- Each change of the global zone leaves one that keeps its rules.
use Rattle.std.proofs.Common.{◌≡◌, ◌<◌, ◌≤◌, ◌+◌, ◌^◌, Bool, true, false, not, ◌||◌, ◌&&◌, ◌==◌, List, [], ◌∷◌, ◌++◌}
use Rattle.std.proofs.Common.{length, map, filter, fold, cond, refl, sym, ap, ◌∙◌, subst, Option, None, Some, is_some}
use Rattle.std.proofs.Common.{IsTrue, All, Contains, true≢false, arith, length-append, get_or}
use Rattle.std.proofs.lemmas.List.{length-map}
use Rattle.std.specs.declared.cmp.Ordering.{Ordering}
use Rattle.std.specs.Ordering.{is_lt, nat_cmp, ordering_reverse}
use Rattle.std.specs.Cmp.{IsTotalOrder}
use Rattle.std.specs.Cmp.Lexicographic.{slice_cmp}
use Rattle.std.specs.List.{flat_map}
use Rattle.std.specs.Option.{option_map_or}
use Rattle.std.specs.Str.{bytes_eq}
use Rattle.std.proofs.lemmas.Cmp.{nat_cmp_total, nat_list_cmp_total, on_total, then_total}
use Rattle.std.proofs.lemmas.List.Elements.{All-nil, All-head, All-tail, All-filter, All-map, All-weaker, filter_passes}
use Rattle.std.proofs.lemmas.List.Kept.{AllPairs-cons, AllPairs-filter}
use Rattle.std.proofs.lemmas.Bool.{and_parts}
use Rattle.terms.proofs.Placing.{All_with_item, Rises_with_item}
use Rattle.terms.proofs.Options.{map_or_map, is_some_map}
use Rattle.terms.proofs.Booleans.{or_false}
use Rattle.terms.proofs.Pairs.{AllPairs_first, AllPairs_rest}
use Rattle.terms.specs.declared.kinds.HoldKind.{HoldKind}
use Rattle.terms.specs.declared.kinds.HoldKind.TheVariants.{Error, System, User}
use Rattle.terms.specs.Types.{Text, Id, Ver, Hold, Sysmod, Global, hold_number, is_function_kind}
use Rattle.terms.specs.Rising.{Rises, with_item, before, behind}
use Rattle.terms.specs.Lookups.{sysmod_of, is_received, is_function}
use Rattle.terms.specs.Choice.{vers_of}
use Rattle.terms.specs.Global.{named, names_for, HasLoop, is_service, fits_roles, RolesFit, has_key, hold_cmp, IsSysmod}
use Rattle.terms.specs.Global.{IsGlobal, hold_of, marked, hold, without_hold, assign, with_sysmod, without_sysmod}
use Rattle.terms.specs.Global.{received}
use Rattle.terms.proofs.Leads.{reaches_more}
use Rattle.terms.proofs.Orderings.{Less_from_is_lt}
use Rattle.terms.proofs.GlobalLookups.{sysmod_of_with_sysmod, sysmod_of_without_sysmod, sysmod_of_assign, assigned}
use Rattle.terms.proofs.GlobalLookups.{assigned_same}
use Rattle.terms.proofs.TextOrder.{same_from, same_itself, same_back}
use Rattle.terms.proofs.Searches.{find_passes, All_find}
use Rattle.terms.proofs.GlobalRoles.{fits_fewer}

module _ {X K : Type 0} {R : K → K → Ordering} (o : IsTotalOrder R) (key : X → K) where
  -- a list in order stays so where items change but for their keys
  pub Rises_map : (f : X → X) → ((x : X) → key (f x) ≡ key x) → (xs : List X) → Rises R key xs → Rises R key (map f xs)
  Rises_map f same [] rises = λ i j d l b. absurd (omega arith)
  Rises_map f same (x ∷ xs) rises =
      AllPairs-cons (λ a b. IsTrue (is_lt (R (key a) (key b)))) (f x) (map f xs)
      (All-map (λ y. IsTrue (is_lt (R (key (f x)) (key y)))) f xs
      (All-weaker (λ y. IsTrue (is_lt (R (key x) (key y)))) (λ y. IsTrue (is_lt (R (key (f x)) (key (f y)))))
      (λ y h. rw (same x, same y) h) xs
      (AllPairs_first (λ a b. IsTrue (is_lt (R (key a) (key b)))) x xs rises)))
      (Rises_map f same xs (AllPairs_rest (λ a b. IsTrue (is_lt (R (key a) (key b)))) x xs rises))

-- of two filters that no element passes both
length_parts : {X : Type 0} (a b : X → Bool) → ((x : X) → a x ≡ true → b x ≡ false) → (xs : List X)
    → length (filter a xs) + length (filter b xs) ≤ length xs
length_parts a b apart [] = omega arith
length_parts a b apart (x ∷ xs) = by (length_parts a b apart xs) (a x) (b x) refl refl
  where
    by : length (filter a xs) + length (filter b xs) ≤ length xs → (p q : Bool) → a x ≡ p → b x ≡ q
        → length (filter a (x ∷ xs)) + length (filter b (x ∷ xs)) ≤ length (x ∷ xs)
    by again true true e f = absurd (true≢false (sym f ∙ apart x e))
    by again true false e f = rw (e, f) (omega (arith, again))
    by again false true e f = rw (e, f) (omega (arith, again))
    by again false false e f = rw (e, f) (omega (arith, again))

pub length_with_item : {X K : Type 0} {R : K → K → Ordering} → IsTotalOrder R → (key : X → K) (xs : List X) (x : X)
    → length (with_item R key xs x) ≤ length xs + 1
length_with_item {R} o key xs x =
    let front = before R key (key x) xs in
    let back = behind R key (key x) xs in
    let apart : length front + length back ≤ length xs =
    length_parts (λ y. is_lt (R (key y) (key x))) (λ y. is_lt (R (key x) (key y)))
    (λ y e. ap is_lt (o.antisymm (key x) (key y) ∙ ap ordering_reverse (Less_from_is_lt (R (key y) (key x)) e))) xs in
    omega (arith, apart, length-append (front ++ x ∷ []) back, length-append front (x ∷ []))

-- the orders of holds and of SYSMODs
pub hold_cmp_total : IsTotalOrder hold_cmp
hold_cmp_total =
    then_total (on_total (λ h. h.id) nat_list_cmp_total)
    (then_total (on_total (λ h. hold_number h.kind) nat_cmp_total) (on_total (λ h. h.reason) nat_list_cmp_total))

-- ---- holds

-- an internal hold is a SYSTEM hold of a received SYSMOD
abbrev pub IsOwned : Global → Hold → Type 0
IsOwned g h = IsTrue h.internal → (h.kind ≡ System) × IsTrue (is_received g h.id)

-- kinds of one number are one
pub kind_from : (a b : HoldKind) → (hold_number a == hold_number b) ≡ true → a ≡ b
kind_from Error Error e = refl
kind_from Error System e = absurd (true≢false (sym e))
kind_from Error User e = absurd (true≢false (sym e))
kind_from System Error e = absurd (true≢false (sym e))
kind_from System System e = refl
kind_from System User e = absurd (true≢false (sym e))
kind_from User Error e = absurd (true≢false (sym e))
kind_from User System e = absurd (true≢false (sym e))
kind_from User User e = refl

-- what a hold of this key has
pub record HasKey (x : Id) (kind : HoldKind) (reason : Text) (h : Hold) : Type 0 where
  pub id : h.id ≡ x
  pub kind_is : h.kind ≡ kind
  pub reason_is : h.reason ≡ reason

pub key_from : (x : Id) (kind : HoldKind) (reason : Text) (h : Hold) → has_key x kind reason h ≡ true
    → HasKey x kind reason h
key_from x kind reason h e =
    let two = and_parts (bytes_eq h.id x && (hold_number h.kind == hold_number kind)) (bytes_eq h.reason reason) e in
    let first = and_parts (bytes_eq h.id x) (hold_number h.kind == hold_number kind) two.0 in
    record {
      id = same_from h.id x first.0;
      kind_is = kind_from h.kind kind first.1;
      reason_is = same_from h.reason reason two.1;
    }

pub marked_owned : (g : Global) (h : Hold) → All (IsOwned g) g.holds → IsOwned g h
    → IsOwned g (marked (hold_of g h.id h.kind h.reason) h)
marked_owned g h all own = by (hold_of g h.id h.kind h.reason) refl
  where
    inherited : (old : Hold) → hold_of g h.id h.kind h.reason ≡ Some old → IsTrue old.internal
        → (h.kind ≡ System) × IsTrue (is_received g h.id)
    inherited old found internal =
        let key = key_from h.id h.kind h.reason old (find_passes (has_key h.id h.kind h.reason) g.holds old found) in
        let was = All_find (IsOwned g) (has_key h.id h.kind h.reason) g.holds old all found internal in
        (sym key.kind_is ∙ was.0, subst (λ x. IsTrue (is_received g x)) key.id was.1)

    mark : (old : Hold) → hold_of g h.id h.kind h.reason ≡ Some old → (b : Bool) → h.internal ≡ b
        → IsTrue (b || old.internal) → (h.kind ≡ System) × IsTrue (is_received g h.id)
    mark old found true e internal = own e
    mark old found false e internal = inherited old found internal

    by : (o : Option Hold) → hold_of g h.id h.kind h.reason ≡ o → IsOwned g (marked o h)
    by None found = λ internal. own (sym (or_false h.internal) ∙ internal)
    by (Some old) found = λ internal. mark old found h.internal refl internal

pub hold_kept : (g : Global) (h : Hold) → IsGlobal g → IsOwned g h → IsGlobal (hold g h)
hold_kept g h k own = record {
  sysmods = k.sysmods;
  holds = Rises_with_item hold_cmp_total (λ o. o) g.holds (marked (hold_of g h.id h.kind h.reason) h) k.holds;
  formed = k.formed;
  no_loop = k.no_loop;
  roles = k.roles;
  internal = All_with_item hold_cmp (λ o. o) (IsOwned g) g.holds (marked (hold_of g h.id h.kind h.reason) h) k.internal
      (marked_owned g h k.internal own);
  none_carried = k.none_carried;
  size = k.size;
}

pub without_hold_kept : (g : Global) (x : Id) (kind : HoldKind) (reason : Text) → IsGlobal g
    → IsGlobal (without_hold x kind reason g)
without_hold_kept g x kind reason k = record {
  sysmods = k.sysmods;
  holds = AllPairs-filter (λ a b. IsTrue (is_lt (hold_cmp a b))) (λ h. not (has_key x kind reason h)) g.holds k.holds;
  formed = k.formed;
  no_loop = k.no_loop;
  roles = k.roles;
  internal = All-filter (λ h. not (has_key x kind reason h)) (IsOwned g) g.holds k.internal;
  none_carried = k.none_carried;
  size = k.size;
}

-- ---- sources

module _ (g : Global) (source : Text) (x : Id) where
  received_assign : (y : Id) → is_received (assign g source x) y ≡ is_received g y
  received_assign y = ap is_some (sysmod_of_assign g source x y) ∙ is_some_map (assigned source x) (sysmod_of g y)

  function_assign : (y : Id) → is_function (assign g source x) y ≡ is_function g y
  function_assign y =
      ap (λ o. option_map_or (λ s. is_function_kind s.kind) o false) (sysmod_of_assign g source x y)
      ∙ map_or_map (λ s. is_function_kind s.kind) (assigned source x) false
      (assigned_same (λ s. is_function_kind s.kind) source x (λ s. refl)) (sysmod_of g y)

  vers_assign : (srel : Text) (y : Id) → vers_of (assign g source x) srel y ≡ vers_of g srel y
  vers_assign srel y =
      ap (λ o. option_map_or (λ s. filter (λ v. bytes_eq v.srel srel) s.vers) o []) (sysmod_of_assign g source x y)
      ∙ map_or_map (λ s. filter (λ v. bytes_eq v.srel srel) s.vers) (assigned source x) []
      (assigned_same (λ s. filter (λ v. bytes_eq v.srel srel) s.vers) source x (λ s. refl)) (sysmod_of g y)

  fits_assign : (v : Ver) → IsTrue (fits_roles g v) → IsTrue (fits_roles (assign g source x) v)
  fits_assign v fits =
      fits_fewer g (assign g source x)
      (λ y none. function_assign y ∙ none)
      (λ y none. ap (λ b. b && not (is_function (assign g source x) y)) (received_assign y)
      ∙ ap (λ b. is_received g y && not b) (function_assign y) ∙ none)
      v fits

  formed_assign : (s : Sysmod) → IsSysmod s → IsSysmod (assigned source x s)
  formed_assign s formed = by (bytes_eq s.id x) refl
    where
      by : (b : Bool) → bytes_eq s.id x ≡ b → IsSysmod (assigned source x s)
      by true e = rw e (record {
        sources = Rises_with_item nat_list_cmp_total (λ t. t) s.sources source formed.sources;
        changes = formed.changes;
        holds = formed.holds;
      })
      by false e = rw e formed

  pub assign_kept : IsGlobal g → IsGlobal (assign g source x)
  assign_kept k = record {
    sysmods = Rises_map nat_list_cmp_total (λ s. s.id) (assigned source x)
        (assigned_same (λ s. s.id) source x (λ s. refl)) g.sysmods k.sysmods;
    holds = k.holds;
    formed = All-map IsSysmod (assigned source x) g.sysmods (All-weaker IsSysmod (λ s. IsSysmod (assigned source x s))
        formed_assign g.sysmods k.formed);
    no_loop = λ loop. k.no_loop (
      loop.0,
      loop.1,
      reaches_more (names_for (assign g source x) loop.0) (names_for g loop.0)
          (λ y z here. subst (λ vs. Contains (flat_map named vs) z) (vers_assign loop.0 y) here) loop.1 loop.1 loop.2,
    );
    roles = All-map (λ s. All (λ v. IsTrue (fits_roles (assign g source x) v)) s.vers) (assigned source x) g.sysmods
        (All-weaker (λ s. All (λ v. IsTrue (fits_roles g v)) s.vers)
        (λ s. All (λ v. IsTrue (fits_roles (assign g source x) v)) (assigned source x s).vers)
        (λ s fit. subst (λ vs. All (λ v. IsTrue (fits_roles (assign g source x) v)) vs)
        (sym (assigned_same (λ s. s.vers) source x (λ s. refl) s))
        (All-weaker (λ v. IsTrue (fits_roles g v)) (λ v. IsTrue (fits_roles (assign g source x) v)) fits_assign s.vers
        fit)) g.sysmods k.roles);
    internal = All-weaker (IsOwned g) (IsOwned (assign g source x))
        (λ h own internal. ((own internal).0, subst IsTrue (sym (received_assign h.id)) (own internal).1)) g.holds
        k.internal;
    none_carried = All-map (λ s. s.holds ≡ []) (assigned source x) g.sysmods
        (All-weaker (λ s. s.holds ≡ []) (λ s. (assigned source x s).holds ≡ [])
        (λ s none. assigned_same (λ s. s.holds) source x (λ s. refl) s ∙ none) g.sysmods k.none_carried);
    size = rw length-map k.size;
  }

-- ---- REJECT

module _ (g : Global) (x : Id) where
  received_without : (y : Id) → bytes_eq x y ≡ false → is_received (without_sysmod g x) y ≡ is_received g y
  received_without y other = ap is_some (sysmod_of_without_sysmod g x y)
      ∙ ap (λ b. is_some (cond b None (sysmod_of g y))) other

  function_without : (y : Id) → is_function g y ≡ false → is_function (without_sysmod g x) y ≡ false
  function_without y none = ap (λ o. option_map_or (λ s. is_function_kind s.kind) o false)
      (sysmod_of_without_sysmod g x y) ∙ by (bytes_eq x y)
    where
      by : (b : Bool) → option_map_or (λ s. is_function_kind s.kind) (cond b None (sysmod_of g y)) false ≡ false
      by true = refl
      by false = none

  service_without : (y : Id) → is_service g y ≡ false → is_service (without_sysmod g x) y ≡ false
  service_without y none =
      ap (λ o. is_some o && not (option_map_or (λ s. is_function_kind s.kind) o false)) (sysmod_of_without_sysmod g x y)
      ∙ by (bytes_eq x y)
    where
      by : (b : Bool) → (is_some (cond b None (sysmod_of g y)) && not
          (option_map_or (λ s. is_function_kind s.kind) (cond b None (sysmod_of g y)) false)) ≡ false
      by true = refl
      by false = none

  names_without : (srel : Text) (y z : Id) → Contains (names_for (without_sysmod g x) srel y) z
      → Contains (names_for g srel y) z
  names_without srel y z here = by (bytes_eq x y) refl
    where
      vers : Option Sysmod → List Ver
      vers o = option_map_or (λ s. filter (λ v. bytes_eq v.srel srel) s.vers) o []

      by : (b : Bool) → bytes_eq x y ≡ b → Contains (names_for g srel y) z
      by true e =
          let none : Contains [] z = subst (λ o. Contains (flat_map named (vers o)) z)
          (sysmod_of_without_sysmod g x y ∙ ap (λ b. cond b None (sysmod_of g y)) e) here in
          absurd (omega (arith, none.1))
      by false e = subst (λ o. Contains (flat_map named (vers o)) z)
          (sysmod_of_without_sysmod g x y ∙ ap (λ b. cond b None (sysmod_of g y)) e) here

  -- what stays of the holds is not internal, or on another id
  owned_without : (h : Hold) → IsOwned g h → not (h.internal && bytes_eq h.id x) ≡ true → IsOwned (without_sysmod g x) h
  owned_without h own stays internal = (
    (own internal).0,
    subst IsTrue
        (sym (received_without h.id (same_back x h.id ∙ other h.internal internal (bytes_eq h.id x) stays)))
        (own internal).1,
  )
    where
      other : (b : Bool) → b ≡ true → (c : Bool) → not (b && c) ≡ true → c ≡ false
      other true e true stays = absurd (true≢false (sym stays))
      other true e false stays = refl
      other false e c stays = absurd (true≢false (sym e))

  pub without_sysmod_kept : IsGlobal g → IsGlobal (without_sysmod g x)
  without_sysmod_kept k = record {
    sysmods = AllPairs-filter (λ a b. IsTrue (is_lt (slice_cmp nat_cmp a.id b.id))) (λ s. not (bytes_eq s.id x))
        g.sysmods k.sysmods;
    holds = AllPairs-filter (λ a b. IsTrue (is_lt (hold_cmp a b))) (λ h. not (h.internal && bytes_eq h.id x)) g.holds
        k.holds;
    formed = All-filter (λ s. not (bytes_eq s.id x)) IsSysmod g.sysmods k.formed;
    no_loop = λ loop. k.no_loop (
      loop.0,
      loop.1,
      reaches_more (names_for (without_sysmod g x) loop.0)
          (names_for g loop.0) (names_without loop.0) loop.1 loop.1 loop.2,
    );
    roles = All-filter (λ s. not (bytes_eq s.id x)) (λ s. All (λ v. IsTrue (fits_roles (without_sysmod g x) v)) s.vers)
        g.sysmods
        (All-weaker (λ s. All (λ v. IsTrue (fits_roles g v)) s.vers)
        (λ s. All (λ v. IsTrue (fits_roles (without_sysmod g x) v)) s.vers)
        (λ s fit. All-weaker (λ v. IsTrue (fits_roles g v)) (λ v. IsTrue (fits_roles (without_sysmod g x) v))
        (fits_fewer g (without_sysmod g x) function_without service_without) s.vers fit) g.sysmods k.roles);
    internal = λ i d below. owned_without (get_or (filter p g.holds) i d)
        (All-filter p (IsOwned g) g.holds k.internal i d below) (filter_passes p g.holds i d below);
    none_carried = All-filter (λ s. not (bytes_eq s.id x)) (λ s. s.holds ≡ []) g.sysmods k.none_carried;
    size = omega (arith, k.size, length_parts (λ s. not (bytes_eq s.id x)) (λ s. false) (λ s e. refl) g.sysmods);
  }
    where
      p : Hold → Bool
      p h = not (h.internal && bytes_eq h.id x)

-- ---- RECEIVE

module _ (g : Global) (s : Sysmod) (new : is_received g s.id ≡ false) where
  received_with : (y : Id) → IsTrue (is_received g y) → IsTrue (is_received (with_sysmod g s) y)
  received_with y was = ap is_some (sysmod_of_with_sysmod g s y) ∙ by (bytes_eq s.id y)
    where
      by : (b : Bool) → is_some (cond b (Some (record s { holds = [] })) (sysmod_of g y)) ≡ true
      by true = refl
      by false = was

  pub received_itself : IsTrue (is_received (with_sysmod g s) s.id)
  received_itself = ap is_some (sysmod_of_with_sysmod g s s.id)
      ∙ ap (λ b. is_some (cond b (Some (record s { holds = [] })) (sysmod_of g s.id))) (same_itself s.id)

  -- where no fault applies
  pub with_sysmod_kept : IsGlobal g → IsSysmod s → ¬ HasLoop (with_sysmod g s) → RolesFit (with_sysmod g s)
      → length g.sysmods + 1 < 2 ^ 16 → IsGlobal (with_sysmod g s)
  with_sysmod_kept k formed no_loop roles room = record {
    sysmods = Rises_with_item nat_list_cmp_total (λ r. r.id) g.sysmods (record s { holds = [] }) k.sysmods;
    holds = k.holds;
    formed = All_with_item (slice_cmp nat_cmp) (λ r. r.id) IsSysmod g.sysmods (record s { holds = [] }) k.formed
        (record {
          sources = formed.sources;
          changes = formed.changes;
          holds = All-nil (λ h. IsTrue h.internal × (h.kind ≡ System) × (h.id ≡ s.id));
        });
    no_loop = no_loop;
    roles = roles;
    internal = All-weaker (IsOwned g) (IsOwned (with_sysmod g s))
        (λ h own internal. ((own internal).0, received_with h.id (own internal).1)) g.holds k.internal;
    none_carried = All_with_item (slice_cmp nat_cmp) (λ r. r.id) (λ r. r.holds ≡ []) g.sysmods (record s { holds = [] })
        k.none_carried refl;
    size = omega (
      arith,
      room,
      length_with_item nat_list_cmp_total (λ (r : Sysmod). r.id) g.sysmods
          (record s { holds = [] }),
    );
  }

-- one hold after another
pub holds_kept : (hs : List Hold) (g : Global) → IsGlobal g → All (IsOwned g) hs → IsGlobal (fold hold g hs)
holds_kept [] g k own = k
holds_kept (h ∷ hs) g k own =
    holds_kept hs (hold g h) (hold_kept g h k (All-head (IsOwned g) h hs own)) (All-tail (IsOwned g) h hs own)

pub received_kept : (g : Global) (s : Sysmod) → is_received g s.id ≡ false → IsGlobal g → IsSysmod s
    → ¬ HasLoop (with_sysmod g s) → RolesFit (with_sysmod g s) → length g.sysmods + 1 < 2 ^ 16 → IsGlobal (received g s)
received_kept g s new k formed no_loop roles room =
    holds_kept s.holds (with_sysmod g s) (with_sysmod_kept g s new k formed no_loop roles room)
    (All-weaker (λ h. IsTrue h.internal × (h.kind ≡ System) × (h.id ≡ s.id)) (IsOwned (with_sysmod g s))
    (λ h own internal. (
      own.1,
      subst (λ x. IsTrue (is_received (with_sysmod g s) x)) (sym own.2)
          (received_itself g s new),
    )) s.holds formed.holds)
