-- The front of a global zone's list of SYSMODs, and one more behind it.
use Rattle.std.proofs.Common.{◌≡◌, ◌∙◌, Bool, false, not, ◌&&◌, List, [], ◌∷◌, ◌++◌, fold, filter}
use Rattle.std.proofs.Common.{refl, sym, ap, subst, Option, None, Some, is_some, IsTrue, All, Contains, true≢false}
use Rattle.std.proofs.Common.{arith, append-nil, length-append}
use Rattle.std.specs.declared.cmp.Ordering.TheVariants.{Less}
use Rattle.std.specs.Ordering.{is_lt, is_eq, nat_cmp}
use Rattle.std.specs.Cmp.Lexicographic.{slice_cmp}
use Rattle.std.specs.List.{flat_map}
use Rattle.std.specs.Option.{option_map_or, option_or}
use Rattle.std.specs.Str.{bytes_eq}
use Rattle.std.proofs.lemmas.Cmp.{nat_list_cmp_total}
use Rattle.std.proofs.lemmas.Map.Text.{is_eq-slice_cmp}
use Rattle.std.proofs.lemmas.List.Folds.{find-append}
use Rattle.std.proofs.lemmas.List.Elements.{All-nil, All-weaker}
use Rattle.terms.proofs.Each.{All_front}
use Rattle.terms.specs.Types.{Text, Id, Hold, Sysmod, Global, a_global, is_function_kind}
use Rattle.terms.specs.Rising.{Rises, Splits, with_item}
use Rattle.terms.specs.Lookups.{is_function}
use Rattle.terms.specs.Global.{named, names_for, HasLoop, is_service, fits_roles, RolesFit, hold_cmp, hold, IsSysmod}
use Rattle.terms.specs.Global.{IsGlobal, HasFault, ReceiveFault, AlreadyReceived, MakesLoop, WrongRole, NoRoom}
use Rattle.terms.specs.Global.{with_sysmod}
use Rattle.terms.proofs.Leads.{reaches_more}
use Rattle.terms.proofs.GlobalKept.{IsOwned}
use Rattle.terms.proofs.GlobalRoles.{fits_fewer}
use Rattle.terms.proofs.RisingLists.{with_item_new}
use Rattle.terms.proofs.Pairs.{AllPairs_parts}
use Rattle.terms.proofs.Orderings.{Less_from_is_lt}
use Rattle.terms.proofs.Searches.{find_over}
use Rattle.sysmods.specs.Held.{found, zone_of}
use Rattle.sysmods.specs.declared.refused.Refused.{Refused}
use Rattle.sysmods.specs.declared.refused.Refused.TheVariants as why
use Rattle.sysmods.specs.Refused.{HasNoFault, IsRefused, fault_of}
use Rattle.sysmods.proofs.Receiving.{kept}
use Rattle.terms.proofs.Pairs.{AllPairs_front}

module _ (xs ys : List Sysmod) where
  abbrev Whole : Global
  Whole = zone_of (xs ++ ys)

  abbrev Front : Global
  Front = zone_of xs

  -- what is found in the front is found in the whole
  whole_found : (x : Id) (s : Sysmod) → found xs x ≡ Some s → found (xs ++ ys) x ≡ Some s
  whole_found x s here = find-append (λ r. bytes_eq r.id x) xs ys ∙ ap (λ o. option_or o (found ys x)) here

  function_front : (x : Id) → is_function Whole x ≡ false → is_function Front x ≡ false
  function_front x none = by (found xs x) refl
    where
      is_fn : Option Sysmod → Bool
      is_fn o = option_map_or (λ s. is_function_kind s.kind) o false

      by : (o : Option Sysmod) → found xs x ≡ o → is_fn (found xs x) ≡ false
      by None e = ap is_fn e
      by (Some s) e = ap is_fn e ∙ sym (ap is_fn (whole_found x s e)) ∙ none

  service_front : (x : Id) → is_service Whole x ≡ false → is_service Front x ≡ false
  service_front x none = by (found xs x) refl
    where
      is_other : Option Sysmod → Bool
      is_other o = is_some o && not (option_map_or (λ s. is_function_kind s.kind) o false)

      by : (o : Option Sysmod) → found xs x ≡ o → is_other (found xs x) ≡ false
      by None e = ap is_other e
      by (Some s) e = ap is_other e ∙ sym (ap is_other (whole_found x s e)) ∙ none

  names_front : (srel : Text) (y z : Id) → Contains (names_for Front srel y) z → Contains (names_for Whole srel y) z
  names_front srel y z here = by (found xs y) refl
    where
      named_by : Option Sysmod → List Id
      named_by o = flat_map named (option_map_or (λ s. filter (λ v. bytes_eq v.srel srel) s.vers) o [])

      by : (o : Option Sysmod) → found xs y ≡ o → Contains (named_by (found (xs ++ ys) y)) z
      by None e = absurd (none (subst (λ o. Contains (named_by o) z) e here))
        where
          none : Contains [] z → ⊥
          none h = omega (arith, h.1)
      by (Some s) e = subst (λ o. Contains (named_by o) z) (e ∙ sym (whole_found y s e)) here

  -- A loop or a fault of roles in the front is one of the whole.
  pub loop_front : HasLoop Front → HasLoop Whole
  loop_front (srel, x, loop) = (
    srel,
    x,
    reaches_more (names_for Front srel) (names_for Whole srel) (names_front srel) x
        x loop,
  )

  pub roles_front : RolesFit Whole → RolesFit Front
  roles_front fit =
      All_front Fits xs ys
      (All-weaker (λ s. All (λ v. IsTrue (fits_roles Whole v)) s.vers) Fits
      (λ s all. All-weaker (λ v. IsTrue (fits_roles Whole v)) (λ v. IsTrue (fits_roles Front v))
      (fits_fewer Whole Front function_front service_front) s.vers all) (xs ++ ys) fit)
    where
      Fits : Sysmod → Type 0
      Fits s = All (λ v. IsTrue (fits_roles Front v)) s.vers

  pub global_front : IsGlobal Whole → IsGlobal Front
  global_front g = record {
    sysmods = AllPairs_front (λ a b. IsTrue (is_lt (slice_cmp nat_cmp a.id b.id))) xs ys g.sysmods;
    holds = g.holds;
    formed = All_front IsSysmod xs ys g.formed;
    no_loop = λ loop. g.no_loop (loop_front loop);
    roles = roles_front g.roles;
    internal = All-nil (IsOwned Front);
    none_carried = All_front (λ s. s.holds ≡ []) xs ys g.none_carried;
    size = omega (arith, g.size, length-append xs ys);
  }

-- all stand before the id
abbrev pub AreBefore : List Sysmod → Id → Type 0
AreBefore xs x = All (λ s. IsTrue (is_lt (slice_cmp nat_cmp s.id x))) xs

module _ (xs : List Sysmod) (s : Sysmod) where
  pub before_last : (ys : List Sysmod) → Rises (slice_cmp nat_cmp) (λ r. r.id) (xs ++ s ∷ ys) → AreBefore xs s.id
  before_last ys rises = (AllPairs_parts (λ a b. IsTrue (is_lt (slice_cmp nat_cmp a.id b.id))) xs ys s rises).0

  pub new_last : AreBefore xs s.id → found xs s.id ≡ None
  new_last low =
      ap (λ rs. found rs s.id) (sym (append-nil xs))
      ∙ find_over (λ r. bytes_eq r.id s.id) xs []
      (All-weaker (λ r. IsTrue (is_lt (slice_cmp nat_cmp r.id s.id))) (λ r. bytes_eq r.id s.id ≡ false)
      (λ r less. sym (is_eq-slice_cmp r.id s.id) ∙ ap is_eq (Less_from_is_lt (slice_cmp nat_cmp r.id s.id) less)) xs
      low)

  -- it comes in at the end
  pub item_last : AreBefore xs s.id → (r : Sysmod) → r.id ≡ s.id
      → with_item (slice_cmp nat_cmp) (λ r. r.id) xs r ≡ xs ++ r ∷ []
  item_last low r same =
      ap (λ rs. with_item (slice_cmp nat_cmp) (λ r. r.id) rs r) (sym (append-nil xs))
      ∙ with_item_new nat_list_cmp_total (λ (r : Sysmod). r.id) xs [] r splits
    where
      splits : Splits (slice_cmp nat_cmp) (λ (r : Sysmod). r.id) r.id xs []
      splits = record {
        low = All-weaker (λ y. IsTrue (is_lt (slice_cmp nat_cmp y.id s.id))) (λ y. slice_cmp nat_cmp y.id r.id ≡ Less)
            (λ y less. ap (slice_cmp nat_cmp y.id) same ∙ Less_from_is_lt (slice_cmp nat_cmp y.id s.id) less) xs low;
        high = λ i d below. absurd (omega arith);
      }

  module _ (low : AreBefore xs s.id) (none : s.holds ≡ []) where
    bare : record s { holds = [] } ≡ s
    bare = ap (λ hs. record s { holds = hs }) (sym none)

    zone_last : with_sysmod (zone_of xs) s ≡ zone_of (xs ++ s ∷ [])
    zone_last = ap zone_of (item_last low (record s { holds = [] }) refl ∙ ap (λ r. xs ++ r ∷ []) bare)

    -- Where it is refused, it makes no global zone.
    pub none_refused : IsGlobal (zone_of (xs ++ s ∷ [])) → HasNoFault (zone_of xs) s
    none_refused g AlreadyReceived fault = true≢false (sym fault ∙ ap is_some (new_last low))
    none_refused g MakesLoop fault = g.no_loop (subst HasLoop zone_last fault)
    none_refused g WrongRole fault = fault (subst RolesFit (sym zone_last) g.roles)
    none_refused g NoRoom fault = omega (arith, fault, g.size, length-append xs (s ∷ []))

    -- Where it is not, it makes one.
    pub global_last : IsGlobal (zone_of xs) → IsSysmod s → HasNoFault (zone_of xs) s
        → IsGlobal (zone_of (xs ++ s ∷ []))
    global_last g formed no_fault =
        subst IsGlobal (ap (fold hold (with_sysmod (zone_of xs) s)) none ∙ zone_last)
        (kept (zone_of xs) s g formed no_fault)

-- Holds beside the SYSMODs of a global zone.
module _ (xs : List Sysmod) (hs : List Hold) where
  pub global_holds : IsGlobal (zone_of xs) → Rises hold_cmp (λ h. h) hs → All (IsOwned (zone_of xs)) hs
      → IsGlobal (a_global xs hs)
  global_holds g rises owned = record {
    sysmods = g.sysmods;
    holds = rises;
    formed = g.formed;
    no_loop = g.no_loop;
    roles = g.roles;
    internal = owned;
    none_carried = g.none_carried;
    size = g.size;
  }

-- A refusal that stands for a fault has that fault.
module _ (g : Global) (s : Sysmod) where
  pub some_fault : (e : Refused) → IsRefused g s e → IsTrue (is_some (fault_of e)) → (f : ReceiveFault) × HasFault g s f
  some_fault why.AlreadyReceived fault is = (AlreadyReceived, fault)
  some_fault why.MakesLoop (first, fault) is = (MakesLoop, fault)
  some_fault why.WrongRole (first, second, fault) is = (WrongRole, fault)
  some_fault why.NoRoom (first, second, third, fault) is = (NoRoom, fault)
  some_fault why.Memory fault is = absurd (true≢false (sym is))
