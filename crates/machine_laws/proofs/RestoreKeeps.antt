-- RESTORE keeps a closed zone.
use Rattle.std.proofs.Common.{◌≡◌, ◌⊎◌, ◌↔◌, ◌∙◌, inl, inr, Bool, true, false, not, List, [], ◌∷◌, ◌++◌, Option, None}
use Rattle.std.proofs.Common.{Some, All, Any, Contains, IfSome, IsTrue, IsFalse, IsNone, is_some, filter, map}
use Rattle.std.proofs.Common.{get_or, unwrap_or, refl, sym, ap, subst, true≢false}
use Rattle.std.specs.Prelude.{◌&&◌, ◌||◌, ◌==◌, find, if◌then◌else◌}
use Rattle.std.specs.List.{list_any}
use Rattle.std.specs.Option.{option_map_or, option_and_then}
use Rattle.std.specs.Str.{bytes_eq}
use Rattle.std.proofs.lemmas.Bool.{and_parts, and_from, or_left, or_right, eqb-true, false_from_ne_true}
use Rattle.std.proofs.lemmas.List.Elements.{All-contains, All-contains_itself, All-weaker}
use Rattle.std.proofs.lemmas.List.Elements.{Contains-append_left, Contains-append_right, Contains-append_cases}
use Rattle.std.proofs.lemmas.List.Folds.{Any-from_list_any}
use Rattle.terms.proofs.ListMembers.{here, there, here_or, none_in, in_filter, filter_in, map_in, in_flat}
use Rattle.terms.proofs.Searches.{All_from_no_list_any, find_gives}
use Rattle.terms.proofs.TextOrder.{same_from, same_itself}
use Rattle.terms.specs.declared.codes.Test.TheVariants.{AlreadyAccepted, OtherLevel}
use Rattle.terms.specs.declared.codes.NeedKind.TheVariants.{Dep}
use Rattle.terms.specs.Types.{Id, IfReq, Ver, Applied, Change, Global, Entry, Element, Zone, RestoreList}
use Rattle.terms.specs.Types.{type_number}
use Rattle.terms.specs.Lookups.{IsZone, is_nil, is_in, is_function, has_content, is_applied, is_supplied, supplies}
use Rattle.terms.specs.Lookups.{supby_of, delby_of, waived_of, applied_ids, element_of, element_key, element_eq}
use Rattle.terms.specs.Lookups.{entry_of, applied_of, is_received, changes_of, change_of, has_change}
use Rattle.terms.specs.Choice.{Choice, counting, fmid_of, pre_of, req_of, ifs_of, npre_of}
use Rattle.terms.specs.Over.{chain, owner}
use Rattle.terms.specs.Changes.{has_update}
use Rattle.terms.specs.Deleted.{entry_less}
use Rattle.terms.specs.Needs.{unwaived, binding_ifs, binding_ids}
use Rattle.terms.specs.Global.{IsGlobal}
use Rattle.terms.specs.Restore.{Restoring, NeedsDep, is_supplied_outside, MayBeRestored, IsRestored}
use Rattle.terms.specs.Restore.{Restores, are_applied, is_alike, are_alike, may_return}
use Rattle.terms.specs.Closed.{IsSupported, IsAtPeace, IsOwned, IsClosedZone}
use Rattle.terms.proofs.Ids.{is_in_from_Contains, Contains_from_is_in}
use Rattle.terms.proofs.ElementOrder.{element_cmp_total, element_ties}
use Rattle.change.proofs.ChosenVers.{counting_for, fmid_function}
use Rattle.machine.specs.Outcome.{Line}
use Rattle.machine.specs.Restoring.{RestoresListed}
use Rattle.machine_laws.proofs.Lists.{find_itself}
use Rattle.machine_laws.proofs.AlikeSysmods.{closed_by, chosen_received}
use Rattle.machine_laws.proofs.AppliedIds.{applied_in_ids, of_applied, each_applied}
use Rattle.machine_laws.proofs.KeptChoice.{counts_alike, counts_left}
use Rattle.machine_laws.proofs.TakenOff.{applied_left, supby_left, delby_left, waived_left}
use Rattle.terms.proofs.ListMembers.{flat_in}
use Rattle.std.proofs.lemmas.Bool.{cases_Bool}
use Rattle.terms.proofs.Booleans.{false_from_not, true_from_not}
use Rattle.terms.proofs.ChangedElements.{replaces_changes, update_changes}

-- What is kept, of a list, and the zones of it, which are closed.
pub record IsRestore (r : Restoring) (ids kept : List Id) (new : Zone) : Type 0 where
  pub is_zone : IsZone r.zone
  pub members : (x : Id) → Contains kept x → IsRestored r ids x
  pub others : (x : Id) → IsRestored r ids x → Contains kept x
  pub restores : Restores r kept new
  pub global : IsGlobal r.global
  pub choice : r.choice ≡ counting r.global r.zone []
  pub srel : r.accepted.srel ≡ r.zone.srel
  pub closed : IsClosedZone r.global r.choice r.zone
  pub closed_accepted : IsClosedZone r.global (counting r.global r.accepted []) r.accepted

-- ---- what is kept

module _ (r : Restoring) (ids kept : List Id) (new : Zone) (is : IsRestore r ids kept new) where
  -- a kept SYSMOD is eligible, so it is applied and of the list
  may_be : (x : Id) → Contains kept x → MayBeRestored r ids x
  may_be x there = let stays = is.members x there in stays.1.eligible x stays.2

  kept_listed : (x : Id) → Contains kept x → Contains ids x
  kept_listed x there = (filter_in (is_applied r.zone) ids x (may_be x there).cand).0

  kept_applied : (x : Id) → Contains kept x → IsTrue (is_applied r.zone x)
  kept_applied x there = (filter_in (is_applied r.zone) ids x (may_be x there).cand).1

  -- what a kept SYSMOD needs as its dependant is kept
  dependant : (x y : Id) → Contains kept x → NeedsDep r (is_in ids) x y → Contains kept y
  dependant x y there needs =
      let stays = is.members x there in
      let serves = stays.1.served x y Dep stays.2 (kept_applied x there, needs) in
      elim serves.2 [
        | inl same ↦ is.others y (stays.0, stays.1, subst (λ z. IsTrue (stays.0 z)) same serves.1)
        | inr other ↦ absurd (true≢false (sym other.0))
      ]

  -- an applied SYSMOD that is not kept has no kept FMID
  fmid_not_kept : (y f : Id) → IsTrue (is_applied r.zone y) → ¬ Contains kept y → fmid_of r.choice y ≡ Some f
      → ¬ Contains kept f
  fmid_not_kept y f on out fmid there = out (dependant f y there (record {
    other = λ same. out (subst (Contains kept) (sym same) there);
    applied = on;
    depends = inl fmid;
  }))

  -- ---- what is applied and supplied then

  abbrev IsLeft : Id → Type 0
  IsLeft x = IsTrue (is_applied r.zone x) × ¬ Contains kept x

  still_applied : (x : Id) → IsLeft x → IsTrue (is_applied new x)
  still_applied x is_left =
      applied_left (is_in kept) r.zone new is.is_zone is.restores.entries x
      ∙ and_from (is_applied r.zone x) (not (is_in kept x)) is_left.0
      (ap not (false_from_ne_true (is_in kept x) (λ e. is_left.1 (Contains_from_is_in kept x e))))

  was_applied : (x : Id) → IsTrue (is_applied new x) → IsLeft x
  was_applied x on =
      let both = and_parts (is_applied r.zone x) (not (is_in kept x))
      (sym (applied_left (is_in kept) r.zone new is.is_zone is.restores.entries x) ∙ on) in
      (both.0, λ there. true≢false (sym both.1 ∙ ap not (is_in_from_Contains kept x there)))

  -- who is in a SUPBY is applied
  supby_applied : (zone : Zone) → All (λ e. All (λ y. IsTrue (is_applied zone y)) e.supby) zone.entries → (z y : Id)
      → Contains (supby_of zone z) y → IsTrue (is_applied zone y)
  supby_applied zone all z y there = by (entry_of zone z) refl there
    where
      by : (o : Option Entry) → entry_of zone z ≡ o → Contains (option_map_or (λ e. e.supby) o []) y
          → IsTrue (is_applied zone y)
      by None at among = absurd (none_in y among)
      by (Some e) at among =
          All-contains (λ y. IsTrue (is_applied zone y)) e.supby y
          (All-contains (λ e. All (λ y. IsTrue (is_applied zone y)) e.supby) zone.entries e all
          (find_gives (λ e. bytes_eq e.id z) zone.entries e at).1) among

  some_of : (xs : List Id) → IsTrue (not (is_nil xs)) → (y : Id) × Contains xs y
  some_of [] some = absurd (true≢false (sym some))
  some_of (y ∷ ys) some = (y, here y ys)

  not_nil : (xs : List Id) (y : Id) → Contains xs y → IsTrue (not (is_nil xs))
  not_nil [] y there = absurd (none_in y there)
  not_nil (x ∷ xs) y there = refl

  -- a supplied id has a supplier
  supplier : (z : Id) → IsTrue (is_supplied r.zone z) → (p : Id) × IsTrue (supplies r.zone p z)
  supplier z supplied = by (is_applied r.zone z) refl
    where
      by : (b : Bool) → is_applied r.zone z ≡ b → (p : Id) × IsTrue (supplies r.zone p z)
      by true on = (
        z,
        and_from (is_applied r.zone z) (bytes_eq z z || is_in (supby_of r.zone z) z) on
            (or_left (bytes_eq z z) (is_in (supby_of r.zone z) z) (same_itself z)),
      )
      by false off =
          let some = some_of (supby_of r.zone z)
          (subst (λ b. IsTrue (b || not (is_nil (supby_of r.zone z)))) off supplied) in (
            some.0,
            and_from (is_applied r.zone some.0) (bytes_eq some.0 z || is_in (supby_of r.zone z) some.0)
                (supby_applied r.zone is.closed.supby z some.0 some.1)
                (or_right (bytes_eq some.0 z) (is_in (supby_of r.zone z) some.0)
                (is_in_from_Contains (supby_of r.zone z) some.0 some.1)),
          )

  -- and where one is left, it is still supplied
  still_supplied : (p z : Id) → IsTrue (supplies r.zone p z) → ¬ Contains kept p → IsTrue (is_supplied new z)
  still_supplied p z supplies_it out =
      let parts = and_parts (is_applied r.zone p) (bytes_eq p z || is_in (supby_of r.zone z) p) supplies_it in
      by (bytes_eq p z) refl parts.0 parts.1
    where
      by : (b : Bool) → bytes_eq p z ≡ b → IsTrue (is_applied r.zone p)
          → IsTrue (bytes_eq p z || is_in (supby_of r.zone z) p) → IsTrue (is_supplied new z)
      by true same on named = or_left (is_applied new z) (not (is_nil (supby_of new z)))
          (subst (λ y. IsTrue (is_applied new y)) (same_from p z same) (still_applied p (on, out)))
      by false other on named =
          let among = Contains_from_is_in (supby_of r.zone z) p
          (subst (λ b. IsTrue (b || is_in (supby_of r.zone z) p)) other named) in
          let stays = in_filter (λ y. not (is_in kept y)) (supby_of r.zone z) p among
          (ap not (false_from_ne_true (is_in kept p) (λ e. out (Contains_from_is_in kept p e)))) in
          or_right (is_applied new z) (not (is_nil (supby_of new z)))
          (not_nil (supby_of new z) p
          (subst (λ ys. Contains ys p)
          (sym (supby_left (is_in kept) r.zone new is.is_zone is.restores.entries z)) stays))

  -- What holds a SYSMOD that is left, and was supplied, is supplied.
  requisite_left : (x z : Id) → IsLeft x → Contains (binding_ids r.choice r.zone (is_applied r.zone) x) z
      → IsTrue (is_supplied r.zone z) → IsTrue (is_supplied new z)
  requisite_left x z left binds supplied = by (is_supplied new z) refl (supplier z supplied)
    where
      none_outside : IsFalse (is_supplied new z) → IsFalse (is_supplied_outside r (is_in ids) z)
      none_outside lost = false_from_ne_true (is_supplied_outside r (is_in ids) z) (λ some.
          let any = Any-from_list_any (λ p. not (is_in ids p) && supplies r.zone p z) (applied_ids r.zone) some in
          let parts = and_parts (not (is_in ids any.1)) (supplies r.zone any.1 z) any.4 in
          true≢false (sym (still_supplied any.1 z parts.1
          (λ there. true≢false (sym parts.0
          ∙ ap not (is_in_from_Contains ids any.1 (kept_listed any.1 there))))) ∙ lost))

      by : (b : Bool) → is_supplied new z ≡ b → (p : Id) × IsTrue (supplies r.zone p z) → IsTrue (is_supplied new z)
      by true e some = e
      by false lost (p, supplies_it) = elim (cases_Bool (is_in kept p)) [
        | inl there ↦ absurd (left.1 (dependant p x (Contains_from_is_in kept p there) (record {
          other = λ same. left.1 (subst (Contains kept) (sym same) (Contains_from_is_in kept p there));
          applied = left.0;
          depends = inr (binds.0, z, binds.1, binds.2, (supplies_it, none_outside lost));
        })))
        | inr out ↦ still_supplied p z supplies_it
            (λ there. true≢false (sym (is_in_from_Contains kept p there) ∙ out))
      ]

  -- ---- its parts

  binds_before : (x z : Id) → IsTrue (is_applied new x) → Contains (binding_ids r.choice new (is_applied new) x) z
      → Contains (binding_ids r.choice r.zone (is_applied r.zone) x) z
  binds_before x z on there =
      let of = filter_in (λ z. not (is_in (waived_of new x) z)) _ z there in
      let unwaived_before : IsTrue (not (is_in (waived_of r.zone x) z)) = subst (λ ws. IsTrue (not (is_in ws z)))
      (waived_left (is_in kept) r.zone new is.is_zone is.restores.entries x on) of.1 in
      in_filter (λ z. not (is_in (waived_of r.zone x) z)) _ z (among (pre_of r.choice x ++ req_of r.choice x) of.0)
      unwaived_before
    where
      ifs : Contains (binding_ifs r.choice new (is_applied new) x) z
          → Contains (binding_ifs r.choice r.zone (is_applied r.zone) x) z
      ifs found =
          let from = flat_in (λ (i : IfReq). unwaived new i.function i.req)
          (filter (λ (i : IfReq). is_applied new i.function) (ifs_of r.choice x)) z found in
          let i : IfReq = from.0 in
          let of = filter_in (λ (i : IfReq). is_applied new i.function) (ifs_of r.choice x) i from.1 in
          let asks = filter_in (λ z. not (is_in (waived_of new i.function) z)) i.req z from.2 in
          in_flat (λ (i : IfReq). unwaived r.zone i.function i.req)
          (filter (λ (i : IfReq). is_applied r.zone i.function) (ifs_of r.choice x)) i z
          (in_filter (λ (i : IfReq). is_applied r.zone i.function) (ifs_of r.choice x) i of.0
          (was_applied i.function of.1).0)
          (in_filter (λ z. not (is_in (waived_of r.zone i.function) z)) i.req z asks.0
          (subst (λ ws. IsTrue (not (is_in ws z)))
          (waived_left (is_in kept) r.zone new is.is_zone is.restores.entries i.function of.1) asks.1))

      among : (front : List Id) → Contains (front ++ binding_ifs r.choice new (is_applied new) x) z
          → Contains (front ++ binding_ifs r.choice r.zone (is_applied r.zone) x) z
      among front found =
          let was = binding_ifs r.choice r.zone (is_applied r.zone) x in
          elim (Contains-append_cases front (binding_ifs r.choice new (is_applied new) x) z found) [
            | inl first ↦ Contains-append_left front was z first
            | inr rest ↦ Contains-append_right front was z (ifs rest)
          ]

  supported : (x : Id) → IsTrue (is_applied new x) → IsSupported r.choice new x
  supported x on =
      let left = was_applied x on in
      let was = of_applied (IsSupported r.choice r.zone) r.zone is.closed.supported x left.0 in
      record {
        received = was.received;
        fmid = fmid (fmid_of r.choice x) refl left was.fmid;
        requisites = λ k d below.
            let binds = All-contains_itself (binding_ids r.choice new (is_applied new) x) k d below in
            let before = binds_before x (get_or (binding_ids r.choice new (is_applied new) x) k d) on binds in
            requisite_left x (get_or (binding_ids r.choice new (is_applied new) x) k d) left before
            (All-contains (λ z. IsTrue (is_supplied r.zone z)) (binding_ids r.choice r.zone (is_applied r.zone) x) _
            was.requisites before);
      }
    where
      fmid : (o : Option Id) → fmid_of r.choice x ≡ o → IsLeft x → IfSome o (λ f. IsTrue (is_applied r.zone f))
          → IfSome o (λ f. IsTrue (is_applied new f))
      fmid None at left was = was
      fmid (Some f) at left was = still_applied f (was, fmid_not_kept x f left.0 left.1 at)

  at_peace : (x : Id) → IsTrue (is_applied new x) → IsAtPeace r.global r.choice new x
  at_peace x on =
      let was = of_applied (IsAtPeace r.global r.choice r.zone) r.zone is.closed.at_peace x (was_applied x on).0 in
      record {
        npre = λ function. All-weaker (λ y. IsFalse (is_applied r.zone y)) (λ y. IsFalse (is_applied new y))
            (λ y none. false_from_ne_true (is_applied new y) (λ e. true≢false (sym (was_applied y e).0 ∙ none)))
            (npre_of r.choice x) (was.npre function);
        chain = All-weaker (λ y. IsNone (delby_of r.zone y)) (λ y. IsNone (delby_of new y))
            (λ y none. ap is_some (delby_left (is_in kept) r.zone new is.is_zone is.restores.entries y) ∙ none)
            (chain r.global r.choice x) was.chain;
      }

  supby_kept : (e : Entry) → Contains new.entries e → All (λ y. IsTrue (is_applied new y)) e.supby
  supby_kept e there =
      let of = (filter_in has_content (map (entry_less (is_in kept)) r.zone.entries) e
      (subst (λ es. Contains es e) is.restores.entries there)).0 in
      let from = map_in (entry_less (is_in kept)) r.zone.entries e of in
      let was = All-contains (λ e. All (λ y. IsTrue (is_applied r.zone y)) e.supby) r.zone.entries from.0
      is.closed.supby from.1 in
      subst (λ (e : Entry). All (λ y. IsTrue (is_applied new y)) e.supby) from.2 (λ k d below.
      let y = get_or (filter (λ y. not (is_in kept y)) from.0.supby) k d in
      let stays = filter_in (λ y. not (is_in kept y)) from.0.supby y
      (All-contains_itself (filter (λ y. not (is_in kept y)) from.0.supby) k d below) in
      still_applied y (
        All-contains (λ y. IsTrue (is_applied r.zone y)) from.0.supby y was stays.0,
        λ among. true≢false (sym stays.1 ∙ ap not (is_in_from_Contains kept y among)),
      ))

  -- ---- its elements

  -- whoever changes the element is not kept, so its owner is not either
  owner_not_kept : (y f : Id) → IsLeft y → owner r.global r.choice y ≡ f → ¬ Contains kept f
  owner_not_kept y f left is_owner = by (is_function r.global y) (fmid_of r.choice y) refl is_owner
    where
      by : (b : Bool) (o : Option Id) → fmid_of r.choice y ≡ o → (if b then y else unwrap_or o y) ≡ f
          → ¬ Contains kept f
      by true o at same = λ there. left.1 (subst (Contains kept) (sym same) there)
      by false None at same = λ there. left.1 (subst (Contains kept) (sym same) there)
      by false (Some g) at same = λ there.
          fmid_not_kept y g left.0 left.1 at (subst (Contains kept) (sym same) there)

  -- ---- what counts in the accepted zone

  abbrev accepted_choice : Choice
  accepted_choice = counting r.global r.accepted []

  -- what both zones have applied by one number counts alike in both
  same_counts : (x : Id) → IsTrue (is_alike r.zone r.accepted x) → accepted_choice x ≡ r.choice x
  same_counts x alike = by (applied_of r.zone x) refl (applied_of r.accepted x) refl alike
      ∙ ap (λ (c : Choice). c x) (sym is.choice)
    where
      by : (m : Option Applied) → applied_of r.zone x ≡ m → (n : Option Applied) → applied_of r.accepted x ≡ n
          → IsTrue (option_map_or (λ a. option_map_or (λ b. a.number == b.number) n false) m false)
          → accepted_choice x ≡ counting r.global r.zone [] x
      by None of_zone n of_accepted is_so = absurd (cc is_so)
      by (Some m) of_zone None of_accepted is_so = absurd (cc is_so)
      by (Some m) of_zone (Some n) of_accepted is_so =
          counts_alike r.global r.accepted r.zone [] [] x n m is.srel of_accepted of_zone
          (sym (eqb-true m.number n.number is_so))

  -- what the accepted zone has applied is received
  accepted_received : (x : Id) → IsTrue (is_applied r.accepted x) → IsTrue (is_received r.global x)
  accepted_received x on = chosen_received r.global r.accepted [] x
      (of_applied (IsSupported accepted_choice r.accepted) r.accepted is.closed_accepted.supported x on).received

  -- Who owns what is alike in both zones owns it in both.
  same_owner : (x f : Id) → IsTrue (is_alike r.zone r.accepted x) → owner r.global accepted_choice x ≡ f
      → owner r.global r.choice x ≡ f
  same_owner x f alike =
      subst (λ v. (if is_function r.global x then x else unwrap_or (option_and_then (λ (v : Ver). v.fmid) v) x) ≡ f)
      (same_counts x alike)

  -- An owner owns itself: it is a function, or alike in both zones.
  owns_itself : (x f : Id) → IsTrue (is_alike r.zone r.accepted x) → IsTrue (is_applied r.accepted f)
      → owner r.global accepted_choice x ≡ f → owner r.global accepted_choice f ≡ f → owner r.global r.choice f ≡ f
  owns_itself x f alike on owns itself =
      by (is_function r.global x) (fmid_of accepted_choice x) refl owns (cases_Bool (is_function r.global f))
    where
      function : IsTrue (is_function r.global f) → owner r.global r.choice f ≡ f
      function is_so = ap (λ b. if b then f else unwrap_or (fmid_of r.choice f) f) is_so

      same : x ≡ f → owner r.global r.choice f ≡ f
      same at = same_owner f f (subst (λ y. IsTrue (is_alike r.zone r.accepted y)) at alike) itself

      by : (b : Bool) (o : Option Id) → fmid_of accepted_choice x ≡ o → (if b then x else unwrap_or o x) ≡ f
          → (is_function r.global f ≡ true) ⊎ (is_function r.global f ≡ false) → owner r.global r.choice f ≡ f
      by b o at is_owner (inl is_so) = function is_so
      by true o at is_owner (inr none) = same is_owner
      by false None at is_owner (inr none) = same is_owner
      by false (Some h) at is_owner (inr none) = function (fmid_function r.global r.accepted.srel accepted_choice
          (counting_for r.global r.accepted []) is.global.roles x f (at ∙ ap (λ v. Some v) is_owner)
          (accepted_received f on))

  -- So an element of the accepted zone that may return keeps its owner.
  owner_still : (e : Element) → IsOwned r.global accepted_choice r.accepted e → IsTrue (are_alike r.zone r.accepted e)
      → (x : Id) → Contains (e.fmid ∷ e.rmid ∷ e.umids) x → owner r.global r.choice x ≡ e.fmid
  owner_still e was alike x among = elim (here_or e.fmid (e.rmid ∷ e.umids) x among) [
    | inl first ↦ subst (λ y. owner r.global r.choice y ≡ e.fmid) first
        (owns_itself e.rmid e.fmid (each e.rmid (here e.rmid e.umids))
        (on e.fmid (here e.fmid (e.rmid ∷ e.umids)))
        (owned_by e.rmid (there e.fmid (e.rmid ∷ e.umids) e.rmid (here e.rmid e.umids)))
        (owned_by e.fmid (here e.fmid (e.rmid ∷ e.umids))))
    | inr rest ↦ same_owner x e.fmid (each x rest) (owned_by x among)
  ]
    where
      owned_by : (y : Id) → Contains (e.fmid ∷ e.rmid ∷ e.umids) y → owner r.global accepted_choice y ≡ e.fmid
      owned_by y is_in_ids = All-contains (λ y. owner r.global accepted_choice y ≡ e.fmid)
          (e.fmid ∷ e.rmid ∷ e.umids) y was.owner is_in_ids

      on : (y : Id) → Contains (e.fmid ∷ e.rmid ∷ e.umids) y → IsTrue (is_applied r.accepted y)
      on y is_in_ids = All-contains (λ y. IsTrue (is_applied r.accepted y)) (e.fmid ∷ e.rmid ∷ e.umids) y was.applied
          is_in_ids

      each : (y : Id) → Contains (e.rmid ∷ e.umids) y → IsTrue (is_alike r.zone r.accepted y)
      each y is_in_ids = true_from_not (is_alike r.zone r.accepted y)
          (All-contains (λ y. IsFalse (not (is_alike r.zone r.accepted y))) (e.rmid ∷ e.umids) y
          (All_from_no_list_any (λ y. not (is_alike r.zone r.accepted y)) (e.rmid ∷ e.umids)
          (false_from_not (list_any (λ y. not (is_alike r.zone r.accepted y)) (e.rmid ∷ e.umids)) alike)) is_in_ids)

  module _ (e : Element) (stands : Contains new.elements e) where
    found : element_of new e.elem_type e.name ≡ Some e
    found = find_itself element_cmp_total element_key element_eq element_ties new.elements e
        is.restores.is_zone.elements stands

    -- it is of the zone, and no kept SYSMOD changes it
    of_zone : All (λ x. IsFalse (has_change r.global x e.elem_type e.name)) kept → IsOwned r.global r.choice new e
    of_zone unchanged =
        let at = sym (is.restores.others e.elem_type e.name unchanged) ∙ found in
        let there = (find_gives (λ (v : Element). element_eq (element_key v) (e.elem_type, e.name)) r.zone.elements e
        at).1 in
        let was = All-contains (IsOwned r.global r.choice r.zone) r.zone.elements e is.closed.elements there in
        let out : (x : Id) → IsTrue (has_change r.global x e.elem_type e.name) → ¬ Contains kept x =
        λ x changes among. true≢false (sym changes
        ∙ All-contains (λ x. IsFalse (has_change r.global x e.elem_type e.name)) kept x unchanged among) in
        let on : (x : Id) → Contains (e.fmid ∷ e.rmid ∷ e.umids) x → IsTrue (is_applied r.zone x) =
        λ x among. All-contains (λ x. IsTrue (is_applied r.zone x)) (e.fmid ∷ e.rmid ∷ e.umids) x was.applied among in
        let rmid_in = Members_rmid in
        let rmid_left : IsLeft e.rmid = (
          on e.rmid rmid_in,
          out e.rmid (replaces_changes r.global e.rmid e.elem_type e.name was.rmid),
        ) in
        let fmid_out = owner_not_kept e.rmid e.fmid rmid_left
        (All-contains (λ x. owner r.global r.choice x ≡ e.fmid) (e.fmid ∷ e.rmid ∷ e.umids) e.rmid was.owner rmid_in) in
        let each : (x : Id) → Contains (e.fmid ∷ e.rmid ∷ e.umids) x → IsTrue (is_applied new x) =
        λ x among. still_applied x (
          on x among,
          elim (here_or e.fmid (e.rmid ∷ e.umids) x among) [
            | inl first ↦ λ is_kept. fmid_out (subst (Contains kept) (sym first) is_kept)
            | inr rest ↦ elim (here_or e.rmid e.umids x rest) [
              | inl second ↦ λ is_kept. rmid_left.1 (subst (Contains kept) (sym second) is_kept)
              | inr later ↦ out x (update_changes r.global x e.elem_type e.name
                  (All-contains (λ x. IsTrue (has_update r.global x e.elem_type e.name)) e.umids x was.umids later))
            ]
          ],
        ) in
        record {
          applied = λ k d below. each (get_or (e.fmid ∷ e.rmid ∷ e.umids) k d)
              (All-contains_itself (e.fmid ∷ e.rmid ∷ e.umids) k d below);
          rmid = was.rmid;
          umids = was.umids;
          owner = was.owner;
          text = was.text;
        }
      where
        Members_rmid : Contains (e.fmid ∷ e.rmid ∷ e.umids) e.rmid
        Members_rmid = there e.fmid (e.rmid ∷ e.umids) e.rmid (here e.rmid e.umids)

    -- a candidate that changes an element of the accepted zone passes OtherLevel
    tested : (x : Id) → Contains kept x → IsTrue (has_change r.global x e.elem_type e.name)
        → element_of r.accepted e.elem_type e.name ≡ Some e → IsTrue (may_return r e)
    tested x among changes at = by (change_of r.global x e.elem_type e.name) refl changes
      where
        fits : Change → Bool
        fits h = (type_number h.elem_type == type_number e.elem_type) && bytes_eq h.name e.name

        by : (o : Option Change) → change_of r.global x e.elem_type e.name ≡ o → IsTrue (is_some o)
            → IsTrue (may_return r e)
        by None is_change none = absurd (true≢false (sym none))
        by (Some h) is_change some =
            let gives = find_gives fits (changes_of r.global x) h is_change in
            let same = and_parts (type_number h.elem_type == type_number e.elem_type) (bytes_eq h.name e.name) gives.0
            in
            let found_there : element_of r.accepted h.elem_type h.name ≡ Some e =
            ap
            (λ n. find (λ (v : Element). (type_number v.elem_type == n) && bytes_eq v.name h.name) r.accepted.elements)
            (eqb-true (type_number h.elem_type) (type_number e.elem_type) same.0)
            ∙ ap (element_of r.accepted e.elem_type) (same_from h.name e.name same.1) ∙ at in
            let returns : Option Element → Bool = λ o. option_map_or (may_return r) o true in
            elim (cases_Bool (may_return r e)) [
              | inl good ↦ good
              | inr bad ↦ absurd ((may_be x among).passes OtherLevel
                  (gives.1.0, h, gives.1.1, gives.1.2, ap returns found_there ∙ bad))
            ]

    -- it is of the accepted zone, and a kept SYSMOD changes it
    of_accepted : Any (λ x. IsTrue (has_change r.global x e.elem_type e.name)) kept → IsOwned r.global r.choice new e
    of_accepted some =
        let at = sym (is.restores.reverted e.elem_type e.name some) ∙ found in
        let among = (find_gives (λ (v : Element). element_eq (element_key v) (e.elem_type, e.name)) r.accepted.elements
        e at).1 in
        let was = All-contains (IsOwned r.global accepted_choice r.accepted) r.accepted.elements e
        is.closed_accepted.elements among in
        let returns = and_parts (are_applied r.zone e) (are_alike r.zone r.accepted e)
        (tested some.1 (some.0, some.2, some.3) some.4 at) in
        let ids = e.fmid ∷ e.rmid ∷ e.umids in
        let all = All_from_no_list_any (λ y. not (is_applied r.zone y)) ids
        (false_from_not (list_any (λ y. not (is_applied r.zone y)) ids) returns.0) in
        let each : (x : Id) → Contains ids x → IsTrue (is_applied new x) =
        λ x there. still_applied x (
          true_from_not (is_applied r.zone x) (All-contains (λ y. IsFalse (not (is_applied r.zone y))) ids x all there),
          λ is_kept. (may_be x is_kept).passes AlreadyAccepted (or_left (is_applied r.accepted x)
              (not (is_nil (supby_of r.accepted x)))
              (All-contains (λ y. IsTrue (is_applied r.accepted y)) ids x was.applied there)),
        ) in
        record {
          applied = λ k d below. each (get_or ids k d) (All-contains_itself ids k d below);
          rmid = was.rmid;
          umids = was.umids;
          owner = λ k d below.
              owner_still e was returns.1 (get_or ids k d) (All-contains_itself ids k d below);
          text = was.text;
        }

    owned : IsOwned r.global r.choice new e
    owned = by (list_any (λ x. has_change r.global x e.elem_type e.name) kept) refl
      where
        by : (b : Bool) → list_any (λ x. has_change r.global x e.elem_type e.name) kept ≡ b
            → IsOwned r.global r.choice new e
        by true some = of_accepted (Any-from_list_any (λ x. has_change r.global x e.elem_type e.name) kept some)
        by false none = of_zone (All_from_no_list_any (λ x. has_change r.global x e.elem_type e.name) kept none)

  pub restored_closed : IsClosedZone r.global r.choice new
  restored_closed = record {
    supported = each_applied (IsSupported r.choice new) new is.restores.is_zone supported;
    at_peace = each_applied (IsAtPeace r.global r.choice new) new is.restores.is_zone at_peace;
    supby = λ k d below. supby_kept (get_or new.entries k d) (All-contains_itself new.entries k d below);
    elements = λ k d below. owned (get_or new.elements k d) (All-contains_itself new.elements k d below);
  }

-- RESTORE in a closed zone, with a closed distribution zone of its SREL, leads to a closed zone.
pub restore_keeps_closed : (g : Global) (zone accepted : Zone) (what : RestoreList) (new : Zone) (lines : List Line)
    → RestoresListed g zone accepted what new lines → IsGlobal g → IsZone zone → accepted.srel ≡ zone.srel
    → IsClosedZone g (counting g zone []) zone → IsClosedZone g (counting g accepted []) accepted
    → IsClosedZone g (counting g new []) new
restore_keeps_closed g zone accepted what new lines restores global is_zone srel closed closed_accepted =
    let r : Restoring = record { global = g; choice = counting g zone []; zone = zone; accepted = accepted } in
    let at = restores.setting_is in
    let done : Restores r restores.kept new = subst (λ s. Restores s restores.kept new) at restores.restores in
    closed_by g (counting g zone []) (counting g new []) new
    (restored_closed r restores.ids restores.kept new (record {
      is_zone = is_zone;
      members = λ x. (subst (λ s. (x : Id) → Contains restores.kept x ↔ IsRestored s restores.ids x) at
          restores.members x).0;
      others = λ x. (subst (λ s. (x : Id) → Contains restores.kept x ↔ IsRestored s restores.ids x) at
          restores.members x).1;
      restores = done;
      global = global;
      choice = refl;
      srel = srel;
      closed = closed;
      closed_accepted = closed_accepted;
    }))
    (λ x there. sym (counts_left g (is_in restores.kept) zone new [] [] x is_zone done.entries
    (ap (λ (z : Zone). z.srel) done.rest) (applied_in_ids new done.is_zone x there)))
