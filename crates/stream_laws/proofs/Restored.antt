-- RESTORE keeps a zone of the stream, and its fixes, if its distribution zone lacks no fix either.
use Rattle.std.proofs.Common.{◌≡◌, ◌⊎◌, ◌↔◌, ◌∙◌, ◌≤◌, Bool, true, false, not, List, [], ◌∷◌, Option, None, Some}
use Rattle.std.proofs.Common.{All, Contains, IsTrue, IsFalse, filter, is_some, length, inl, inr, refl, sym, ap}
use Rattle.std.proofs.Common.{subst}
use Rattle.std.proofs.Common.{true≢false}
use Rattle.std.specs.Prelude.{◌||◌}
use Rattle.std.specs.List.{list_any}
use Rattle.std.specs.Option.{option_map_or}
use Rattle.std.specs.Str.{bytes_eq}
use Rattle.std.proofs.lemmas.Bool.{and_from, and_parts, cases_Bool, not-true}
use Rattle.std.proofs.lemmas.List.Elements.{All-contains}
use Rattle.std.proofs.lemmas.List.Folds.{Any-from_list_any}
use Rattle.terms.specs.declared.kinds.ElemType.{ElemType}
use Rattle.terms.specs.declared.codes.NeedKind.TheVariants.{Elem}
use Rattle.terms.specs.declared.codes.Test.TheVariants.{OtherLevel}
use Rattle.terms.specs.Types.{Text, Id, Change, Global, Entry, Element, Zone, RestoreList}
use Rattle.terms.specs.Lookups.{IsZone, is_nil, is_in, waives_applied, changes_of, has_change, element_of, entry_of}
use Rattle.terms.specs.Lookups.{is_applied, is_supplied, supby_of, waived_of}
use Rattle.terms.specs.Choice.{Choice, vers_of, counting, sup_of}
use Rattle.terms.specs.Over.{owner}
use Rattle.terms.specs.Changes.{has_replacement}
use Rattle.terms.proofs.Booleans.{true_from_not}
use Rattle.terms.specs.Restore.{Restoring, MayBeRestored, IsRestored, Restores, are_applied, are_alike, may_return}
use Rattle.terms.specs.Closed.{IsSupported, IsOwned, IsClosedZone}
use Rattle.terms.proofs.ChangedElements.{change_found, replaces_changes}
use Rattle.terms.proofs.Each.{any_in, in_any}
use Rattle.terms.proofs.Ids.{is_in_from_Contains}
use Rattle.terms.proofs.ListMembers.{here, there, in_filter, filter_in}
use Rattle.terms.proofs.Nil.{nil_from}
use Rattle.terms.proofs.Searches.{All_find, All_from_no_list_any}
use Rattle.machine.specs.Outcome.{Line}
use Rattle.machine.specs.Restoring.{RestoresListed}
use Rattle.machine_laws.proofs.AlikeSysmods.{closed_by}
use Rattle.machine_laws.proofs.AppliedIds.{of_applied}
use Rattle.machine_laws.proofs.TakenOff.{applied_left, supby_left, waived_left}
use Rattle.machine_laws.proofs.Supplied.{supplied_applied}
use Rattle.terms.specs.Stream.{IsInStream, IsOfStream, HasAllFixes, HasOwners}
use Rattle.terms.specs.Stream.{ver_for, IsCleanFor}
use Rattle.stream_laws.specs.Service.{IsServed}
use Rattle.stream_laws.proofs.NoRegression.{of_stream_closed, found_key}
use Rattle.stream_laws.proofs.OneVer.{counts_for, fixes_by, owners_by, same_owner}
use Rattle.stream_laws.proofs.Received.{HasFix, fixes_from_applied}

-- what is not applied waives nothing
unapplied_waives : (zone : Zone) → IsZone zone → (x : Id) → is_applied zone x ≡ false → waived_of zone x ≡ []
unapplied_waives zone is_zone x off = by (entry_of zone x) refl
  where
    none : (applied waiving : Bool) → (applied || waiving) ≡ true → applied ≡ false → waiving ≡ true
    none true waiving either off = absurd (true≢false off)
    none false waiving either off = either

    by : (o : Option Entry) → entry_of zone x ≡ o → waived_of zone x ≡ []
    by None at = ap (λ o. option_map_or (λ (e : Entry). e.waived) o []) at
    by (Some e) at =
        ap (λ o. option_map_or (λ (e : Entry). e.waived) o []) at
        ∙ nil_from e.waived (none (is_some e.applied) (is_nil e.waived)
        (All_find (λ e. IsTrue (waives_applied e)) (λ e. bytes_eq e.id x) zone.entries e is_zone.waived at)
        (sym (ap (λ o. option_map_or (λ (e : Entry). is_some e.applied) o false) at) ∙ off))

module _ (g : Global) (zone accepted : Zone) (what : RestoreList) (new : Zone) (lines : List Line)
    (run : RestoresListed g zone accepted what new lines) (is_zone : IsZone zone) (is : IsServed g zone)
    (level : IsServed g accepted) (same_srel : accepted.srel ≡ zone.srel) (clean : IsCleanFor g zone.srel)
    (closed : IsClosedZone g (counting g new []) new) where
  abbrev r : Restoring
  r = record { global = g; choice = counting g zone []; zone = zone; accepted = accepted }

  abbrev kept : List Id
  kept = run.kept

  done : Restores r kept new
  done = subst (λ v. Restores v kept new) run.setting_is run.restores

  members : (x : Id) → Contains kept x ↔ IsRestored r run.ids x
  members = subst (λ v. (x : Id) → Contains kept x ↔ IsRestored v run.ids x) run.setting_is run.members

  -- ---- one choice

  abbrev c : Choice
  c = ver_for g zone.srel

  counts : (at : Zone) → at.srel ≡ zone.srel → IsClosedZone g (counting g at []) at → (x : Id)
      → counting g at [] x ≡ c x
  counts at srel at_closed x =
      counts_for g at [] at_closed (subst (λ t. (y : Id) → length (vers_of g t y) ≤ 1) (sym srel) clean.single) x
      ∙ ap (λ t. ver_for g t x) srel

  new_srel : new.srel ≡ zone.srel
  new_srel = ap (λ (v : Zone). v.srel) done.rest

  by_c : (at : Zone) → at.srel ≡ zone.srel → IsServed g at → HasAllFixes g c at × HasOwners g c at
  by_c at srel served = (
    fixes_by g (counting g at []) c (counts at srel served.of_stream.closed) at served.fixes,
    owners_by g (counting g at []) c (counts at srel served.of_stream.closed) at served.owners,
  )

  zone_has : HasAllFixes g c zone × HasOwners g c zone
  zone_has = by_c zone refl is

  accepted_has : HasAllFixes g c accepted × HasOwners g c accepted
  accepted_has = by_c accepted same_srel level

  old : IsOfStream g c zone
  old = of_stream_closed g g (counting g zone []) c zone
      (closed_by g (counting g zone []) c zone is.of_stream.closed
      (λ x there. counts zone refl is.of_stream.closed x)) (λ x on. counts zone refl is.of_stream.closed x) is.of_stream

  -- ---- what is left applied

  left : (x : Id) → is_applied new x ≡ true → (is_applied zone x ≡ true) × (is_in kept x ≡ false)
  left x on =
      let both = and_parts (is_applied zone x) (not (is_in kept x))
      (sym (applied_left (is_in kept) zone new is_zone done.entries x) ∙ on) in
      (both.0, not-true (is_in kept x) both.1)

  unwaived : (x : Id) → waived_of new x ≡ []
  unwaived x = elim (cases_Bool (is_applied new x)) [
    | inl on ↦ waived_left (is_in kept) zone new is_zone done.entries x on ∙ old.unwaived x
    | inr off ↦ unapplied_waives new done.is_zone x off
  ]

  supby_is : (x b : Id) → Contains (supby_of new x) b ↔ (IsTrue (is_applied new b) × Contains (sup_of c b) x)
  supby_is x b = (names, named)
    where
      at : supby_of new x ≡ filter (λ y. not (is_in kept y)) (supby_of zone x)
      at = supby_left (is_in kept) zone new is_zone done.entries x

      names : Contains (supby_of new x) b → IsTrue (is_applied new b) × Contains (sup_of c b) x
      names stands =
          let from = filter_in (λ y. not (is_in kept y)) (supby_of zone x) b
          (subst (λ ids. Contains ids b) at stands) in
          let was = (old.supby x b).0 from.0 in (
            applied_left (is_in kept) zone new is_zone done.entries b
                ∙ and_from (is_applied zone b) (not (is_in kept b)) was.0 from.1,
            was.1,
          )

      named : IsTrue (is_applied new b) × Contains (sup_of c b) x → Contains (supby_of new x) b
      named (on, sup) =
          let was = left b on in
          subst (λ ids. Contains ids b) (sym at) (in_filter (λ y. not (is_in kept y)) (supby_of zone x) b
          ((old.supby x b).1 (was.0, sup)) (ap not was.1))

  of_stream : IsOfStream g c new
  of_stream = record {
    closed = closed_by g (counting g new []) c new closed (λ x there. counts new new_srel closed x);
    unwaived = unwaived;
    supby = supby_is;
  }

  -- ---- elements

  module _ (b : Id) (on : is_applied new b ≡ true) (type : ElemType) (name : Text)
      (changes : has_change g b type name ≡ true) where
    was_on : is_applied zone b ≡ true
    was_on = (left b on).0

    in_stream : IsInStream c b
    in_stream = (of_applied (IsSupported c zone) zone old.closed.supported b was_on).received

    -- the element before it, with its owner
    before : (e : Element) × (element_of zone type name ≡ Some e) × (owner g c b ≡ e.fmid)
    before =
        let fix = zone_has.0 b in_stream (supplied_applied zone b was_on) type name changes in
        (fix.0, fix.1, zone_has.1 b was_on type name changes fix.0 fix.1)

    module _ (x : Id) (taken : Contains kept x) (too : has_change g x type name ≡ true) where
      may_be : MayBeRestored r run.ids x
      may_be = let stays = (members x).0 taken in stays.1.eligible x stays.2

      statement : (h : Change) × Contains (changes_of g x) h × (h.elem_type ≡ type) × (h.name ≡ name)
      statement = change_found g x type name too

      not_kept : ¬ Contains kept b
      not_kept there = true≢false (sym (is_in_from_Contains kept b there) ∙ (left b on).1)

      -- ELEM: what changes an element that goes back is accepted, or goes with it
      accepted_too : is_supplied accepted b ≡ true
      accepted_too = elim (cases_Bool (is_supplied accepted b)) [
        | inl supplied ↦ supplied
        | inr missing ↦
            let stays = (members x).0 taken in
            let serves = stays.1.served x b Elem stays.2 (
              (filter_in (is_applied zone) run.ids x may_be.cand).1,
              record {
                other = λ same. not_kept (subst (Contains kept) (sym same) taken);
                applied = was_on;
                not_accepted = missing;
                shared = any_in (λ (h : Change). IsTrue (has_change g b h.elem_type h.name)) (changes_of g x)
                    statement.0 statement.1 (subst (λ n. has_change g b statement.0.elem_type n ≡ true)
                    (sym statement.3) (subst (λ t. has_change g b t name ≡ true) (sym statement.2) changes));
              },
            ) in
            elim serves.2 [
              | inl same ↦ absurd (not_kept ((members b).1 (
                stays.0,
                stays.1,
                subst (λ y. IsTrue (stays.0 y)) same serves.1,
              )))
              | inr over ↦ absurd (true≢false (sym over.0))
            ]
      ]

      returned : element_of new type name ≡ element_of accepted type name
      returned = done.reverted type name (any_in (λ y. IsTrue (has_change g y type name)) kept x taken too)

      returned_fix : HasFix new c b type name
      returned_fix =
          let fix = accepted_has.0 b in_stream accepted_too type name changes in (fix.0, returned ∙ fix.1, fix.2)

      -- OtherLevel: the element of the distribution zone may return, so that its RMID is applied
      returned_owner : (e : Element) → element_of new type name ≡ Some e → owner g c b ≡ e.fmid
      returned_owner e found =
          before.2 ∙ sym (zone_has.1 e.rmid rmid_on type name rmid_changes before.0 before.1)
          ∙ sym (owner_by e.rmid)
          ∙ All-contains (λ y. owner g (counting g accepted []) y ≡ e.fmid) ids e.rmid of.owner among
        where
          ids : List Id
          ids = e.fmid ∷ e.rmid ∷ e.umids

          there_too : element_of accepted type name ≡ Some e
          there_too = sym returned ∙ found

          key : Contains accepted.elements e × (e.elem_type ≡ type) × (e.name ≡ name)
          key = found_key accepted type name e there_too

          of : IsOwned g (counting g accepted []) accepted e
          of = All-contains (IsOwned g (counting g accepted []) accepted) accepted.elements e
              level.of_stream.closed.elements key.0

          among : Contains ids e.rmid
          among = there e.fmid (e.rmid ∷ e.umids) e.rmid (here e.rmid e.umids)

          owner_by : (y : Id) → owner g (counting g accepted []) y ≡ owner g c y
          owner_by y = same_owner g (counting g accepted []) c (counts accepted same_srel level.of_stream.closed) y

          rmid_changes : has_change g e.rmid type name ≡ true
          rmid_changes = replaces_changes g e.rmid type name
              (subst (λ n. has_replacement g e.rmid type n ≡ true) key.2
              (subst (λ t. has_replacement g e.rmid t e.name ≡ true) key.1 of.rmid))

          statement_found : element_of accepted statement.0.elem_type statement.0.name ≡ Some e
          statement_found = ap (λ t. element_of accepted t statement.0.name) statement.2
              ∙ ap (element_of accepted type) statement.3 ∙ there_too

          returns : may_return r e ≡ true
          returns = elim (cases_Bool (may_return r e)) [
            | inl may ↦ may
            | inr none ↦ absurd (may_be.passes OtherLevel (any_in
                (λ (h : Change). IsFalse (option_map_or (may_return r) (element_of accepted h.elem_type h.name) true))
                (changes_of g x) statement.0 statement.1
                (ap (λ o. option_map_or (may_return r) o true) statement_found ∙ none)))
          ]

          rmid_on : is_applied zone e.rmid ≡ true
          rmid_on = true_from_not (is_applied zone e.rmid) (All-contains (λ y. not (is_applied zone y) ≡ false) ids
              e.rmid (All_from_no_list_any (λ y. not (is_applied zone y)) ids
              (not-true (list_any (λ y. not (is_applied zone y)) ids)
              (and_parts (are_applied zone e) (are_alike zone accepted e) returns).0)) among)

    -- A SYSMOD that is taken off changes the element, or none does.
    taken_or_not : ((x : Id) × Contains kept x × (has_change g x type name ≡ true))
        ⊎ All (λ x. IsFalse (has_change g x type name)) kept
    taken_or_not = elim (cases_Bool (list_any (λ x. has_change g x type name) kept)) [
      | inl some ↦ inl (in_any (λ x. has_change g x type name ≡ true) kept
          (Any-from_list_any (λ x. has_change g x type name) kept some))
      | inr none ↦ inr (All_from_no_list_any (λ x. has_change g x type name) kept none)
    ]

    applied_fix : HasFix new c b type name
    applied_fix = elim taken_or_not [
      | inl some ↦ returned_fix some.0 some.1 some.2
      | inr none ↦
          let fix = zone_has.0 b in_stream (supplied_applied zone b was_on) type name changes in
          (fix.0, done.others type name none ∙ fix.1, fix.2)
    ]

    owned : (e : Element) → element_of new type name ≡ Some e → owner g c b ≡ e.fmid
    owned e found = elim taken_or_not [
      | inl some ↦ returned_owner some.0 some.1 some.2 e found
      | inr none ↦ zone_has.1 b was_on type name changes e (sym (done.others type name none) ∙ found)
    ]

  new_counts : (x : Id) → c x ≡ counting g new [] x
  new_counts x = sym (counts new new_srel closed x)

  pub restored_served : IsServed g new
  restored_served = record {
    of_stream = of_stream_closed g g c (counting g new []) new closed (λ x on. new_counts x) of_stream;
    fixes = fixes_by g c (counting g new []) new_counts new
        (fixes_from_applied g new c clean.clean of_stream applied_fix);
    owners = owners_by g c (counting g new []) new_counts new owned;
  }
