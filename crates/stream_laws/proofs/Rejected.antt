-- REJECT keeps a zone of the stream, and its fixes, as long as the stream is clean after it.
use Rattle.std.proofs.Common.{◌≡◌, ◌⊎◌, ◌∙◌, Bool, true, false, not, cond, List, [], ◌∷◌, None, Some, Contains}
use Rattle.std.proofs.Common.{is_some, inl, inr, refl, sym, ap, subst, true≢false}
use Rattle.std.specs.Prelude.{Ok, Err, if◌then◌else◌}
use Rattle.std.specs.List.{list_any}
use Rattle.std.specs.Str.{bytes_eq}
use Rattle.std.proofs.lemmas.Bool.{false_from_ne_true}
use Rattle.std.proofs.lemmas.List.Elements.{All-contains}
use Rattle.terms.specs.declared.kinds.ElemType.{ElemType}
use Rattle.terms.specs.Types.{Text, Id, Global, Element, Zone, NamedZone}
use Rattle.terms.specs.Lookups.{IsZone, has_change, element_of, is_applied, is_received, sysmod_of}
use Rattle.terms.specs.Choice.{Choice, counting}
use Rattle.terms.specs.Over.{names, IsOver, owner}
use Rattle.terms.specs.Global.{IsGlobal, AppliedSomewhere, UnknownSysmod, without_sysmod, reject}
use Rattle.terms.specs.Closed.{IsSupported, IsOwned, IsClosedZone}
use Rattle.terms.proofs.Applied.{in_applied_ids}
use Rattle.terms.proofs.GlobalLookups.{sysmod_of_without_sysmod}
use Rattle.terms.proofs.Leads.{reaches_through}
use Rattle.terms.proofs.ListMembers.{there}
use Rattle.terms.proofs.TextOrder.{same_or_not}
use Rattle.change.proofs.ChosenVers.{counting_for, names_no_loop}
use Rattle.machine.specs.Outcome.{Line}
use Rattle.machine.specs.Receiving.{global_after}
use Rattle.machine.specs.Rejecting.{RejectsId}
use Rattle.machine.specs.Runs.{Runs}
use Rattle.machine_laws.proofs.AlikeSysmods.{AreAlike, alike_choice, alike_received, applied_received, chosen_received}
use Rattle.machine_laws.proofs.AppliedIds.{of_applied}
use Rattle.machine_laws.proofs.ReceiveKeeps.{KeepsReceived}
use Rattle.machine_laws.proofs.RejectKeeps.{without_alike}
use Rattle.machine_laws.proofs.Supplied.{supplied_applied}
use Rattle.terms.specs.Stream.{IsInStream, IsClean, IsOfStream}
use Rattle.terms.specs.Stream.{IsCleanFor}
use Rattle.stream_laws.specs.Service.{IsServed}
use Rattle.stream_laws.proofs.Alike.{alike_change, alike_owner}
use Rattle.stream_laws.proofs.NoRegression.{of_stream_closed, found_key, level_changes}
use Rattle.stream_laws.proofs.OneVer.{over_by, clean_by_what_counts}
use Rattle.stream_laws.proofs.Received.{HasFix, fixes_from_applied}

-- ---- what is received after a REJECT was received before it, and is as it was

without_keeps : (g : Global) (x : Id) → KeepsReceived (without_sysmod g x) g
without_keeps g x y received = sym (without_alike g x y (false_from_ne_true (bytes_eq x y) (λ same.
    true≢false (sym received ∙ ap is_some (sysmod_of_without_sysmod g x y)
    ∙ ap (λ b. is_some (cond b None (sysmod_of g y))) same))))

rejected_keeps : (zones : List NamedZone) (g : Global) (x : Id)
    → KeepsReceived (global_after g (reject g zones x)) g
rejected_keeps zones g x =
    by (is_received g x) (list_any (λ (z : NamedZone). is_applied z.zone x) zones)
  where
    by : (received applied : Bool) → KeepsReceived (global_after g (if not received then Err UnknownSysmod
        else if applied then Err AppliedSomewhere else Ok (without_sysmod g x))) g
    by false applied = λ y received. refl
    by true true = λ y received. refl
    by true false = without_keeps g x

pub rejects_keep : (zones : List NamedZone) (ids : List Id) (g new : Global) (lines : List Line)
    → Runs (RejectsId zones) g ids new lines → KeepsReceived new g
rejects_keep zones [] g new lines (same, none) = subst (λ h. KeepsReceived h g) (sym same) (λ y received. refl)
rejects_keep zones (x ∷ ids) g new lines (m, front, back, takes, runs, are) = λ y received.
    let later = rejects_keep zones ids m new back runs y received in
    subst (λ h. KeepsReceived h g) (sym takes.0) (rejected_keeps zones g x) y
    (alike_received new m y later ∙ received)
    ∙ later

-- ---- a zone

module _ (g h : Global) (zone : Zone) (is_global : IsGlobal g) (is_zone : IsZone zone) (keeps : KeepsReceived h g)
    (closed : IsClosedZone h (counting h zone []) zone) (is : IsServed g zone) (after : IsCleanFor h zone.srel) where
  abbrev was : Choice
  was = counting g zone []

  abbrev now : Choice
  now = counting h zone []

  applied_alike : (x : Id) → is_applied zone x ≡ true → AreAlike h g x
  applied_alike x on = keeps x (applied_received h zone [] closed x (in_applied_ids zone x on))

  counted : (x : Id) → IsInStream now x → now x ≡ was x
  counted x in_stream = sym (alike_choice h g zone x (keeps x (chosen_received h zone [] x in_stream)))

  applied_counted : (x : Id) → is_applied zone x ≡ true → now x ≡ was x
  applied_counted x on = sym (alike_choice h g zone x (applied_alike x on))

  of_stream : IsOfStream h now zone
  of_stream = of_stream_closed g h was now zone closed (λ x on. sym (applied_counted x on)) is.of_stream

  clean : IsClean h now
  clean = clean_by_what_counts h zone [] closed after

  -- no two are over each other
  no_loop : (x y : Id) → IsOver was x y → ¬ IsOver now y x
  no_loop x y over under = names_no_loop g zone.srel was (counting_for g zone []) is_global.no_loop x
      (reaches_through (names was) x y x over (over_by now was y x counted under))

  module _ (y : Id) (on : is_applied zone y ≡ true) (type : ElemType) (name : Text)
      (changes : has_change h y type name ≡ true) where
    changed : has_change g y type name ≡ true
    changed = alike_change h g y type name (applied_alike y on) ∙ changes

    own : (e : Element) → element_of zone type name ≡ Some e → owner h now y ≡ e.fmid
    own e found = sym (alike_owner h g now was y (applied_alike y on) (applied_counted y on))
        ∙ is.owners y on type name changed e found

    -- What was over y still is.
    still_over : (e : Element) → element_of zone type name ≡ Some e → (r : Id) → Contains (e.rmid ∷ e.umids) r
        → IsOver was r y → (r ≡ y) ⊎ IsOver now r y
    still_over e found r within over = elim (same_or_not r y) [
      | inl same ↦ inl same
      | inr other ↦ elim (clean.ordered r y (received r r_on) (received y on) other
          (All-contains (λ x. owner h now x ≡ e.fmid) ids r of.owner among ∙ sym (own e found)) (
            type,
            name,
            subst (λ n. has_change h r type n ≡ true) key.2
                (subst (λ t. has_change h r t e.name ≡ true) key.1 (level_changes h now zone e of r within)),
            changes,
          )) [
            | inl up ↦ inr up
            | inr under ↦ absurd (no_loop r y over under)
          ]
    ]
      where
        ids : List Id
        ids = e.fmid ∷ e.rmid ∷ e.umids

        key : Contains zone.elements e × (e.elem_type ≡ type) × (e.name ≡ name)
        key = found_key zone type name e found

        of : IsOwned h now zone e
        of = All-contains (IsOwned h now zone) zone.elements e closed.elements key.0

        among : Contains ids r
        among = there e.fmid (e.rmid ∷ e.umids) r within

        r_on : is_applied zone r ≡ true
        r_on = All-contains (λ x. is_applied zone x ≡ true) ids r of.applied among

        received : (x : Id) → is_applied zone x ≡ true → IsInStream now x
        received x x_on = (of_applied (IsSupported now zone) zone closed.supported x x_on).received

    applied_fix : HasFix zone now y type name
    applied_fix =
        let fix = is.fixes y (of_applied (IsSupported was zone) zone is.of_stream.closed.supported y on).received
        (supplied_applied zone y on) type name changed in (
          fix.0,
          fix.1,
          (
            fix.2.0,
            fix.2.1,
            elim fix.2.2 [
              | inl same ↦ inl same
              | inr over ↦ still_over fix.0 fix.1 fix.2.0 fix.2.1 over
            ],
          ),
        )

  pub rejected_served : IsServed h zone
  rejected_served = record {
    of_stream = of_stream;
    fixes = fixes_from_applied h zone now clean of_stream applied_fix;
    owners = λ y on type name changes. own y on type name changes;
  }
