-- RECEIVE keeps a zone of the stream, and its fixes, as long as the stream is clean after it.
use Rattle.std.proofs.Common.{◌≡◌, ◌∙◌, true, [], Some, Contains}
use Rattle.std.proofs.Common.{inl, inr, sym, subst}
use Rattle.terms.specs.declared.kinds.ElemType.{ElemType}
use Rattle.terms.specs.Types.{Text, Id, Global, Element, Zone}
use Rattle.terms.specs.Lookups.{IsZone, has_change, element_of, is_applied}
use Rattle.terms.specs.Choice.{Choice, counting, sup_of}
use Rattle.terms.specs.Over.{names, IsOver, owner}
use Rattle.terms.specs.Closed.{IsSupported, IsClosedZone}
use Rattle.terms.proofs.Applied.{in_applied_ids}
use Rattle.terms.proofs.Leads.{reaches_named, reaches_through}
use Rattle.terms.proofs.Loops.{sup_named}
use Rattle.machine_laws.proofs.AlikeSysmods.{AreAlike, alike_choice, applied_received, chosen_received}
use Rattle.machine_laws.proofs.AlikeSysmods.{still_closed}
use Rattle.machine_laws.proofs.AppliedIds.{applied_in_ids, of_applied}
use Rattle.machine_laws.proofs.ReceiveKeeps.{KeepsReceived}
use Rattle.machine_laws.proofs.Supplied.{supplied_or, supplied_applied}
use Rattle.terms.specs.Stream.{IsInStream, IsClean, IsOfStream, IsInLevel, HasAllFixes}
use Rattle.terms.specs.Stream.{IsCleanFor}
use Rattle.stream_laws.specs.Service.{IsServed}
use Rattle.stream_laws.proofs.Alike.{alike_change, alike_owner}
use Rattle.stream_laws.proofs.NoRegression.{of_stream_closed}
use Rattle.stream_laws.proofs.OneVer.{level_by, clean_by_what_counts}

-- the zone has the element, and y is in its level
abbrev pub HasFix : Zone → Choice → Id → ElemType → Text → Type 0
HasFix zone c y type name = (e : Element) × (element_of zone type name ≡ Some e) × IsInLevel c e y

-- If the levels have all applied SYSMODs, they have the superseded ones too, since what supersedes an id changes all
-- that it changes.
module _ (g : Global) (zone : Zone) (c : Choice) (clean : IsClean g c) (is : IsOfStream g c zone)
    (applied : (y : Id) → is_applied zone y ≡ true → (type : ElemType) (name : Text)
    → has_change g y type name ≡ true → HasFix zone c y type name) where
  superseded_fix : (y b : Id) → IsInStream c y → is_applied zone b ≡ true → Contains (sup_of c b) y
      → (type : ElemType) (name : Text) → has_change g y type name ≡ true → HasFix zone c y type name
  superseded_fix y b in_stream on named type name changes =
      let fix = applied b on type name (clean.elements b y in_stream named type name changes) in (
        fix.0,
        fix.1,
        (
          fix.2.0,
          fix.2.1,
          inr (elim fix.2.2 [
            | inl same ↦ subst (λ x. IsOver c x y) (sym same) over
            | inr up ↦ reaches_through (names c) fix.2.0 b y up over
          ]),
        ),
      )
    where
      over : IsOver c b y
      over = reaches_named (names c) b y (sup_named c b y named)

  pub fixes_from_applied : HasAllFixes g c zone
  fixes_from_applied y in_stream there type name changes = elim (supplied_or zone y there) [
    | inl on ↦ applied y on type name changes
    | inr by ↦ let sup = (is.supby y by.0).0 by.1 in superseded_fix y by.0 in_stream sup.0 sup.1 type name changes
  ]

module _ (g h : Global) (zone : Zone) (is_zone : IsZone zone) (keeps : KeepsReceived g h) (is : IsServed g zone)
    (after : IsCleanFor h zone.srel) where
  abbrev was : Choice
  was = counting g zone []

  abbrev now : Choice
  now = counting h zone []

  -- what is applied, and all that is in the old stream, is as it was
  applied_alike : (x : Id) → is_applied zone x ≡ true → AreAlike g h x
  applied_alike x on = keeps x (applied_received g zone [] is.of_stream.closed x (in_applied_ids zone x on))

  still_counts : (x : Id) → IsInStream was x → was x ≡ now x
  still_counts x in_stream = sym (alike_choice g h zone x (keeps x (chosen_received g zone [] x in_stream)))

  closed : IsClosedZone h now zone
  closed = still_closed g h zone is.of_stream.closed
      (λ x there. applied_alike x (applied_in_ids zone is_zone x there))

  of_stream : IsOfStream h now zone
  of_stream = of_stream_closed g h was now zone closed
      (λ x on. sym (alike_choice g h zone x (applied_alike x on))) is.of_stream

  clean : IsClean h now
  clean = clean_by_what_counts h zone [] closed after

  applied_fix : (y : Id) → is_applied zone y ≡ true → (type : ElemType) (name : Text)
      → has_change h y type name ≡ true → HasFix zone now y type name
  applied_fix y on type name changes =
      let fix = is.fixes y (of_applied (IsSupported was zone) zone is.of_stream.closed.supported y on).received
      (supplied_applied zone y on) type name (sym (alike_change g h y type name (applied_alike y on)) ∙ changes) in
      (fix.0, fix.1, level_by was now fix.0 y still_counts fix.2)

  owned : (y : Id) → is_applied zone y ≡ true → (type : ElemType) (name : Text) → has_change h y type name ≡ true
      → (e : Element) → element_of zone type name ≡ Some e → owner h now y ≡ e.fmid
  owned y on type name changes e found =
      alike_owner g h was now y (applied_alike y on) (sym (alike_choice g h zone y (applied_alike y on)))
      ∙ is.owners y on type name (sym (alike_change g h y type name (applied_alike y on)) ∙ changes) e found

  pub received_served : IsServed h zone
  received_served = record {
    of_stream = of_stream;
    fixes = fixes_from_applied h zone now clean of_stream applied_fix;
    owners = owned;
  }
