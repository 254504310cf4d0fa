-- All that is told of the failure of a candidate witnesses it, and nothing of the failure lacks a witness.
use Rattle.std.proofs.Common.{◌≡◌, ◌≢◌, inl, inr, Bool, true, false, List, [], ◌++◌, Option, None}
use Rattle.std.proofs.Common.{Contains, refl, sym, subst, true≢false}
use Rattle.std.specs.Prelude.{if◌then◌else◌}
use Rattle.std.specs.List.{flat_map}
use Rattle.terms.specs.declared.codes.NeedKind.{NeedKind}
use Rattle.terms.specs.declared.codes.NeedKind.TheVariants.{Orphan}
use Rattle.terms.specs.declared.codes.Test.{Test}
use Rattle.terms.specs.declared.codes.Test.TheVariants.{NotInTarget, ChainDeleted, InClash}
use Rattle.terms.specs.Types.{Text, Id, Global, Zone, Bypass}
use Rattle.terms.specs.Lookups.{IsZone, is_in, is_applied}
use Rattle.terms.specs.Choice.{counting, del_of}
use Rattle.terms.specs.Global.{IsGlobal}
use Rattle.terms.specs.Judged.{setting}
use Rattle.terms.specs.Needs.{Needs, asked, orphans}
use Rattle.terms.specs.Over.{IsOver, chain}
use Rattle.terms.specs.Tests.{Setting, FailsAlone, Fails, IsChainDeleted}
use Rattle.terms.proofs.Ids.{Contains_from_is_in}
use Rattle.terms.proofs.Searches.{some_passes}
use Rattle.terms.proofs.TextOrder.{same_or_not}
use Rattle.machine.specs.Outcome.{Failed, Failure, OpenNeed, Line}
use Rattle.report.specs.Facts.{Fact, AreFacts, MayServe, Resolution, Supplied, Waived, ByItself, Open}
use Rattle.why_verdict.specs.declared.conflict.Conflict.{Conflict}
use Rattle.why_verdict.specs.Conflicts.{AreConflicts}
use Rattle.why_verdict.specs.Verdict.{Basis, by_target, reason, conflict_reason, test_told}
use Rattle.why_laws.specs.Witnesses.{Witnesses, NamesTests, AreLinesOf, WitnessesNeed, IsWitnessed}
use Rattle.why_laws.proofs.ConflictsTold.{witnesses_by, IsToldBy, deletion_told_by, clash_told}
use Rattle.why_laws.proofs.FactsSay.{says}
use Rattle.why_laws.proofs.NeedsTold.{need_witnessed}
use Rattle.why_laws.proofs.Printed.{cons_some, some_front, some_back, some_flat}
use Rattle.why_laws.proofs.TestsTold.{witnesses, IsTold, told_alone, deletion_told}

unless_told : (b : Bool) (first rest : Text) → b ≡ false → rest ≢ [] → (if b then first else rest) ≢ []
unless_told true first rest off some = absurd (true≢false off)
unless_told false first rest off some = some

-- The facts of an id do not look at the related target zone.
module _ (g : Global) (zone : Zone) (related : Option Zone) (cands : List Id) (bypass : Bypass) where
  abbrev s : Setting
  s = setting g zone related cands bypass

  abbrev seen : Setting
  seen = setting g zone None cands bypass

  alone_seen : (x : Id) (t : Test) → by_target t ≡ false → FailsAlone s x t → FailsAlone seen x t
  alone_seen x NotInTarget off fails = absurd (true≢false off)
  alone_seen x t off fails = fails

  seen_witnesses : (x : Id) (t : Test) (fact : Fact) → Witnesses seen x t fact → Witnesses s x t fact
  seen_witnesses x t fact is = is

  seen_conflicts : (lines : List Line) (x : Id) (conflicts : List Conflict) → AreConflicts seen lines x conflicts
      → AreConflicts s lines x conflicts
  seen_conflicts lines x conflicts are = record {
    partners = are.partners;
    are_partners = are.are_partners;
    conflicts_are = are.conflicts_are;
  }

  asks_seen : (survivors : List Id) (x : Id) (kind : NeedKind) (z : Id) → Contains (asked s survivors x kind) z
      → Contains (asked seen survivors x kind) z
  unfolding orphans
  asks_seen survivors x Orphan z is = is
  asks_seen survivors x kind z is = is

  seen_serves : (kind : NeedKind) (z y : Id) → MayServe seen kind z y → MayServe s kind z y
  seen_serves kind z y may = record { installable = may.installable; serves = may.serves }

  serves_seen : (kind : NeedKind) (z y : Id) → MayServe s kind z y → MayServe seen kind z y
  serves_seen kind z y may = record { installable = may.installable; serves = may.serves }

  seen_need : (survivors : List Id) (x : Id) (kind : NeedKind) (z : Id) (answer : Resolution)
      → WitnessesNeed seen survivors x kind z answer → WitnessesNeed s survivors x kind z answer
  seen_need survivors x kind z (Supplied ids) is = is
  seen_need survivors x kind z Waived is = is
  seen_need survivors x kind z ByItself is = seen_serves kind z x is
  seen_need survivors x kind z (Open ids) is = (
    λ itself. is.0 (serves_seen kind z x itself),
    λ y. (λ at. seen_serves kind z y ((is.1 y).0 at), λ may. (is.1 y).1 (serves_seen kind z y may)),
  )

  module _ (is_global : IsGlobal g) (is_zone : IsZone zone) (itself : (y : Id) → ¬ IsOver (counting g zone cands) y y)
      (survivors : List Id) (x : Id) (cand : Contains cands x) (unapplied : is_applied zone x ≡ false)
      (facts : List Fact) (are : AreFacts seen x facts) (lines : List Line) (of_lines : AreLinesOf s lines)
      (conflicts : List Conflict) (are_conflicts : AreConflicts seen lines x conflicts) where
    abbrev basis : Basis
    basis = record { bypass = bypass; facts = facts; conflicts = conflicts; lines = lines }

    by_fact : (t : Test) → by_target t ≡ false → IsTold seen is_global is_zone itself x facts are t
        → test_told basis t ≢ []
    by_fact t off it =
        let front = flat_map (reason bypass t) facts in
        let back = flat_map (conflict_reason t) conflicts in
        unless_told (by_target t) _ (front ++ back) off
        (some_front front back (some_flat (reason bypass t) facts it.0 it.1 it.2))

    by_conflict : (t : Test) → by_target t ≡ false
        → IsToldBy s lines of_lines x conflicts (seen_conflicts lines x conflicts are_conflicts) t
        → test_told basis t ≢ []
    by_conflict t off it =
        let front = flat_map (reason bypass t) facts in
        let back = flat_map (conflict_reason t) conflicts in
        unless_told (by_target t) _ (front ++ back) off
        (some_back front back (some_flat (conflict_reason t) conflicts it.0 it.1 it.2))

    deleted_told : IsChainDeleted s x → test_told basis ChainDeleted ≢ []
    deleted_told fails =
        let y = fails.1.0 in
        let at = some_passes (λ w. is_in (del_of (counting g zone cands) y) w) (chain g (counting g zone cands) x)
        fails.1.2 in
        let names = Contains_from_is_in (del_of (counting g zone cands) y) at.0 at.2 in
        elim (same_or_not x y) [
          | inl same ↦ by_fact ChainDeleted refl (deletion_told seen is_global is_zone itself x facts are at.0
              (subst (λ w. Contains (del_of (counting g zone cands) w) at.0) (sym same) names) at.1)
          | inr other ↦ by_conflict ChainDeleted refl (deletion_told_by s lines of_lines x conflicts
              (seen_conflicts lines x conflicts are_conflicts) fails y at.0 other fails.1.1 names at.1)
        ]

    told : (t : Test) → Fails s x t → test_told basis t ≢ []
    told NotInTarget fails = cons_some 32 _
    told ChainDeleted fails = deleted_told fails
    told InClash fails = by_conflict InClash refl (clash_told s lines of_lines x conflicts
        (seen_conflicts lines x conflicts are_conflicts) fails)
    told t fails = by_fact t refl (told_alone seen is_global is_zone itself x facts are t refl fails)

    pub witnessed : (f : Failure) → NamesTests s x (Failed f)
        → ((n : OpenNeed) → Contains f.needs n → Needs s survivors x n.kind n.id) → IsWitnessed s survivors x basis f
    witnessed f tests needs = record {
      facts = λ t fact failed is some. seen_witnesses x t fact
          (witnesses seen is_global is_zone itself x t fact (says seen x facts are fact is) some);
      conflicts = λ t conflict failed is some. witnesses_by s lines of_lines x conflicts
          (seen_conflicts lines x conflicts are_conflicts) t conflict is some;
      tests = λ t fails. ((tests t).1 fails, told t fails);
      needs = λ n is.
          let need = needs n is in
          let it = need_witnessed seen x cand facts are is_zone unapplied survivors n.kind n.id
          (asks_seen survivors x n.kind n.id need.asks) need.not_met in
          (it.0, it.1, seen_need survivors x n.kind n.id it.0 it.2);
    }
