-- REPORT ERRSYSMODS has an answer: what resolves a reason can be decided, and stands among what is received.
use Rattle.std.proofs.Common.{◌≡◌, inl, inr, Bool, true, false, not, List, map, filter, Contains, IsTrue, refl}
use Rattle.std.proofs.Common.{[]}
use Rattle.std.specs.Prelude.{◌↔◌}
use Rattle.std.specs.List.{flat_map}
use Rattle.std.proofs.lemmas.List.Kept.{AllPairs-filter}
use Rattle.terms.proofs.ListMembers.{in_filter, filter_in}
use Rattle.terms.proofs.Pairs.{pairs_map}
use Rattle.terms.proofs.TextOrder.{same_or_not}
use Rattle.terms.specs.Types.{Id, Sysmod, Entry, Hold, Global, Zone}
use Rattle.terms.specs.Lookups.{IsRising, is_before, is_nil}
use Rattle.terms.specs.Choice.{Choice, vers_of, counting, sup_of}
use Rattle.terms.specs.Over.{names, Supersedes}
use Rattle.terms.specs.Global.{IsGlobal}
use Rattle.terms.proofs.Leads.{reaches_more}
use Rattle.terms.proofs.Walks.{reaches_or_not}
use Rattle.change.proofs.ChosenVers.{AreFor, counting_for, names_received, names_no_loop}
use Rattle.machine.specs.Outcome.{Line, ErrsysmodLine}
use Rattle.machine.specs.Errsysmods.{open_errors, is_current, Resolves, AreErrsysmods}
use Rattle.machine_laws.proofs.RunsAnswered.{Decided, decided_true}
use Rattle.terms.proofs.GlobalLookups.{ver_received}
use Rattle.terms.proofs.Loops.{sup_named}

told : {P : Type 0} → Decided P → Bool
told (inl is) = true
told (inr not) = false

told_so : {P : Type 0} (d : Decided P) → told d ≡ true → P
unfolding told
told_so (inl is) at = is
told_so (inr not) at = absurd (cc at)

so_told : {P : Type 0} (d : Decided P) → P → told d ≡ true
unfolding told
so_told (inl is) p = refl
so_told (inr not) p = absurd (not p)

module _ (g : Global) (zone : Zone) (is_global : IsGlobal g) where
  c : Choice
  c = counting g zone []

  are : AreFor g zone.srel c
  unfolding c
  are = counting_for g zone []

  ids : List Id
  ids = map (λ s. s.id) g.sysmods

  supersedes_or_not : (x z : Id) → Decided (Supersedes c x z)
  unfolding ids
  supersedes_or_not = reaches_or_not (sup_of c) ids
      (λ x z is. names_received g zone.srel c are x z (sup_named c x z is))
      (λ x loop. names_no_loop g zone.srel c are is_global.no_loop x
      (reaches_more (sup_of c) (names c) (sup_named c) x x loop))

  resolves_or_not : (reason y : Id) → Decided (Resolves g zone reason y)
  unfolding c
  resolves_or_not reason y = elim (decided_true (not (is_nil (vers_of g zone.srel y)))) [
    | inr none ↦ inr (λ r. none r.fits)
    | inl some ↦ elim (same_or_not y reason) [
      | inl same ↦ inl (record { fits = some; reaches = inl same })
      | inr other ↦ elim (supersedes_or_not y reason) [
        | inl above ↦ inl (record { fits = some; reaches = inr above })
        | inr not_above ↦ inr (λ r. elim r.reaches [ inl same ↦ other same | inr above ↦ not_above above ])
      ]
    ]
  ]

  resolvers : Id → List Id
  resolvers reason = filter (λ y. told (resolves_or_not reason y)) ids

  resolvers_rise : (reason : Id) → IsRising (resolvers reason)
  unfolding resolvers ids
  resolvers_rise reason =
      AllPairs-filter (λ x y. IsTrue (is_before x y)) (λ y. told (resolves_or_not reason y)) ids
      (pairs_map (λ (a b : Sysmod). IsTrue (is_before a.id b.id)) (λ x y. IsTrue (is_before x y)) (λ s. s.id)
      (λ a b before. before) g.sysmods is_global.sysmods)

  resolves_is : (reason y : Id) → Contains (resolvers reason) y ↔ Resolves g zone reason y
  unfolding resolvers ids
  resolves_is reason y = (
    λ h. told_so (resolves_or_not reason y) (filter_in (λ y. told (resolves_or_not reason y)) ids y h).1,
    λ r. in_filter (λ y. told (resolves_or_not reason y)) ids y (ver_received g zone.srel y r.fits)
        (so_told (resolves_or_not reason y) r),
  )

  pub errsysmods_some : (lines : List Line) × AreErrsysmods g zone lines
  errsysmods_some = (
    flat_map (λ (e : Entry). map (λ (h : Hold). ErrsysmodLine e.id h.reason (resolvers h.reason))
        (open_errors g zone e)) (filter is_current zone.entries),
    record { resolvers = resolvers; lines_are = refl; rising = resolvers_rise; all = resolves_is },
  )
