-- The lines of REPORT ERRSYSMODS are those of the definition: what resolves a reason can be told, since walks are
-- short.
use Rattle.std.proofs.Common.{◌≡◌, ◌∙◌, ◌⊎◌, inl, inr, Bool, true, false, not, List, [], ◌∷◌, ◌++◌, map, filter}
use Rattle.std.proofs.Common.{Contains, IsTrue, refl, sym, ap, subst, true≢false}
use Rattle.std.proofs.lemmas.List.{map-append}
use Rattle.std.proofs.lemmas.Simd.{map-map}
use Rattle.std.specs.Prelude.{◌↔◌}
use Rattle.std.specs.List.{flat_map}
use Rattle.std.proofs.lemmas.List.Elements.{Contains-append_left, Contains-append_right}
use Rattle.std.proofs.lemmas.List.Kept.{AllPairs-filter}
use Rattle.terms.proofs.ListMembers.{here, in_filter, filter_in, in_flat}
use Rattle.terms.proofs.Pairs.{pairs_map}
use Rattle.terms.proofs.TextOrder.{same_or_not}
use Rattle.terms.specs.Types.{Id, Ver, Sysmod, Entry, Global, Zone}
use Rattle.terms.specs.Lookups.{IsRising, at_most_one, is_nil, is_before}
use Rattle.terms.specs.Choice.{Choice, vers_of, place, counting, sup_of}
use Rattle.sysmods.specs.Choices.{has_ver}
use Rattle.terms.specs.Over.{Reaches}
use Rattle.terms.specs.Global.{IsGlobal, named, names_for}
use Rattle.terms.proofs.Leads.{reaches_more}
use Rattle.terms.proofs.Walks.{reaches_or_not}
use Rattle.machine.specs.Outcome as machine
use Rattle.machine.specs.Errsysmods.{AreErrsysmods, Resolves, is_current, open_errors}
use Rattle.report.specs.Views.{line_view}
use Rattle.report.specs.declared.outcome.ReportLine.{ReportLine}
use Rattle.report.specs.declared.error_holds.OpenErrorHold.{OpenErrorHold}
use Rattle.report.specs.ErrorHolds.{an_open, open_on}
use Rattle.report.specs.ErrsysmodLines.{AreLinesOf}
use Rattle.report.proofs.Superseding.{received, sup_by}

module _ (g : Global) (zone : Zone) (is_global : IsGlobal g) where
  abbrev c : Choice
  c = counting g zone []

  abbrev ids : List Id
  ids = map (λ s. s.id) g.sysmods

  sup_received : (x z : Id) → Contains (sup_of c x) z → Contains ids x
  sup_received x z is =
      let from = sup_by g zone.srel (place g zone []) x z is in received g zone.srel x from.0 from.1

  sup_among : (x z : Id) → Contains (sup_of c x) z → Contains (names_for g zone.srel x) z
  sup_among x z is =
      let from = sup_by g zone.srel (place g zone []) x z is in
      in_flat named (vers_of g zone.srel x) from.0 z from.1
      (Contains-append_left (from.0.pre ++ from.0.sup) (at_most_one from.0.fmid) z
      (Contains-append_right from.0.pre from.0.sup z from.2))

  no_loop : (x : Id) → ¬ Reaches (sup_of c) x x
  no_loop x loop =
      is_global.no_loop (zone.srel, x, reaches_more (sup_of c) (names_for g zone.srel) sup_among x x loop)

  -- whether it resolves the reason
  resolves_or_not : (reason y : Id) → Resolves g zone reason y ⊎ (¬ Resolves g zone reason y)
  resolves_or_not reason y = by (has_ver g zone.srel y) refl
    where
      by : (b : Bool) → has_ver g zone.srel y ≡ b → Resolves g zone reason y ⊎ (¬ Resolves g zone reason y)
      by false at = inr (λ r. true≢false (sym r.fits ∙ at))
      by true at = elim (same_or_not y reason) [
        | inl same ↦ inl (record { fits = at; reaches = inl same })
        | inr other ↦ elim (reaches_or_not (sup_of c) ids sup_received no_loop y reason) [
          | inl above ↦ inl (record { fits = at; reaches = inr above })
          | inr not_above ↦
              inr (λ r. elim r.reaches [ inl same ↦ other same | inr above ↦ not_above above ])
        ]
      ]

  abbrev told : {P : Type 0} → P ⊎ (¬ P) → Bool
  told (inl p) = true
  told (inr n) = false

  told_so : {P : Type 0} (d : P ⊎ (¬ P)) → told d ≡ true → P
  told_so (inl p) is = p
  told_so (inr n) is = absurd (true≢false (sym is))

  so_told : {P : Type 0} (d : P ⊎ (¬ P)) → P → told d ≡ true
  so_told (inl p) is = refl
  so_told (inr n) is = absurd (n is)

  abbrev resolvers : Id → List Id
  resolvers reason = filter (λ y. told (resolves_or_not reason y)) ids

  resolvers_rise : (reason : Id) → IsRising (resolvers reason)
  resolvers_rise reason =
      AllPairs-filter (λ x y. IsTrue (is_before x y)) (λ y. told (resolves_or_not reason y)) ids
      (pairs_map (λ (a b : Sysmod). IsTrue (is_before a.id b.id)) (λ x y. IsTrue (is_before x y)) (λ s. s.id)
      (λ a b before. before) g.sysmods is_global.sysmods)

  resolves_is : (reason y : Id) → Contains (resolvers reason) y ↔ Resolves g zone reason y
  resolves_is reason y = (
    λ h. told_so (resolves_or_not reason y) (filter_in (λ y. told (resolves_or_not reason y)) ids y h).1,
    λ r. in_filter (λ y. told (resolves_or_not reason y)) ids y (is_there r.fits)
        (so_told (resolves_or_not reason y) r),
  )
    where
      is_there : IsTrue (has_ver g zone.srel y) → Contains ids y
      is_there some = by (vers_of g zone.srel y) refl
        where
          by : (vs : List Ver) → vers_of g zone.srel y ≡ vs → Contains ids y
          by [] at = absurd (true≢false (sym some ∙ ap (λ l. not (is_nil l)) at))
          by (v ∷ vs) at = received g zone.srel y v (subst (λ l. Contains l v) (sym at) (here v vs))

  abbrev printed : OpenErrorHold → machine.Line
  printed o = machine.ErrsysmodLine o.id o.reason (resolvers o.reason)

  printed_on : (es : List Entry)
      → map printed (flat_map (λ e. open_on g zone e.id) es)
      ≡ flat_map (λ e. map (λ h. machine.ErrsysmodLine e.id h.reason (resolvers h.reason)) (open_errors g zone e)) es
  printed_on [] = refl
  printed_on (e ∷ es) =
      map-append printed (open_on g zone e.id) (flat_map (λ e. open_on g zone e.id) es)
      ∙ ap (λ l. map printed (open_on g zone e.id) ++ l) (printed_on es)
      ∙ ap (λ l. l ++ flat_map (λ e. map (λ h. machine.ErrsysmodLine e.id h.reason (resolvers h.reason))
      (open_errors g zone e)) es)
      (map-map printed (λ h. an_open e.id h.reason) (open_errors g zone e))

  pub are_errsysmods : (errors : List OpenErrorHold) (lines : List ReportLine)
      → errors ≡ flat_map (λ e. open_on g zone e.id) (filter is_current zone.entries)
      → AreLinesOf g zone errors lines → AreErrsysmods g zone (map line_view lines)
  are_errsysmods errors lines errors_are lines_are = record {
    resolvers = resolvers;
    lines_are =
        lines_are resolvers (λ reason. (resolvers_rise reason, resolves_is reason))
        ∙ ap (map printed) errors_are ∙ printed_on (filter is_current zone.entries);
    rising = resolvers_rise;
    all = resolves_is;
  }
