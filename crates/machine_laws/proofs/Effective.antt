-- Who takes effect in an install, and who of these supersedes an id, as lists.
use Rattle.std.proofs.Common.{◌≢◌, ◌⊎◌, inl, inr, List, ◌++◌, Contains, All, filter, map}
use Rattle.std.specs.Prelude.{◌↔◌}
use Rattle.std.proofs.lemmas.List.Elements.{Contains-append_left, Contains-append_right}
use Rattle.terms.proofs.ListMembers.{filter_in, in_filter}
use Rattle.terms.proofs.TextOrder.{same_or_not}
use Rattle.terms.specs.Types.{Id}
use Rattle.terms.specs.Lookups.{at_most_one, IsZone}
use Rattle.terms.specs.Choice.{fmid_of, pre_of, sup_of}
use Rattle.terms.specs.Over.{IsOver, Supersedes}
use Rattle.terms.specs.Global.{IsGlobal}
use Rattle.terms.specs.Tests.{ShareElement}
use Rattle.terms.specs.Install.{Installation, TakesEffect}
use Rattle.terms.proofs.Ids.{in_or_not}
use Rattle.terms.proofs.Walks.{reaches_or_not}
use Rattle.change.specs.Elements.{HasBases}
use Rattle.change.proofs.ChosenVers.{AreFor, names_received, never_itself}
use Rattle.store_schema.specs.Forms.{HasSysmodForms, HasZoneForms}
use Rattle.machine_laws.proofs.Finitely.{is_so, so_exactly}
use Rattle.machine_laws.proofs.RunsAnswered.{Decided, decided_some}

-- The global zone and the zone are ones that can be stored. Over orders what is kept and changes one element, and what
-- is updated is there or comes along.
pub record IsSoundInstall (i : Installation) : Type 0 where
  pub global : IsGlobal i.global
  pub sysmods : All HasSysmodForms i.global.sysmods
  pub vers : AreFor i.global i.zone.srel i.choice
  pub is_zone : IsZone i.zone
  pub forms : HasZoneForms i.zone
  pub order : (x y : Id) → Contains i.kept x → Contains i.kept y → x ≢ y → ShareElement i.global x y
      → IsOver i.choice x y ⊎ IsOver i.choice y x
  pub bases : HasBases i

module _ (i : Installation) (sound : IsSoundInstall i) where
  pub received : List Id
  received = map (λ s. s.id) i.global.sysmods

  -- what supersedes anything is received
  pub superseder_received : (x z : Id) → Contains (sup_of i.choice x) z → Contains received x
  unfolding received
  superseder_received x z is =
      names_received i.global i.zone.srel i.choice sound.vers x z
      (Contains-append_left (pre_of i.choice x ++ sup_of i.choice x) (at_most_one (fmid_of i.choice x)) z
      (Contains-append_right (pre_of i.choice x) (sup_of i.choice x) z is))

  supersedes_or_not : (y x : Id) → Decided (Supersedes i.choice y x)
  supersedes_or_not = reaches_or_not (sup_of i.choice) received superseder_received
      (never_itself i.global i.zone.srel i.choice sound.vers sound.global.no_loop)

  other_or_not : (x y : Id) → Decided ((y ≢ x) × Supersedes i.choice y x)
  other_or_not x y = elim (same_or_not y x) [
    | inl same ↦ inr (λ both. both.0 same)
    | inr other ↦ elim (supersedes_or_not y x) [
      | inl over ↦ inl (other, over)
      | inr under ↦ inr (λ both. under both.1)
    ]
  ]

  takes_or_not : (x : Id) → Decided (TakesEffect i x)
  takes_or_not x = elim (in_or_not i.kept x) [
    | inl is ↦ elim (decided_some (λ y. (y ≢ x) × Supersedes i.choice y x) (other_or_not x) i.kept) [
      | inl found ↦ inr (λ effect. effect.first found.0 found.1 found.2.0 found.2.1)
      | inr none ↦ inl (record { kept = is; first = λ y there other over. none y there (other, over) })
    ]
    | inr out ↦ inr (λ effect. out effect.kept)
  ]

  pub effective : List Id
  effective = filter (λ x. is_so (takes_or_not x)) i.kept

  pub in_effective : (x : Id) → Contains effective x ↔ TakesEffect i x
  unfolding effective
  in_effective x = (
    λ is. (so_exactly (takes_or_not x)).0 (filter_in (λ x. is_so (takes_or_not x)) i.kept x is).1,
    λ effect. in_filter (λ x. is_so (takes_or_not x)) i.kept x effect.kept ((so_exactly (takes_or_not x)).1 effect),
  )

  pub superseders : Id → List Id
  superseders x = filter (λ y. is_so (supersedes_or_not y x)) effective

  pub in_superseders : (x y : Id) → Contains (superseders x) y ↔ (TakesEffect i y × Supersedes i.choice y x)
  unfolding superseders
  in_superseders x y = (
    λ is.
        let both = filter_in (λ y. is_so (supersedes_or_not y x)) effective y is in
        ((in_effective y).0 both.0, (so_exactly (supersedes_or_not y x)).0 both.1),
    λ both. in_filter (λ y. is_so (supersedes_or_not y x)) effective y ((in_effective y).1 both.0)
        ((so_exactly (supersedes_or_not y x)).1 both.1),
  )
