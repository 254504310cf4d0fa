-- Where LIST and REPORT look, by the boundary.
use Rattle.std.proofs.Common.{◌≡◌, ◌≢◌, ◌∙◌, ◌||◌, Bool, true, false, not, List, [], Option, Some, None, refl, sym, ap}
use Rattle.std.proofs.Common.{inl, inr}
use Rattle.std.specs.Prelude.{if◌then◌else◌, is_some}
use Rattle.std.specs.Option.{option_map_or, option_and_then}
use Rattle.std.specs.Str.{bytes_eq}
use Rattle.indexmap.specs.IndexMap.{get}
use Rattle.terms.proofs.TextOrder.{same_from, same_itself}
use Rattle.terms.specs.Types.{Text, Zone, ListZone, Report}
use Rattle.machine.specs.Outcome.{Refusal, Line, Ran, NoBoundary, WrongKind, header_of, list_global, list_zone}
use Rattle.machine.specs.State.{State, global_name, zone_named, misplaced}
use Rattle.machine.specs.Errsysmods.{AreErrsysmods}
use Rattle.machine.specs.Machine.{Files, Performs, listed}
use Rattle.store_schema.specs.Inventory.{IsInventory}
use Rattle.store.specs.Kept.{kept}
use Rattle.smpe_session.specs.declared.session.Session.{Session}
use Rattle.smpe_session.specs.Sessions.{IsSessionOf}
use Rattle.smpe_session.proofs.Places.{none_global}

-- why LIST or REPORT can't run at a boundary, whose zone is this one
abbrev list_refusal : Option Text → Option Zone → Option Refusal
list_refusal boundary zone = if not (is_some boundary) then Some NoBoundary
    else if option_map_or (bytes_eq global_name) boundary false || is_some zone then None else Some WrongKind

abbrev report_refusal : Option Text → Option Zone → Option Refusal
report_refusal boundary zone = if not (is_some boundary) then Some NoBoundary else if is_some zone then None
    else Some WrongKind

-- what LIST prints there
abbrev lines_at : State → Bool → Option Text → Option Zone → List Line
lines_at s text boundary zone = if option_map_or (bytes_eq global_name) boundary false then list_global s.global
    else option_map_or (list_zone text) zone []

-- A zone of the boundary that the session does not have is the global zone.
pub at_global_zone : (s : State) (at : Session) (name : Text) → IsSessionOf s at → s.boundary ≡ Some name
    → get bytes_eq at.zones name ≡ None → name ≡ global_name
at_global_zone s at name is named none = elim (is.current name named) [
  | inl same ↦ same
  | inr some ↦ absurd (cc (sym (ap is_some none) ∙ some))
]

module _ (s : State) (text : Bool) where
  list_misplaced : misplaced s (ListZone text)
      ≡ list_refusal s.boundary (option_and_then (zone_named s.zones) s.boundary)
  unfolding misplaced
  list_misplaced = refl

  list_at : (boundary : Option Text) → s.boundary ≡ boundary
      → misplaced s (ListZone text) ≡ list_refusal boundary (option_and_then (zone_named s.zones) boundary)
  list_at boundary at = list_misplaced ∙ ap (λ b. list_refusal b (option_and_then (zone_named s.zones) b)) at

  listed_here : listed s text ≡ lines_at s text s.boundary (option_and_then (zone_named s.zones) s.boundary)
  listed_here = refl

  listed_at : (boundary : Option Text) → s.boundary ≡ boundary
      → listed s text ≡ lines_at s text boundary (option_and_then (zone_named s.zones) boundary)
  listed_at boundary at = listed_here ∙ ap (λ b. lines_at s text b (option_and_then (zone_named s.zones) b)) at

  pub list_nowhere : s.boundary ≡ None → misplaced s (ListZone text) ≡ Some NoBoundary
  list_nowhere at = list_at None at

  module _ (date : Text) (files : Files) where
    lists : (lines : List Line) → misplaced s (ListZone text) ≡ None → listed s text ≡ lines
        → Performs date files s (ListZone text) s (Ran (header_of (ListZone text) s.boundary) lines)
    lists lines fits are = inr (fits, (refl, ap (λ ls. Ran (header_of (ListZone text) s.boundary) ls) (sym are)))

    pub list_global_holds : (name : Text) → s.boundary ≡ Some name → name ≡ global_name
        → Performs date files s (ListZone text) s (Ran (header_of (ListZone text) s.boundary) (list_global s.global))
    list_global_holds name named is =
        let at = named ∙ ap Some is in
        lists (list_global s.global)
        (list_at (Some global_name) at ∙ ap (λ b. if b || is_some (zone_named s.zones global_name) then None
        else Some WrongKind) (same_itself global_name))
        (listed_at (Some global_name) at ∙ ap (λ b. if b then list_global s.global
        else option_map_or (list_zone text) (zone_named s.zones global_name) []) (same_itself global_name))

    pub list_zone_holds : (name : Text) (zone : Zone) → s.boundary ≡ Some name → name ≢ global_name
        → zone_named s.zones name ≡ Some zone
        → Performs date files s (ListZone text) s (Ran (header_of (ListZone text) s.boundary) (list_zone text zone))
    list_zone_holds name zone at other there = by (bytes_eq global_name name) refl
      where
        by : (b : Bool) → bytes_eq global_name name ≡ b
            → Performs date files s (ListZone text) s (Ran (header_of (ListZone text) s.boundary) (list_zone text zone))
        by true same = absurd (other (sym (same_from global_name name same)))
        by false differs = lists (list_zone text zone)
            (list_at (Some name) at
            ∙ ap (λ b. if b || is_some (zone_named s.zones name) then None else Some WrongKind) differs
            ∙ ap (λ z. if is_some z then None else Some WrongKind) there)
            (listed_at (Some name) at
            ∙ ap (λ b. if b then list_global s.global else option_map_or (list_zone text) (zone_named s.zones name) [])
            differs
            ∙ ap (λ z. option_map_or (list_zone text) z []) there)

module _ (s : State) where
  report_misplaced : misplaced s Report ≡ report_refusal s.boundary (option_and_then (zone_named s.zones) s.boundary)
  unfolding misplaced
  report_misplaced = refl

  report_at : (boundary : Option Text) → s.boundary ≡ boundary
      → misplaced s Report ≡ report_refusal boundary (option_and_then (zone_named s.zones) boundary)
  report_at boundary at = report_misplaced ∙ ap (λ b. report_refusal b (option_and_then (zone_named s.zones) b)) at

  pub report_nowhere : s.boundary ≡ None → misplaced s Report ≡ Some NoBoundary
  report_nowhere at = report_at None at

  pub report_global : (name : Text) → IsInventory (kept s) → s.boundary ≡ Some name → name ≡ global_name
      → misplaced s Report ≡ Some WrongKind
  report_global name inventory at is = report_at (Some name) at ∙ ap (λ z. if is_some z then None
      else Some WrongKind)
      (ap (zone_named s.zones) is ∙ none_global s.zones inventory.zones)

  pub report_zone : (date : Text) (files : Files) (name : Text) (zone : Zone) (lines : List Line)
      → s.boundary ≡ Some name → zone_named s.zones name ≡ Some zone → AreErrsysmods s.global zone lines
      → Performs date files s Report s (Ran (header_of Report s.boundary) lines)
  report_zone date files name zone lines at there are = inr (
    report_at (Some name) at ∙ ap (λ z. if is_some z then None else Some WrongKind) there,
    (
      refl,
      record {
        zone = zone;
        is_there = ap (option_and_then (zone_named s.zones)) at ∙ there;
        lines = lines;
        lines_are = are;
        prints = refl;
      },
    ),
  )
