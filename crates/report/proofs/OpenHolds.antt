-- The ERROR holds that a zone leaves open, one entry after the other.
use Rattle.std.proofs.Common.{◌≡◌, ◌==◌, ◌&&◌, Bool, true, false, not, List, [], ◌∷◌, ◌++◌}
use Rattle.std.proofs.Common.{map, filter, cond}
use Rattle.std.proofs.Common.{refl, ap, ◌∙◌, if◌then◌else◌}
use Rattle.std.specs.List.{flat_map}
use Rattle.std.specs.Str.{bytes_eq}
use Rattle.terms.specs.declared.kinds.HoldKind.TheVariants.{Error}
use Rattle.terms.specs.Types.{Id, Hold, Entry, Global, Zone, hold_number, is_error}
use Rattle.terms.specs.Lookups.{holds_of, is_supplied}
use Rattle.terms.proofs.HoldOrder.{error_by_number}
use Rattle.machine.specs.Errsysmods.{is_current}
use Rattle.report.specs.ErrorHolds.{an_open, open_of, open_on, open_in}

abbrev is_error_on : Id → Hold → Bool
is_error_on x h = bytes_eq h.id x && (hold_number h.kind == 0)

pub open_holds : (g : Global) (zone : Zone) (x : Id)
    → flat_map (open_of zone x) (holds_of g Error x) ≡ open_on g zone x
open_holds g zone x = by g.holds
  where
    each : List Hold → Type 0
    each hs = flat_map (open_of zone x) hs
        ≡ map (λ h. an_open x h.reason) (filter (λ h. not (is_supplied zone h.reason)) hs)

    here : (h : Hold) (hs : List Hold) → each hs → is_error h.kind ≡ true → each (h ∷ hs)
    here h hs rest e =
        ap (λ b. (if b && not (is_supplied zone h.reason) then an_open x h.reason ∷ [] else [])
        ++ flat_map (open_of zone x) hs) e ∙ at (not (is_supplied zone h.reason))
      where
        at : (s : Bool) → (if s then an_open x h.reason ∷ [] else []) ++ flat_map (open_of zone x) hs
            ≡ map (λ h. an_open x h.reason) (cond s (h ∷ filter (λ h. not (is_supplied zone h.reason)) hs)
            (filter (λ h. not (is_supplied zone h.reason)) hs))
        at true = ap (λ os. an_open x h.reason ∷ os) rest
        at false = rest

    at : (h : Hold) (hs : List Hold) → each hs → (b k : Bool) → is_error h.kind ≡ k
        → each (cond (b && k) (h ∷ hs) hs)
    at h hs rest true true e = here h hs rest e
    at h hs rest true false e = rest
    at h hs rest false k e = rest

    by : (hs : List Hold) → each (filter (is_error_on x) hs)
    by [] = refl
    by (h ∷ hs) = at h (filter (is_error_on x) hs) (by hs) (bytes_eq h.id x) (hold_number h.kind == 0)
        (error_by_number h.kind)

pub open_entries : (g : Global) (zone : Zone) (es : List Entry)
    → flat_map (open_in g zone) es ≡ flat_map (λ e. open_on g zone e.id) (filter is_current es)
open_entries g zone [] = refl
open_entries g zone (e ∷ es) = at (open_entries g zone es) (is_current e)
  where
    at : flat_map (open_in g zone) es ≡ flat_map (λ e. open_on g zone e.id) (filter is_current es) → (b : Bool)
        → (if b then open_on g zone e.id else []) ++ flat_map (open_in g zone) es
        ≡ flat_map (λ e. open_on g zone e.id) (cond b (e ∷ filter is_current es) (filter is_current es))
    at rest true = ap (λ l. open_on g zone e.id ++ l) rest
    at rest false = rest
