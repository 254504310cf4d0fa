-- What candidates need, whatever the related zone.
use Rattle.std.proofs.Common.{◌≡◌, Bool, true, not, List, Option, refl, sym, ap, ◌∙◌, subst, Contains}
use Rattle.std.specs.Prelude.{◌↔◌, ◌&&◌, IsFalse}
use Rattle.std.proofs.lemmas.Bool.{and_parts, not-true}
use Rattle.terms.specs.declared.codes.NeedKind.{NeedKind}
use Rattle.terms.specs.declared.codes.NeedKind.TheVariants.{Fmid, Pre, Req, Ifreq, HoldError, Orphan, Elem, Dep}
use Rattle.terms.specs.Types.{Id, Zone}
use Rattle.terms.specs.Tests.{Setting}
use Rattle.terms.specs.Needs.{Needs, asked, orphans, is_bypassed, is_met, zone_left}
use Rattle.zones.specs.declared.scope.Scope.{Scope}
use Rattle.zones.specs.Scopes.{setting_with, setting_of}
use Rattle.judge_needs.specs.Needed.{IsOpen}

module _ (scope : Scope) (related : Option Zone) where
  abbrev s : Setting
  s = setting_with scope related

  abbrev alone : Setting
  alone = setting_of scope

  orphans_same : (x : Id) → orphans s x ≡ orphans alone x
  unfolding orphans
  orphans_same x = refl

  asked_same : (survivors : List Id) (x : Id) (kind : NeedKind)
      → asked s survivors x kind ≡ asked alone survivors x kind
  asked_same survivors x Fmid = refl
  asked_same survivors x Pre = refl
  asked_same survivors x Req = refl
  asked_same survivors x Ifreq = refl
  asked_same survivors x HoldError = refl
  asked_same survivors x Orphan = rw (orphans_same x) refl
  asked_same survivors x Elem = refl
  asked_same survivors x Dep = refl

  both_off : (m n : Bool) → IsFalse m → IsFalse n → (not m && not n) ≡ true
  both_off m n e f = ap (λ i. not i && not n) e ∙ ap not f

  -- it needs what it asks for and neither BYPASS nor what is left of the zone meets
  pub needs_open : (survivors : List Id) (x : Id) (kind : NeedKind) (z : Id) → Contains scope.ids.now x
      → Needs s survivors x kind z ↔ IsOpen alone survivors (zone_left alone survivors) x kind z
  needs_open survivors x kind z in_ids = (
    λ n. (
      subst (λ l. Contains l z) (asked_same survivors x kind) n.asks,
      both_off (is_bypassed s.bypass kind) (is_met (zone_left s survivors) kind z) n.not_bypassed n.not_met,
    ),
    λ o.
        let off = and_parts (not (is_bypassed s.bypass kind)) (not (is_met (zone_left s survivors) kind z)) o.1 in
        record {
          of = in_ids;
          asks = subst (λ l. Contains l z) (sym (asked_same survivors x kind)) o.0;
          not_bypassed = not-true (is_bypassed s.bypass kind) off.0;
          not_met = not-true (is_met (zone_left s survivors) kind z) off.1;
        },
  )
