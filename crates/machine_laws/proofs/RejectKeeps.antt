-- REJECT keeps all zones closed: what is applied in one is refused.
use Rattle.std.proofs.Common.{◌≡◌, Bool, true, false, not, cond, None, List, [], ◌∷◌, All, get_or, refl, sym}
use Rattle.std.proofs.Common.{◌∙◌, ap, subst, true≢false}
use Rattle.std.specs.Prelude.{Ok, Err, option_map, if◌then◌else◌}
use Rattle.std.specs.List.{list_any}
use Rattle.std.specs.Str.{bytes_eq}
use Rattle.std.proofs.lemmas.Bool.{false_from_ne_true}
use Rattle.terms.proofs.Searches.{All_from_no_list_any}
use Rattle.terms.proofs.TextOrder.{same_from}
use Rattle.terms.specs.Types.{Id, Global, NamedZone}
use Rattle.terms.specs.Lookups.{IsZone, is_applied, sysmod_of, is_received}
use Rattle.terms.specs.Global.{AppliedSomewhere, UnknownSysmod, without_sysmod, reject}
use Rattle.terms.specs.Closed.{AreClosed}
use Rattle.terms.proofs.GlobalLookups.{sysmod_of_without_sysmod}
use Rattle.machine.specs.Outcome.{Line}
use Rattle.machine.specs.Receiving.{global_after}
use Rattle.machine.specs.Rejecting.{RejectsId}
use Rattle.machine.specs.Runs.{Runs}
use Rattle.machine_laws.proofs.AppliedIds.{applied_in_ids}
use Rattle.machine_laws.proofs.AlikeSysmods.{but_sources, AreAlike, still_closed}

-- all others stay as they are
pub without_alike : (g : Global) (x y : Id) → bytes_eq x y ≡ false → AreAlike g (without_sysmod g x) y
without_alike g x y other =
    ap (option_map but_sources) (sysmod_of_without_sysmod g x y ∙ ap (λ b. cond b None (sysmod_of g y)) other)

module _ (zones : List NamedZone) (are : All (λ (z : NamedZone). IsZone z.zone) zones) where
  rejected : (g : Global) (x : Id) → AreClosed g zones → AreClosed (global_after g (reject g zones x)) zones
  rejected g x closed = by (is_received g x) (list_any (λ (z : NamedZone). is_applied z.zone x) zones) refl
    where
      without : list_any (λ (z : NamedZone). is_applied z.zone x) zones ≡ false → AreClosed (without_sysmod g x) zones
      without none = λ k d below.
          let z = get_or zones k d in
          still_closed g (without_sysmod g x) z.zone (closed k d below) (λ y there.
          without_alike g x y (false_from_ne_true (bytes_eq x y) (λ same.
          true≢false (sym (applied_in_ids z.zone (are k d below) y there)
          ∙ ap (is_applied z.zone) (sym (same_from x y same))
          ∙ All_from_no_list_any (λ (z : NamedZone). is_applied z.zone x) zones none k d below))))

      by : (there applied : Bool) → list_any (λ (z : NamedZone). is_applied z.zone x) zones ≡ applied
          → AreClosed (global_after g (if not there then Err UnknownSysmod
          else if applied then Err AppliedSomewhere else
          Ok (without_sysmod g x))) zones
      by false applied at = closed
      by true true at = closed
      by true false at = without at

  -- One id after the other.
  pub reject_keeps_closed : (ids : List Id) (g new : Global) (lines : List Line)
      → Runs (RejectsId zones) g ids new lines → AreClosed g zones → AreClosed new zones
  reject_keeps_closed [] g new lines (same, none) closed = subst (λ h. AreClosed h zones) (sym same) closed
  reject_keeps_closed (x ∷ ids) g new lines (m, front, back, takes, runs, are_lines) closed =
      reject_keeps_closed ids m new back runs
      (subst (λ h. AreClosed h zones) (sym takes.0) (rejected g x closed))
