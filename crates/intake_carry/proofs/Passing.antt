-- Holds that are passed on to a SYSMOD, one after the other.
use Rattle.std.proofs.Common.{◌≡◌, ◌<◌, ◌+◌, ◌&&◌, ℕ, true, false, List, [], ◌++◌, ◌∷◌, Option, Some, None, length}
use Rattle.std.proofs.Common.{take, get_or, subst, sym, ap, ◌∙◌, refl, append-nil, append_assoc}
use Rattle.std.specs.List.{list_any}
use Rattle.std.proofs.lemmas.Bool.{true≢false, and_parts}
use Rattle.std.proofs.lemmas.List.{take_more}
use Rattle.terms.specs.Types.{Id, Ver, Hold, Sysmod}
use Rattle.terms.specs.Lookups.{is_in}
use Rattle.terms.specs.declared.kinds.HoldKind.TheVariants as kind
use Rattle.intake_read.specs.declared.items.WideHoldKind.{WideHoldKind}
use Rattle.intake_read.specs.declared.items.WideHoldKind.TheVariants.{Error, System, User, Fixcat}
use Rattle.intake_read.specs.declared.items.WideHold.{WideHold}
use Rattle.intake_holds.specs.Holds.{IsHold}
use Rattle.intake_holds.proofs.Becoming.{system_carried}
use Rattle.intake_carry.specs.PassedOn.{is_system_kind, is_passed_on, HoldIsPassedOn, PassesOneOn, PassesOn}
use Rattle.intake_carry.specs.PassedOn.{IsPassed, IsNotPassed}

system_kind : (k : Option WideHoldKind) → is_system_kind k ≡ true → k ≡ Some System
system_kind None e = absurd (true≢false (sym e))
system_kind (Some Error) e = absurd (true≢false (sym e))
system_kind (Some System) e = refl
system_kind (Some User) e = absurd (true≢false (sym e))
system_kind (Some Fixcat) e = absurd (true≢false (sym e))

-- a hold that is passed on is of the kind SYSTEM
pub passed_system : (vers : List Ver) (stated : WideHold) (hold : Hold) → IsHold stated hold
    → is_passed_on vers stated ≡ true → hold.kind ≡ kind.System
passed_system vers stated hold is e =
    system_carried hold.kind stated.kind is.kind_is (system_kind stated.kind
    (and_parts (is_system_kind stated.kind) (list_any (λ v. is_in v.sup stated.id.items) vers) e).0)

pub fixcat_not_passed : (vers : List Ver) (stated : WideHold) → stated.kind ≡ Some Fixcat
    → is_passed_on vers stated ≡ false
fixcat_not_passed vers stated e = ap (λ k. is_system_kind k && list_any (λ v. is_in v.sup stated.id.items) vers) e

abbrev pub on_it : Id → Hold → Hold
on_it id hold = record hold { id = id; internal = true }

pub passes_none : (stated : WideHold) (s : Sysmod) → is_passed_on s.vers stated ≡ false → PassesOneOn stated s s
passes_none stated s e =
    ([], ap (λ hs. record s { holds = hs }) (sym (append-nil s.holds)), IsNotPassed e)

pub passes_one : (stated : WideHold) (hold put : Hold) (old new : Sysmod) → IsHold stated hold
    → is_passed_on old.vers stated ≡ true → put ≡ on_it old.id hold
    → new ≡ record old { holds = old.holds ++ put ∷ [] } → PassesOneOn stated old new
passes_one stated hold put old new is e put_is new_is =
    subst (λ p. new ≡ record old { holds = old.holds ++ p ∷ [] } → PassesOneOn stated old new) (sym put_is)
    (λ n. (
      on_it old.id hold ∷ [],
      n,
      IsPassed e (on_it old.id hold) (record {
        same = record {
          id_is = refl;
          kind_is = is.kind_is;
          reason_is = is.reason_is;
          fmid_is = is.fmid_is;
          class_is = is.class_is;
          date_is = is.date_is;
        };
        id_is = refl;
        internal = refl;
      }),
    )) new_is

passes_more : (id : Id) (vers : List Ver) (ws : List WideHold) (holds : List Hold) (w : WideHold) (one : List Hold)
    → PassesOn id vers ws holds → HoldIsPassedOn id vers w one → PassesOn id vers (ws ++ w ∷ []) (holds ++ one)
passes_more id vers [] holds w one e h = (one, [], ap (λ l. l ++ one) e ∙ sym (append-nil one), h, refl)
passes_more id vers (x ∷ xs) holds w one p h = (
  p.0,
  p.1 ++ one,
  ap (λ l. l ++ one) p.2 ∙ append_assoc p.0 p.1 one,
  p.3,
  passes_more id vers xs p.1 w one p.4 h,
)

-- a SYSMOD with other holds
pub with_these : (old new : Sysmod) (hs : List Hold) → new ≡ record old { holds = hs }
    → new ≡ record old { holds = new.holds }
with_these old new hs e = e ∙ ap (λ h. record old { holds = h }) (sym (ap (λ (s : Sysmod). s.holds) e))

pub passed_next : (stated : List WideHold) (i : ℕ) (w : WideHold) (old mid new : Sysmod) → i < length stated
    → w ≡ get_or stated i w → mid ≡ record old { holds = mid.holds }
    → PassesOn old.id old.vers (take i stated) mid.holds → PassesOneOn w mid new
    → (new ≡ record old { holds = new.holds }) × PassesOn old.id old.vers (take (i + 1) stated) new.holds
passed_next stated i w old mid new below at same so_far step =
    let rest : new ≡ record old { holds = mid.holds ++ step.0 } =
    step.1 ∙ ap (λ (s : Sysmod). record s { holds = mid.holds ++ step.0 }) same in
    let held : new.holds ≡ mid.holds ++ step.0 = ap (λ (s : Sysmod). s.holds) step.1 in
    let one : HoldIsPassedOn old.id old.vers w step.0 =
    subst (λ (s : Sysmod). HoldIsPassedOn s.id s.vers w step.0) same step.2 in (
      with_these old new (mid.holds ++ step.0) rest,
      subst (PassesOn old.id old.vers (take (i + 1) stated)) (sym held)
          (subst (λ l. PassesOn old.id old.vers l (mid.holds ++ step.0))
          (sym (take_more stated i w below ∙ ap (λ u. take i stated ++ u ∷ []) (sym at)))
          (passes_more old.id old.vers (take i stated) mid.holds w step.0 so_far one)),
    )
