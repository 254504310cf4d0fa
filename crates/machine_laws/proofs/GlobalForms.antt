-- Each change of the global zone keeps the forms of what stands in it.
use Rattle.std.proofs.Common.{◌≡◌, Bool, true, false, not, ◌&&◌, List, [], ◌∷◌, fold, Option, None, Some, All, refl}
use Rattle.std.proofs.Common.{sym, ◌∙◌, subst, true≢false}
use Rattle.std.specs.Prelude.{Ok, Err, if◌then◌else◌}
use Rattle.std.specs.List.{AllByRecursion, list_any}
use Rattle.std.specs.Ordering.{nat_cmp}
use Rattle.std.specs.Cmp.Lexicographic.{slice_cmp}
use Rattle.std.specs.Str.{bytes_eq}
use Rattle.std.proofs.lemmas.Cmp.{nat_list_cmp_total}
use Rattle.std.proofs.lemmas.List.Elements.{All-filter, All-map, All-weaker}
use Rattle.terms.specs.Types.{Text, Id, Hold, Sysmod, Global, Release, NamedZone}
use Rattle.terms.specs.Lookups.{is_received, is_applied}
use Rattle.terms.specs.Forms.{IsSource}
use Rattle.terms.specs.Global.{IsSysmod, IsGlobal, hold_cmp, has_key, hold_of, marked, hold, Internal, release_found}
use Rattle.terms.specs.Global.{release, without_hold, assign, with_sysmod, received, ReceiveFault, HasFault}
use Rattle.terms.specs.Global.{AppliedSomewhere, UnknownSysmod}
use Rattle.terms.specs.Global.{without_sysmod, reject}
use Rattle.terms.proofs.GlobalKept.{IsOwned, hold_kept, without_hold_kept, assign_kept, without_sysmod_kept}
use Rattle.terms.proofs.Placing.{All_with_item, Rises_with_item}
use Rattle.terms.proofs.GlobalLookups.{assigned}
use Rattle.sysmods.proofs.Receiving.{kept}
use Rattle.store_schema.specs.Forms.{HasSysmodForms, HasHoldForms}
use Rattle.store_schema.specs.Inventory.{Inventory, IsInventory}
use Rattle.machine.specs.Outcome.{Line}
use Rattle.machine.specs.Receiving.{global_after}
use Rattle.machine.specs.Runs.{Runs}

-- what stands in a global zone has its forms
pub record HasGlobalForms (g : Global) : Type 0 where
  pub is_global : IsGlobal g
  pub sysmods : All HasSysmodForms g.sysmods
  pub holds : All HasHoldForms g.holds

pub global_forms : (i : Inventory) → IsInventory i → HasGlobalForms i.global
global_forms i is = record { is_global = is.global; sysmods = is.sysmods; holds = is.holds }

-- An inventory's invariants between its zones do not speak of the global zone.
pub with_global : (i : Inventory) (new : Global) → IsInventory i → HasGlobalForms new
    → IsInventory (record i { global = new })
with_global i new is has =
    record {
      global = has.is_global;
      sysmods = has.sysmods;
      holds = has.holds;
      names = is.names;
      zones = is.zones;
      related = is.related;
      apart = is.apart;
    }

-- Steps that keep them do so one after the other.
pub runs_forms : {A : Type 0} (Steps : Global → A → Global → List Line → Type 0) (P : A → Type 0)
    → ((g new : Global) (a : A) (lines : List Line) → P a → HasGlobalForms g → Steps g a new lines → HasGlobalForms new)
    → (acts : List A) (g new : Global) (lines : List Line) → AllByRecursion P acts → HasGlobalForms g
    → Runs Steps g acts new lines → HasGlobalForms new
runs_forms Steps P step [] g new lines each has (same, none) = subst HasGlobalForms (sym same) has
runs_forms Steps P step (a ∷ more) g new lines each has (m, front, back, takes, runs, are) =
    runs_forms Steps P step more m new back each.1 (step g m a front each.0 has takes) runs

-- ---- holds

-- its mark has no form
marked_forms : (was : Option Hold) (h : Hold) → HasHoldForms h → HasHoldForms (marked was h)
marked_forms was h forms = record {
  id = forms.id;
  reason = forms.reason;
  fmid = forms.fmid;
  class = forms.class;
  date = forms.date;
  comment = forms.comment;
}

all_held : (g : Global) (h : Hold) → All HasHoldForms g.holds → HasHoldForms h → All HasHoldForms (hold g h).holds
all_held g h all forms =
    let was = hold_of g h.id h.kind h.reason in
    All_with_item hold_cmp (λ (o : Hold). o) HasHoldForms g.holds (marked was h) all (marked_forms was h forms)

-- A hold that is external, or an internal one of a received SYSMOD.
pub hold_forms : (g : Global) (h : Hold) → HasHoldForms h → IsOwned g h → HasGlobalForms g → HasGlobalForms (hold g h)
hold_forms g h forms own has = record {
  is_global = hold_kept g h has.is_global own;
  sysmods = has.sysmods;
  holds = all_held g h has.holds forms;
}

pub external_owned : (g : Global) (h : Hold) → h.internal ≡ false → IsOwned g h
external_owned g h external = λ internal. absurd (true≢false (sym internal ∙ external))

pub release_forms : (g : Global) (r : Release) → HasGlobalForms g → HasGlobalForms (global_after g (release g r))
release_forms g r has = found (hold_of g r.id r.kind r.reason)
  where
    without : HasGlobalForms (without_hold r.id r.kind r.reason g)
    without = record {
      is_global = without_hold_kept g r.id r.kind r.reason has.is_global;
      sysmods = has.sysmods;
      holds = All-filter (λ h. not (has_key r.id r.kind r.reason h)) HasHoldForms g.holds has.holds;
    }

    released : (internal : Bool)
        → HasGlobalForms (global_after g (if internal then Err Internal else Ok (without_hold r.id r.kind r.reason g)))
    released true = has
    released false = without

    found : (o : Option Hold) → HasGlobalForms (global_after g (release_found g r o))
    found None = has
    found (Some h) = released h.internal

-- ---- sources

sourced_forms : (source : Text) (x : Id) (s : Sysmod) → IsSource source → HasSysmodForms s
    → HasSysmodForms (assigned source x s)
sourced_forms source x s form has = by (bytes_eq s.id x) refl
  where
    by : (b : Bool) → bytes_eq s.id x ≡ b → HasSysmodForms (assigned source x s)
    by true e = rw e (record {
      id = has.id;
      sources = record {
        each = All_with_item (slice_cmp nat_cmp) (λ (t : Text). t) IsSource s.sources source has.sources.each form;
        rising = Rises_with_item nat_list_cmp_total (λ (t : Text). t) s.sources source has.sources.rising;
      };
      some = has.some;
      vers = has.vers;
      apart = has.apart;
      most = has.most;
      changes = has.changes;
      elements = has.elements;
    })
    by false e = rw e has

pub assign_forms : (g : Global) (source : Text) (x : Id) → IsSource source → HasGlobalForms g
    → HasGlobalForms (assign g source x)
assign_forms g source x form has = record {
  is_global = assign_kept g source x has.is_global;
  sysmods = All-map HasSysmodForms (assigned source x) g.sysmods
      (All-weaker HasSysmodForms (λ s. HasSysmodForms (assigned source x s))
      (λ s forms. sourced_forms source x s form forms) g.sysmods has.sysmods);
  holds = has.holds;
}

-- ---- SYSMODs

-- its holds have no place in its forms
laid_aside : (s : Sysmod) → HasSysmodForms s → HasSysmodForms (record s { holds = [] })
laid_aside s has = record {
  id = has.id;
  sources = has.sources;
  some = has.some;
  vers = has.vers;
  apart = has.apart;
  most = has.most;
  changes = has.changes;
  elements = has.elements;
}

same_sysmods : (hs : List Hold) (g : Global) → All HasSysmodForms g.sysmods
    → All HasSysmodForms (fold hold g hs).sysmods
same_sysmods [] g all = all
same_sysmods (h ∷ hs) g all = same_sysmods hs (hold g h) all

all_holds : (hs : List Hold) (g : Global) → All HasHoldForms g.holds → AllByRecursion HasHoldForms hs
    → All HasHoldForms (fold hold g hs).holds
all_holds [] g all each = all
all_holds (h ∷ hs) g all each = all_holds hs (hold g h) (all_held g h all each.0) each.1

-- A SYSMOD comes in with its internal holds.
pub received_forms : (g : Global) (s : Sysmod) → HasSysmodForms s → IsSysmod s → AllByRecursion HasHoldForms s.holds
    → ((f : ReceiveFault) → ¬ HasFault g s f)
    → HasGlobalForms g → HasGlobalForms (received g s)
received_forms g s forms is held good has = record {
  is_global = kept g s has.is_global is good;
  sysmods = same_sysmods s.holds (with_sysmod g s)
      (All_with_item (slice_cmp nat_cmp) (λ (r : Sysmod). r.id) HasSysmodForms g.sysmods (record s { holds = [] })
      has.sysmods (laid_aside s forms));
  holds = all_holds s.holds (with_sysmod g s) has.holds held;
}

-- A SYSMOD that is rejected goes with its internal holds.
pub rejected_forms : (g : Global) (zones : List NamedZone) (x : Id) → HasGlobalForms g
    → HasGlobalForms (global_after g (reject g zones x))
rejected_forms g zones x has = by (is_received g x) (list_any (λ (z : NamedZone). is_applied z.zone x) zones)
  where
    without : HasGlobalForms (without_sysmod g x)
    without = record {
      is_global = without_sysmod_kept g x has.is_global;
      sysmods = All-filter (λ s. not (bytes_eq s.id x)) HasSysmodForms g.sysmods has.sysmods;
      holds = All-filter (λ h. not (h.internal && bytes_eq h.id x)) HasHoldForms g.holds has.holds;
    }

    by : (there applied : Bool)
        → HasGlobalForms (global_after g (if not there then Err UnknownSysmod
        else if applied then Err AppliedSomewhere else
        Ok (without_sysmod g x)))
    by false applied = has
    by true true = has
    by true false = without
