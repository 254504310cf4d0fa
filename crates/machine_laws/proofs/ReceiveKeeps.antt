-- RECEIVE keeps all zones closed: what is received stays as it is, but for its sources.
use Rattle.std.proofs.Common.{◌≡◌, Bool, true, false, cond, List, [], ◌∷◌, fold, Option, None, Some}
use Rattle.std.proofs.Common.{IsTrue, get_or, refl, sym, ◌∙◌, ap, subst}
use Rattle.std.specs.Prelude.{Result, Ok, Err, option_map, if◌then◌else◌}
use Rattle.std.specs.Str.{bytes_eq}
use Rattle.std.proofs.lemmas.Bool.{false_from_ne_true}
use Rattle.terms.proofs.TextOrder.{same_from}
use Rattle.terms.specs.Types.{Text, Id, Hold, Sysmod, Global, Item, ASysmod, AnAssign, HoldItem, AHold, ARelease}
use Rattle.terms.specs.Types.{NamedZone, Release}
use Rattle.terms.specs.Lookups.{sysmod_of, is_received}
use Rattle.terms.specs.Global.{hold, hold_of, release, release_found, without_hold, Internal, assign, with_sysmod}
use Rattle.terms.specs.Global.{received}
use Rattle.terms.specs.Global.{ReceiveFault, AlreadyReceived, Receives}
use Rattle.terms.specs.Closed.{AreClosed}
use Rattle.terms.proofs.GlobalLookups.{sysmod_of_with_sysmod, sysmod_of_assign, assigned, assigned_same}
use Rattle.machine.specs.Outcome.{Line}
use Rattle.machine.specs.Receiving.{sourced, global_after, AssignsId, TakesItem, TakesHoldItem}
use Rattle.machine.specs.Runs.{Runs}
use Rattle.machine_laws.proofs.AlikeSysmods.{but_sources, AreAlike, alike_received, applied_received, still_closed}

-- What is received in the first is the same in the second, but for its sources.
abbrev pub KeepsReceived : Global → Global → Type 0
KeepsReceived g h = (x : Id) → IsTrue (is_received g x) → AreAlike g h x

keeps_then : (g m h : Global) → KeepsReceived g m → KeepsReceived m h → KeepsReceived g h
keeps_then g m h first second = λ x there.
    second x (alike_received g m x (first x there) ∙ there) ∙ first x there

keeps_itself : (g : Global) → KeepsReceived g g
keeps_itself g = λ x there. refl

-- steps one after the other
runs_keep : {A : Type 0} (Steps : Global → A → Global → List Line → Type 0)
    → ((g new : Global) (a : A) (lines : List Line) → Steps g a new lines → KeepsReceived g new)
    → (acts : List A) (g new : Global) (lines : List Line) → Runs Steps g acts new lines → KeepsReceived g new
runs_keep Steps step [] g new lines (same, none) = subst (KeepsReceived g) (sym same) (keeps_itself g)
runs_keep Steps step (a ∷ acts) g new lines (m, front, back, takes, runs, are) =
    keeps_then g m new (step g m a front takes) (runs_keep Steps step acts m new back runs)

-- ---- SYSMODs and holds

with_sysmod_keeps : (g : Global) (s : Sysmod) → (¬ IsTrue (is_received g s.id)) → KeepsReceived g (with_sysmod g s)
with_sysmod_keeps g s new = λ x there.
    let other : bytes_eq s.id x ≡ false = false_from_ne_true (bytes_eq s.id x)
    (λ same. new (subst (λ y. IsTrue (is_received g y)) (sym (same_from s.id x same)) there)) in
    ap (option_map but_sources) (sysmod_of_with_sysmod g s x
    ∙ ap (λ b. cond b (Some (record s { holds = [] })) (sysmod_of g x)) other)

holds_keep : (hs : List Hold) (g : Global) → KeepsReceived g (fold hold g hs)
holds_keep [] g = keeps_itself g
holds_keep (h ∷ hs) g = holds_keep hs (hold g h)

taken_keeps : (g : Global) (s : Sysmod) (answer : Result Global ReceiveFault) → Receives g s answer
    → KeepsReceived g (global_after g answer)
taken_keeps g s (Ok new) (good, new_is) = subst (KeepsReceived g) (sym new_is)
    (keeps_then g (with_sysmod g s) (received g s) (with_sysmod_keeps g s (good AlreadyReceived))
    (holds_keep s.holds (with_sysmod g s)))
taken_keeps g s (Err why) refused = keeps_itself g

release_keeps : (g : Global) (r : Release) → KeepsReceived g (global_after g (release g r))
release_keeps g r = found (hold_of g r.id r.kind r.reason)
  where
    released : (internal : Bool) → KeepsReceived g (global_after g
        (if internal then Err Internal else Ok (without_hold r.id r.kind r.reason g)))
    released true = keeps_itself g
    released false = λ x there. refl

    found : (o : Option Hold) → KeepsReceived g (global_after g (release_found g r o))
    found None = keeps_itself g
    found (Some h) = released h.internal

-- ---- sources

twice : (f : Sysmod → Sysmod) → ((s : Sysmod) → but_sources (f s) ≡ but_sources s) → (o : Option Sysmod)
    → option_map but_sources (option_map f o) ≡ option_map but_sources o
twice f same None = refl
twice f same (Some s) = ap Some (same s)

assign_keeps : (g : Global) (source : Text) (x : Id) → KeepsReceived g (assign g source x)
assign_keeps g source x = λ y there.
    ap (option_map but_sources) (sysmod_of_assign g source x y)
    ∙ twice (assigned source x) (assigned_same but_sources source x (λ s. refl)) (sysmod_of g y)

-- ---- items

item_keeps : (source : Option Text) (g new : Global) (item : Item) (lines : List Line)
    → TakesItem source g item new lines → KeepsReceived g new
item_keeps source g new (ASysmod s) lines (answer, receives, new_is, printed) =
    subst (KeepsReceived g) (sym new_is) (taken_keeps g (sourced source s) answer receives)
item_keeps source g new (AnAssign a) lines takes =
    runs_keep (AssignsId a.source)
    (λ g new x lines takes. subst (KeepsReceived g) (sym takes.0) (assign_keeps g a.source x)) a.to g new lines takes

hold_item_keeps : (g new : Global) (item : HoldItem) (lines : List Line) → TakesHoldItem g item new lines
    → KeepsReceived g new
hold_item_keeps g new (AHold h) lines takes = subst (KeepsReceived g) (sym takes.0) (λ x there. refl)
hold_item_keeps g new (ARelease r) lines takes = subst (KeepsReceived g) (sym takes.0) (release_keeps g r)

-- The items of PTFIN, and then those of the hold file.
pub items_keep : (source : Option Text) (items : List Item) (holds : List HoldItem) (g middle new : Global)
    (lines more : List Line) → Runs (TakesItem source) g items middle lines → Runs TakesHoldItem middle holds new more
    → KeepsReceived g new
items_keep source items holds g middle new lines more runs runs_holds =
    keeps_then g middle new (runs_keep (TakesItem source) (item_keeps source) items g middle lines runs)
    (runs_keep TakesHoldItem hold_item_keeps holds middle new more runs_holds)

-- Closed zones stay closed.
pub receive_keeps_closed : (source : Option Text) (items : List Item) (holds : List HoldItem) (g middle new : Global)
    (lines more : List Line) (zones : List NamedZone) → Runs (TakesItem source) g items middle lines
    → Runs TakesHoldItem middle holds new more → AreClosed g zones → AreClosed new zones
receive_keeps_closed source items holds g middle new lines more zones runs runs_holds closed = λ k d below.
    let z = get_or zones k d in
    still_closed g new z.zone (closed k d below) (λ x there.
    items_keep source items holds g middle new lines more runs runs_holds x
    (applied_received g z.zone [] (closed k d below) x there))
