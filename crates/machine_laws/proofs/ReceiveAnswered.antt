-- RECEIVE of a SYSMOD has an answer: whether it would close a loop can be decided, and so can whether roles would fit.
use Rattle.std.proofs.Common.{◌≡◌, ◌≢◌, ◌⊎◌, ◌+◌, ◌^◌, inl, inr, Bool, true, false, not, IsTrue, List, [], ◌∷◌}
use Rattle.std.proofs.Common.{map, length, Option, None, Some, Result, Ok, Err, All, Contains, refl, sym, ◌∙◌}
use Rattle.std.proofs.Common.{ap, subst, true≢false}
use Rattle.std.specs.Prelude.{filter, is_some, if◌then◌else◌}
use Rattle.std.specs.List.{flat_map}
use Rattle.std.specs.Option.{option_map_or}
use Rattle.std.specs.Str.{bytes_eq}
use Rattle.terms.proofs.ListMembers.{none_in, in_map}
use Rattle.terms.proofs.Searches.{find_gives}
use Rattle.terms.proofs.TextOrder.{same_or_not, same_from}
use Rattle.terms.specs.Types.{Text, Id, Sysmod, Global, Item, ASysmod, AnAssign, HoldItem, AHold, ARelease}
use Rattle.terms.specs.Lookups.{sysmod_of, is_received}
use Rattle.terms.specs.Over.{Leads, Reaches}
use Rattle.terms.specs.Global.{named, names_for, HasLoop, fits_roles, RolesFit, hold, release, assign}
use Rattle.terms.specs.Global.{with_sysmod, ReceiveFault, AlreadyReceived, MakesLoop, WrongRole, NoRoom, HasFault}
use Rattle.terms.specs.Global.{received, Receives}
use Rattle.terms.proofs.Leads.{reaches_named, reaches_first, reaches_more}
use Rattle.terms.proofs.Loops.{names_others, LeadsBack, no_loop_from_search}
use Rattle.terms.proofs.Walks.{reaches_or_not}
use Rattle.machine.specs.Outcome.{OfKind, OfHold, Assigned, Unknown, StatusLine}
use Rattle.machine.specs.Receiving.{global_after, place_of, receive_status, sourced, hold_status, release_status}
use Rattle.machine.specs.Receiving.{AssignsId, TakesItem, TakesHoldItem}
use Rattle.machine_laws.specs.Answers.{IsAnswered}
use Rattle.machine_laws.proofs.RunsAnswered.{every_answered, Decided, decided_true, decided_le, decided_some}
use Rattle.machine_laws.proofs.RunsAnswered.{decided_all}
use Rattle.terms.proofs.Each.{All_from_each}

-- ---- loops

-- what names anything is received
naming_received : (g : Global) (srel : Text) (x y : Id) → Contains (names_for g srel x) y
    → Contains (map (λ s. s.id) g.sysmods) x
naming_received g srel x y = by (sysmod_of g x) refl
  where
    by : (o : Option Sysmod) → sysmod_of g x ≡ o
        → Contains (flat_map named (option_map_or (λ s. filter (λ v. bytes_eq v.srel srel) s.vers) o [])) y
        → Contains (map (λ s. s.id) g.sysmods) x
    by None at is = absurd (none_in y is)
    by (Some s) at is =
        let gives = find_gives (λ s. bytes_eq s.id x) g.sysmods s at in
        subst (Contains (map (λ s. s.id) g.sysmods)) (same_from s.id x gives.0) (in_map (λ s. s.id) g.sysmods s gives.1)

module _ (g : Global) (s : Sysmod) (no_loop : ¬ HasLoop g) (new : is_received g s.id ≡ false) where
  module _ (srel : Text) where
    abbrev before : Id → List Id
    before = names_for g srel

    abbrev after : Id → List Id
    after = names_for (with_sysmod g s) srel

    new_names_none : (y : Id) → ¬ Contains (before s.id) y
    new_names_none y = by (sysmod_of g s.id) refl
      where
        by : (o : Option Sysmod) → sysmod_of g s.id ≡ o
            → ¬ Contains (flat_map named (option_map_or (λ s. filter (λ v. bytes_eq v.srel srel) s.vers) o [])) y
        by None at is = none_in y is
        by (Some r) at is = true≢false (sym (ap is_some at) ∙ new)

    names_on : (x y : Id) → Contains (before x) y → Contains (after x) y
    names_on x y is = elim (same_or_not x s.id) [
      | inl same ↦ absurd (new_names_none y (subst (λ x. Contains (before x) y) same is))
      | inr other ↦ subst (λ xs. Contains xs y) (sym (names_others g s srel x other)) is
    ]

    named_before : (x y : Id) → x ≢ s.id → Contains (after x) y → Contains (before x) y
    named_before x y other is = subst (λ xs. Contains xs y) (names_others g s srel x other) is

    -- a walk to the new one leads there by what was named before, up to where it first gets there
    to_new : (between : List Id) (x : Id) → x ≢ s.id → Leads after x between s.id → Reaches before x s.id
    to_new [] x other leads = reaches_named before x s.id (named_before x s.id other leads)
    to_new (y ∷ ys) x other leads = elim (same_or_not y s.id) [
      | inl same ↦ reaches_named before x s.id
          (subst (Contains (before x)) same (named_before x y other leads.0))
      | inr more ↦ reaches_first before x y s.id (named_before x y other leads.0) (to_new ys y more leads.1)
    ]

    abbrev IsBack : Id → Type 0
    IsBack y = (y ≡ s.id) ⊎ Reaches before y s.id

    back_or_not : (y : Id) → Decided (IsBack y)
    back_or_not y = elim (same_or_not y s.id) [
      | inl same ↦ inl (inl same)
      | inr other ↦ elim (reaches_or_not before (map (λ s. s.id) g.sysmods) (naming_received g srel)
          (λ x loop. no_loop (srel, x, loop)) y s.id) [
            | inl to ↦ inl (inr to)
            | inr not ↦ inr (λ back. elim back [ inl same ↦ other same | inr to ↦ not to ])
          ]
    ]

    leads_back : (y : Id) → Contains (after s.id) y → IsBack y → LeadsBack g s srel
    leads_back y is (inl same) = reaches_named after s.id s.id (subst (Contains (after s.id)) same is)
    leads_back y is (inr to) = reaches_first after s.id y s.id is (reaches_more before after names_on y s.id to)

    none_back : ((y : Id) → Contains (after s.id) y → ¬ IsBack y) → ¬ LeadsBack g s srel
    none_back none ([], leads) = none s.id leads (inl refl)
    none_back none (y ∷ ys, leads) = elim (same_or_not y s.id) [
      | inl same ↦ none y leads.0 (inl same)
      | inr other ↦ none y leads.0 (inr (to_new ys y other leads.1))
    ]

    leads_back_or_not : Decided (LeadsBack g s srel)
    leads_back_or_not = elim (decided_some IsBack back_or_not (after s.id)) [
      | inl found ↦ inl (leads_back found.0 found.1 found.2)
      | inr none ↦ inr (none_back none)
    ]

  loop_or_not : Decided (HasLoop (with_sysmod g s))
  loop_or_not = elim (decided_some (λ v. LeadsBack g s v.srel) (λ v. leads_back_or_not v.srel) s.vers) [
    | inl found ↦ inl (found.0.srel, s.id, found.2)
    | inr none ↦ inr (no_loop_from_search g s no_loop (All_from_each (λ v. ¬ LeadsBack g s v.srel) s.vers none))
  ]

-- ---- the answer

roles_or_not : (g : Global) → Decided (RolesFit g)
roles_or_not g =
    decided_all (λ (s : Sysmod). All (λ v. IsTrue (fits_roles g v)) s.vers)
    (λ s. decided_all (λ v. IsTrue (fits_roles g v)) (λ v. decided_true (fits_roles g v)) s.vers) g.sysmods

abbrev Answer : Global → Sysmod → Type 0
Answer g s = (answer : Result Global ReceiveFault) × Receives g s answer

accepted : (g : Global) (s : Sysmod) → ¬ HasFault g s AlreadyReceived → ¬ HasFault g s MakesLoop
    → RolesFit (with_sysmod g s)
    → ¬ HasFault g s NoRoom → Answer g s
accepted g s new no_loop fit small = (Ok (received g s), (none, refl))
  where
    none : (f : ReceiveFault) → ¬ HasFault g s f
    none AlreadyReceived = new
    none MakesLoop = no_loop
    none WrongRole = λ not. not fit
    none NoRoom = small

-- RECEIVE of one SYSMOD accepts it or refuses it.
pub receives_some : (g : Global) (s : Sysmod) → ¬ HasLoop g → Answer g s
receives_some g s no_loop = by (is_received g s.id) refl
  where
    sized : (¬ HasFault g s AlreadyReceived) → (¬ HasFault g s MakesLoop) → RolesFit (with_sysmod g s) → Answer g s
    sized new none fit = elim (decided_le (2 ^ 16) (length g.sysmods + 1)) [
      | inl full ↦ (Err NoRoom, (new, none, (λ not. not fit), full))
      | inr small ↦ accepted g s new none fit small
    ]

    fitting : (¬ HasFault g s AlreadyReceived) → (¬ HasFault g s MakesLoop) → Answer g s
    fitting new none = elim (roles_or_not (with_sysmod g s)) [
      | inl fit ↦ sized new none fit
      | inr not ↦ (Err WrongRole, (new, none, not))
    ]

    by : (b : Bool) → is_received g s.id ≡ b → Answer g s
    by true is = (Err AlreadyReceived, is)
    by false is =
        let new : ¬ HasFault g s AlreadyReceived = λ there. true≢false (sym there ∙ is) in
        elim (loop_or_not g s no_loop is) [
          | inl loop ↦ (Err MakesLoop, (new, loop))
          | inr none ↦ fitting new none
        ]

-- ---- the items of the two files

assigns_some : (source : Text) (g : Global) (x : Id) → IsAnswered (AssignsId source) g x
assigns_some source g x = (
  assign g source x,
  StatusLine x (place_of g x) (if is_received g x then Assigned source else Unknown) ∷ [],
  (refl, refl),
)

pub item_some : (source : Option Text) (g : Global) (item : Item) → ¬ HasLoop g → IsAnswered (TakesItem source) g item
item_some source g (ASysmod s) no_loop =
    let answers = receives_some g (sourced source s) no_loop in (
      global_after g answers.0,
      StatusLine s.id (OfKind s.kind) (receive_status answers.0) ∷ [],
      (answers.0, answers.1, refl, refl),
    )
item_some source g (AnAssign a) no_loop = every_answered (AssignsId a.source) (assigns_some a.source) a.to g

pub hold_item_some : (g : Global) (item : HoldItem) → IsAnswered TakesHoldItem g item
hold_item_some g (AHold h) = (hold g h, StatusLine h.id (OfHold h.kind) (hold_status g h) ∷ [], (refl, refl))
hold_item_some g (ARelease r) = (
  global_after g (release g r),
  StatusLine r.id (OfHold r.kind) (release_status r (release g r)) ∷ [],
  (refl, refl),
)
