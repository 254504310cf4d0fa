-- RECEIVE has one answer at most: one global zone, and one list of lines.
use Rattle.std.proofs.Common.{◌≡◌, ℕ, Bool, true, List, [], ◌∷◌, false, ◌++◌, Option, Result, Ok, Err, refl, sym, ◌∙◌}
use Rattle.std.proofs.Common.{ap, ap₂}
use Rattle.std.proofs.Common.{subst}
use Rattle.terms.specs.Types.{Text, Id, Sysmod, Global, Item, ASysmod, AnAssign, HoldItem, AHold, ARelease}
use Rattle.terms.specs.Types.{ReceiveOperands, Receive}
use Rattle.terms.specs.Global.{ReceiveFault, AlreadyReceived, MakesLoop, WrongRole, NoRoom, HasFault, RefusedBy}
use Rattle.terms.specs.Global.{Receives}
use Rattle.terms.specs.Ptfin.{McsFault, IsPtfin, IsPtfinFault}
use Rattle.terms.specs.HoldFile.{IsHoldFile, IsHoldFileFault}
use Rattle.machine.specs.Outcome.{OfKind, StatusLine, Outcome, Ran, Refused, BadPtfin, BadHoldFile, header_of}
use Rattle.machine.specs.Outcome.{or_nothing}
use Rattle.machine.specs.State.{State}
use Rattle.machine.specs.Receiving.{global_after, receive_status, sourced, AssignsId, TakesItem, TakesHoldItem}
use Rattle.machine.specs.Runs.{Runs}
use Rattle.machine.specs.Machine.{Files, HasItems, Takes, TakesAll, TakesNone, TakesNoHold}
use Rattle.machine_laws.specs.Answers.{IsOnce}
use Rattle.machine_laws.proofs.RunsOnce.{every_run}
use Rattle.machine_laws.proofs.FileAnswers.{ptfin_once, hold_file_once}

-- ---- a SYSMOD

refused_applies : (g : Global) (s : Sysmod) (f : ReceiveFault) → RefusedBy g s f → HasFault g s f
refused_applies g s AlreadyReceived r = r
refused_applies g s MakesLoop r = r.1
refused_applies g s WrongRole r = r.2
refused_applies g s NoRoom r = r.3

-- The first fault that applies is one.
pub fault_only : (g : Global) (s : Sysmod) (e f : ReceiveFault) → RefusedBy g s e → RefusedBy g s f → e ≡ f
fault_only g s AlreadyReceived AlreadyReceived p q = refl
fault_only g s AlreadyReceived MakesLoop p q = absurd (q.0 p)
fault_only g s AlreadyReceived WrongRole p q = absurd (q.0 p)
fault_only g s AlreadyReceived NoRoom p q = absurd (q.0 p)
fault_only g s MakesLoop AlreadyReceived p q = absurd (p.0 q)
fault_only g s MakesLoop MakesLoop p q = refl
fault_only g s MakesLoop WrongRole p q = absurd (q.1 p.1)
fault_only g s MakesLoop NoRoom p q = absurd (q.1 p.1)
fault_only g s WrongRole AlreadyReceived p q = absurd (p.0 q)
fault_only g s WrongRole MakesLoop p q = absurd (p.1 q.1)
fault_only g s WrongRole WrongRole p q = refl
fault_only g s WrongRole NoRoom p q = absurd (q.2 p.2)
fault_only g s NoRoom AlreadyReceived p q = absurd (p.0 q)
fault_only g s NoRoom MakesLoop p q = absurd (p.1 q.1)
fault_only g s NoRoom WrongRole p q = absurd (p.2 q.2)
fault_only g s NoRoom NoRoom p q = refl

pub receives_only : (g : Global) (s : Sysmod) (a b : Result Global ReceiveFault) → Receives g s a → Receives g s b
    → a ≡ b
receives_only g s (Ok a) (Ok b) p q = ap (λ x. Ok x) (p.1 ∙ sym q.1)
receives_only g s (Ok a) (Err f) p q = absurd (p.0 f (refused_applies g s f q))
receives_only g s (Err e) (Ok b) p q = absurd (q.0 e (refused_applies g s e p))
receives_only g s (Err e) (Err f) p q = ap (λ x. Err x) (fault_only g s e f p q)

-- ---- the items of the two files

assigned_once : (source : Text) (g : Global) (x : Id) → IsOnce (AssignsId source) g x
assigned_once source g x t u p q (new, lines) (new', lines') = (new ∙ sym new', lines ∙ sym lines')

pub item_once : (source : Option Text) (g : Global) (item : Item) → IsOnce (TakesItem source) g item
item_once source g (ASysmod s) t u p q (answer, receives, new, lines) (answer', receives', new', lines') =
    let same = receives_only g (sourced source s) answer answer' receives receives' in (
      new ∙ ap (global_after g) same ∙ sym new',
      lines ∙ ap (λ r. StatusLine s.id (OfKind s.kind) (receive_status r) ∷ []) same ∙ sym lines',
    )
item_once source g (AnAssign a) t u p q runs runs' =
    every_run (AssignsId a.source) (assigned_once a.source) a.to g t u p q runs runs'

pub hold_item_once : (g : Global) (item : HoldItem) → IsOnce TakesHoldItem g item
hold_item_once g (AHold h) t u p q (new, lines) (new', lines') = (new ∙ sym new', lines ∙ sym lines')
hold_item_once g (ARelease r) t u p q (new, lines) (new', lines') = (new ∙ sym new', lines ∙ sym lines')

-- ---- the command

-- a file that is not read has no items
items_only : {X : Type 0} (Is : List ℕ → List X → Type 0)
    → ((bytes : List ℕ) (xs ys : List X) → Is bytes xs → Is bytes ys → xs ≡ ys) → (reads : Bool) (bytes : List ℕ)
    (xs ys : List X) → HasItems Is reads bytes xs → HasItems Is reads bytes ys → xs ≡ ys
items_only Is only true bytes xs ys h k = only bytes xs ys h k
items_only Is only false bytes xs ys h k = h ∙ sym k

module _ (files : Files) (s : State) (what : ReceiveOperands) where
  ptfin_same : (xs ys : List Item) → HasItems IsPtfin what.sysmods files.ptfin xs
      → HasItems IsPtfin what.sysmods files.ptfin ys → xs ≡ ys
  ptfin_same = items_only IsPtfin (λ bytes. (ptfin_once bytes).items) what.sysmods files.ptfin

  holds_same : (xs ys : List HoldItem) → HasItems IsHoldFile what.holddata files.holds xs
      → HasItems IsHoldFile what.holddata files.holds ys → xs ≡ ys
  holds_same = items_only IsHoldFile (λ bytes. (hold_file_once bytes).items) what.holddata files.holds

  -- a file that is read and at fault has no items
  no_ptfin : {A : Type 0} (items : List Item) (fault : McsFault) → what.sysmods ≡ true
      → HasItems IsPtfin what.sysmods files.ptfin items → IsPtfinFault files.ptfin fault → A
  no_ptfin items fault reads has at =
      absurd ((ptfin_once files.ptfin).apart items fault (subst (λ b. HasItems IsPtfin b files.ptfin items) reads has)
      at)

  no_holds : {A : Type 0} (holds : List HoldItem) (fault : McsFault) → what.holddata ≡ true
      → HasItems IsHoldFile what.holddata files.holds holds → IsHoldFileFault files.holds fault → A
  no_holds holds fault reads has at =
      absurd ((hold_file_once files.holds).apart holds fault
      (subst (λ b. HasItems IsHoldFile b files.holds holds) reads has) at)

  -- RECEIVE leads to one state at most, and has one outcome.
  pub takes_once : (t u : State) (p q : Outcome) → Takes files s what t p → Takes files s what u q
      → (t ≡ u) × (p ≡ q)
  takes_once t u p q (TakesAll items holds middle g lines more has has_holds runs runs_holds)
      (TakesAll items' holds' middle' g' lines' more' has' has_holds' runs' runs_holds') =
      let same = ptfin_same items items' has has' in
      let same_holds = holds_same holds holds' has_holds has_holds' in
      let first = every_run (TakesItem what.source) (item_once what.source) items' s.global middle middle' lines lines'
      (subst (λ xs. Runs (TakesItem what.source) s.global xs middle lines) same runs) runs' in
      let moved = subst (λ m. Runs TakesHoldItem m holds' g more) first.0
      (subst (λ xs. Runs TakesHoldItem middle xs g more) same_holds runs_holds) in
      let second = every_run TakesHoldItem hold_item_once holds' middle' g g' more more' moved runs_holds' in (
        ap (λ x. record s { global = x }) second.0,
        ap (λ ls. Ran (header_of (Receive what) s.boundary) (or_nothing ls)) (ap₂ (λ x y. x ++ y) first.1 second.1),
      )
  takes_once t u p q (TakesAll items holds middle g lines more has has_holds runs runs_holds)
      (TakesNone fault reads at) = no_ptfin items fault reads has at
  takes_once t u p q (TakesAll items holds middle g lines more has has_holds runs runs_holds)
      (TakesNoHold items' fault has' reads at) = no_holds holds fault reads has_holds at
  takes_once t u p q (TakesNone fault reads at)
      (TakesAll items holds middle g lines more has has_holds runs runs_holds) = no_ptfin items fault reads has at
  takes_once t u p q (TakesNone fault reads at) (TakesNone fault' reads' at') = (
    refl,
    ap (λ (f : McsFault). Refused (header_of (Receive what) s.boundary) (BadPtfin f.number f.code))
        ((ptfin_once files.ptfin).faults fault fault' at at'),
  )
  takes_once t u p q (TakesNone fault reads at) (TakesNoHold items fault' has reads' at') =
      no_ptfin items fault reads has at
  takes_once t u p q (TakesNoHold items' fault has' reads at)
      (TakesAll items holds middle g lines more has has_holds runs runs_holds) = no_holds holds fault reads has_holds at
  takes_once t u p q (TakesNoHold items fault' has reads' at') (TakesNone fault reads at) =
      no_ptfin items fault reads has at
  takes_once t u p q (TakesNoHold items fault has reads at) (TakesNoHold items' fault' has' reads' at') = (
    refl,
    ap (λ (f : McsFault). Refused (header_of (Receive what) s.boundary) (BadHoldFile f.number f.code))
        ((hold_file_once files.holds).faults fault fault' at at'),
  )
