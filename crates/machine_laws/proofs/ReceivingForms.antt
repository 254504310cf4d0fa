-- RECEIVE leads from an inventory to an inventory.
use Rattle.std.proofs.Common.{◌≡◌, ℕ, Bool, true, false, List, [], Option, Some, None, All}
use Rattle.std.proofs.Common.{get_or, refl, sym, subst, arith, IfSome}
use Rattle.std.specs.Prelude.{Result, Ok, Err}
use Rattle.std.specs.List.{AllByRecursion}
use Rattle.std.specs.Ordering.{nat_cmp}
use Rattle.std.specs.Cmp.Lexicographic.{slice_cmp}
use Rattle.std.proofs.lemmas.Cmp.{nat_list_cmp_total}
use Rattle.std.proofs.lemmas.List.Elements.{All-from_recursion}
use Rattle.terms.specs.Types.{Text, type_number, Sysmod, Global, Item, ASysmod, AnAssign, HoldItem, AHold}
use Rattle.terms.specs.Types.{ARelease, ReceiveOperands}
use Rattle.terms.specs.Rising.{Rises}
use Rattle.terms.specs.Forms.{IsSource}
use Rattle.terms.specs.Global.{IsSysmod, ReceiveFault, Receives}
use Rattle.terms.specs.Ptfin.{IsPtfin}
use Rattle.terms.specs.HoldFile.{IsHoldFile}
use Rattle.terms.proofs.Placing.{All_with_item, Rises_with_item}
use Rattle.store_schema.specs.Forms.{AreSorted, HasSysmodForms, HasHoldForms}
use Rattle.store_schema.specs.Inventory.{Inventory, IsInventory}
use Rattle.machine.specs.Outcome.{Line}
use Rattle.machine.specs.Receiving.{sourced, global_after, AssignsId, TakesItem, TakesHoldItem}
use Rattle.machine.specs.Machine.{Files, HasItems}
use Rattle.machine.specs.Runs.{Runs}
use Rattle.machine_laws.proofs.Lists.{each_alike}
use Rattle.machine_laws.proofs.GlobalForms.{HasGlobalForms, runs_forms, hold_forms, external_owned, release_forms}
use Rattle.machine_laws.proofs.GlobalForms.{assign_forms, received_forms, global_forms, with_global}
use Rattle.machine_laws.proofs.PtfinForms.{IsOwnHold, IsWhole, IsItem, ptfin_formed}
use Rattle.machine_laws.proofs.HoldFileForms.{IsHoldItem, hold_file_formed}
use Rattle.terms.proofs.Orderings.{lower_first}

-- ---- SYSMODs

sources_listed : (source : Option Text) (s : Sysmod) → IfSome source IsSource → s.sources ≡ []
    → AreSorted IsSource (sourced source s).sources
sources_listed None s form none = subst (λ ts. AreSorted IsSource ts) (sym none)
    (record { each = λ k d below. absurd (omega arith); rising = λ i j d up below. absurd (omega arith) })
sources_listed (Some source) s form none = record {
  each = All_with_item (slice_cmp nat_cmp) (λ (t : Text). t) IsSource s.sources source
      (subst (λ ts. All IsSource ts) (sym none) (λ k d below. absurd (omega arith))) form;
  rising = Rises_with_item nat_list_cmp_total (λ (t : Text). t) s.sources source
      (subst (λ ts. Rises (slice_cmp nat_cmp) (λ (t : Text). t) ts) (sym none)
      (λ i j d up below. absurd (omega arith)));
}

same_rest : (source : Option Text) (s : Sysmod) → sourced source s ≡ record s { sources = (sourced source s).sources }
same_rest None s = refl
same_rest (Some source) s = refl

-- a SYSMOD that is read, with the source of the command
with_forms : (s : Sysmod) (sources : List Text) → IsWhole s → AreSorted IsSource sources
    → HasSysmodForms (record s { sources = sources })
with_forms s sources whole listed = record {
  id = whole.growing.id;
  sources = listed;
  some = whole.some;
  vers = whole.growing.vers;
  apart = whole.growing.apart;
  most = whole.growing.most;
  changes = whole.growing.changes;
  elements = λ i j d less below.
      let h = get_or s.changes i d in
      let k = get_or s.changes j d in
      lower_first (type_number h.elem_type) (type_number k.elem_type) (slice_cmp nat_cmp h.name k.name)
      (whole.growing.elements i j d less below);
}

is_sysmod : (s : Sysmod) (sources : List Text) → IsWhole s → AreSorted IsSource sources
    → IsSysmod (record s { sources = sources })
is_sysmod s sources whole listed = record {
  sources = listed.rising;
  changes = whole.growing.elements;
  holds = All-from_recursion (IsOwnHold s.id) s.holds whole.growing.holds;
}

taken_forms : (g : Global) (s : Sysmod) (answer : Result Global ReceiveFault) → HasSysmodForms s → IsSysmod s
    → AllByRecursion HasHoldForms s.holds
    → HasGlobalForms g → Receives g s answer → HasGlobalForms (global_after g answer)
taken_forms g s (Ok new) forms is held has (good, new_is) = subst HasGlobalForms (sym new_is)
    (received_forms g s forms is held good has)
taken_forms g s (Err why) forms is held has refused = has

-- ---- the items of PTFIN

pub item_forms : (source : Option Text) → IfSome source IsSource → (g new : Global) (item : Item) (lines : List Line)
    → IsItem item → HasGlobalForms g → TakesItem source g item new lines → HasGlobalForms new
item_forms source form g new (ASysmod s) lines whole has (answer, receives, new_is, printed) =
    let listed = sources_listed source s form whole.growing.no_sources in
    let sources = (sourced source s).sources in
    let same = sym (same_rest source s) in
    subst HasGlobalForms (sym new_is)
    (taken_forms g (sourced source s) answer
    (subst HasSysmodForms same (with_forms s sources whole listed))
    (subst IsSysmod same (is_sysmod s sources whole listed))
    (subst (λ t. AllByRecursion HasHoldForms t.holds) same whole.growing.held)
    has receives)
item_forms source form g new (AnAssign a) lines is has takes =
    runs_forms (AssignsId a.source) (λ x. IsSource a.source)
    (λ g new x lines here has takes. subst HasGlobalForms (sym takes.0) (assign_forms g a.source x here has)) a.to g new
    lines
    (each_alike (IsSource a.source) is a.to) has takes

-- ---- the items of the hold file

hold_item_forms : (g new : Global) (item : HoldItem) (lines : List Line) → IsHoldItem item → HasGlobalForms g
    → TakesHoldItem g item new lines → HasGlobalForms new
hold_item_forms g new (AHold h) lines is has takes = subst HasGlobalForms (sym takes.0)
    (hold_forms g h is.0 (external_owned g h is.1) has)
hold_item_forms g new (ARelease r) lines is has takes = subst HasGlobalForms (sym takes.0) (release_forms g r has)

-- RECEIVE of a PTFIN leads from an inventory to one.
pub receive_forms : (bytes : List ℕ) (source : Option Text) (items : List Item) (i : Inventory) (new : Global)
    (lines : List Line) → IfSome source IsSource → IsPtfin bytes items → IsInventory i
    → Runs (TakesItem source) i.global items new lines → IsInventory (record i { global = new })
receive_forms bytes source items i new lines form reads is runs =
    with_global i new is (runs_forms (TakesItem source) IsItem (item_forms source form) items i.global new lines
    (ptfin_formed bytes items reads) (global_forms i is) runs)

-- And so does RECEIVE of a hold file.
pub receive_holds_forms : (bytes : List ℕ) (items : List HoldItem) (i : Inventory) (new : Global) (lines : List Line)
    → IsHoldFile bytes items → IsInventory i
    → Runs TakesHoldItem i.global items new lines → IsInventory (record i { global = new })
receive_holds_forms bytes items i new lines reads is runs =
    with_global i new is (runs_forms TakesHoldItem IsHoldItem hold_item_forms items i.global new lines
    (hold_file_formed bytes items reads) (global_forms i is) runs)

-- A file that is not read has no items.
items_formed : {X : Type 0} (Is : List ℕ → List X → Type 0) (P : X → Type 0)
    → ((bytes : List ℕ) (items : List X) → Is bytes items → AllByRecursion P items)
    → (reads : Bool) (bytes : List ℕ) (items : List X) → HasItems Is reads bytes items → AllByRecursion P items
items_formed Is P formed true bytes items has = formed bytes items has
items_formed Is P formed false bytes items none = subst (AllByRecursion P) (sym none) tt

-- RECEIVE of the files that the command reads leads from an inventory to one.
pub take_forms : (files : Files) (what : ReceiveOperands) (items : List Item) (holds : List HoldItem) (i : Inventory)
    (middle new : Global) (lines more : List Line) → IfSome what.source IsSource
    → HasItems IsPtfin what.sysmods files.ptfin items → HasItems IsHoldFile what.holddata files.holds holds
    → IsInventory i
    → Runs (TakesItem what.source) i.global items middle lines → Runs TakesHoldItem middle holds new more
    → IsInventory (record i { global = new })
take_forms files what items holds i middle new lines more form reads reads_holds is runs runs_holds =
    let sysmods = runs_forms (TakesItem what.source) IsItem (item_forms what.source form) items i.global middle lines
    (items_formed IsPtfin IsItem ptfin_formed what.sysmods files.ptfin items reads) (global_forms i is) runs in
    with_global i new is
    (runs_forms TakesHoldItem IsHoldItem hold_item_forms holds middle new more
    (items_formed IsHoldFile IsHoldItem hold_file_formed what.holddata files.holds holds reads_holds) sysmods
    runs_holds)
