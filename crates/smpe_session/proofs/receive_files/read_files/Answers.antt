use Rattle.std.proofs.Common.{◌≡◌, ap, rules, subst, subst₂}
use Rattle.terms.specs.Ptfin.{IsPtfin}
use Rattle.terms.specs.HoldFile.{IsHoldFile}
use Rattle.machine.specs.Machine.{TakesNone, TakesNoHold}
use Rattle.mcs.specs.declared.error.McsError.TheVariants.{Fault}
use Rattle.mcs.specs.Files.{items, IsPtfinError}
use Rattle.mcs.specs.HoldItems.{items as hold_items, IsHoldFileError}
use Rattle.smpe_session.proofs.Received.{HasRead, read, unread}
use Rattle.smpe_session.proofs.receive_files.read_files.Goals.{Joined-what, Joined-what-2}
use Rattle.smpe_session.proofs.receive_files.read_files.Goals.{then-what, else-what, then-what-2, else-what-2}
use Rattle.smpe_session.proofs.receive_files.read_files.Goals as goal

ptfin : (c : Joined-what) → HasRead IsPtfin IsPtfinError (λ v. items v.items) c.args.what.now.sysmods
    c.args.files.now.ptfin c.if-what.ptfin
ptfin c = subst₂ (λ reads bytes. HasRead IsPtfin IsPtfinError (λ v. items v.items) reads bytes c.if-what.ptfin)
    (ap (λ w. w.sysmods) c.what.view_is) (ap (λ f. f.ptfin) c.files.view_is) (elim c.if-what.branch [
      | then-what w ↦ rw w.ptfin-is (read IsPtfin IsPtfinError (λ v. items v.items) _ _ w.read_ptfin-ptfin.result
          w.if-what.true w.read_ptfin-ptfin.ensures.items w.read_ptfin-ptfin.ensures.fault)
      | else-what w ↦ rw w.ptfin-is (unread IsPtfin IsPtfinError (λ v. items v.items) c.files.inside.ptfin.now _
          w.new.result w.if-what.false (ap items w.new.ensures.items))
    ])

hold_file : (c : Joined-what-2) → HasRead IsHoldFile IsHoldFileError (λ v. hold_items v.items)
    c.args.what.now.holddata c.args.files.now.holds c.if-what-2.hold_file
hold_file c = subst₂
    (λ reads bytes. HasRead IsHoldFile IsHoldFileError (λ v. hold_items v.items) reads bytes c.if-what-2.hold_file)
    (ap (λ w. w.holddata) c.what.view_is) (ap (λ f. f.holds) c.files.view_is) (elim c.if-what-2.branch [
      | then-what-2 w ↦ rw w.hold_file-is (read IsHoldFile IsHoldFileError (λ v. hold_items v.items) _ _
          w.read_hold-hold_file.result w.if-what-2.true w.read_hold-hold_file.ensures.items
          w.read_hold-hold_file.ensures.fault)
      | else-what-2 w ↦ rw w.hold_file-is (unread IsHoldFile IsHoldFileError (λ v. hold_items v.items)
          c.files.inside.holds.now _ w.new-else-what-2.result w.if-what-2.false
          (ap hold_items w.new-else-what-2.ensures.items))
    ])

pub returns-in-Err-Fault : goal.returns-in-Err-Fault
returns-in-Err-Fault c = λ s.
    let is = rw c.in-Err-Fault.is at (ptfin (goal.at.returns-in-Err-Fault c).Joined-what) in
    let fault : c.in-Err-Fault.field-0 ≡ Fault c.in-Err-Fault.number c.in-Err-Fault.code = search rules in
    TakesNone (record { number = c.in-Err-Fault.number; code = c.in-Err-Fault.code }) is.0
    (subst (IsPtfinError c.args.files.now.ptfin) fault is.1)

pub returns-in-Err-Fault-hold_file : goal.returns-in-Err-Fault-hold_file
returns-in-Err-Fault-hold_file c = λ s.
    let at = goal.at.returns-in-Err-Fault-hold_file c in
    let is = rw c.in-Err-Fault-hold_file.is at (hold_file at.Joined-what-2) in
    let fault : c.in-Err-Fault-hold_file.field-0 ≡ Fault c.in-Err-Fault-hold_file.number c.in-Err-Fault-hold_file.code =
    search rules in
    TakesNoHold (items c.in-Ok.items.items)
    (record { number = c.in-Err-Fault-hold_file.number; code = c.in-Err-Fault-hold_file.code })
    (rw c.in-Ok.is at (ptfin at.Joined-what)) is.0
    (subst (IsHoldFileError c.args.files.now.holds) fault is.1)

pub returns : goal.returns
returns c =
    let at = goal.at.returns c in
    (rw c.in-Ok.is at (ptfin at.Joined-what), rw c.in-Ok-hold_file.is at (hold_file at.Joined-what-2))
