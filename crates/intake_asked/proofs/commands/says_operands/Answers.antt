use Rattle.std.proofs.Common.{◌∷◌, [], IfOk, IsTrue, subst, sym}
use Rattle.std.specs.Prelude.{codes}
use Rattle.cntl.specs.Views.{command_of}
use Rattle.intake_asked.specs.Said.{AreThese, SaysOperands}
use Rattle.intake_asked.specs.Words.{listed, select_names}
use Rattle.intake_asked.proofs.commands.says_operands.Goals as goal

pub returns-in-Set : goal.returns-in-Set
returns-in-Set c =
    subst (λ cmd. IfOk c.says_zone.result (λ s. IsTrue s
    → SaysOperands c.args.known.now c.args.wide.now (command_of cmd))) (sym c.in-Set.is)
    (subst (λ ops. IfOk c.says_zone.result (λ s. IsTrue s
    → AreThese (c.in-Set.zone ∷ []) (listed (codes "BDY" ∷ codes "BOUNDARY" ∷ []) ops)))
    c.as_slice-operands.ensures.value c.says_zone.ensures)

pub returns-in-Reject : goal.returns-in-Reject
returns-in-Reject c =
    subst (λ cmd. IfOk c.says_rejected_ids.result (λ s. IsTrue s
    → SaysOperands c.args.known.now c.args.wide.now (command_of cmd))) (sym c.in-Reject.is)
    (subst (λ ids. IfOk c.says_rejected_ids.result (λ s. IsTrue s
    → AreThese ids (listed select_names c.args.wide.now.operands.items))) c.as_slice.ensures.items
    (subst (λ ops. IfOk c.says_rejected_ids.result (λ s. IsTrue s
    → AreThese c.as_slice.result.now (listed select_names ops)))
    c.as_slice-operands.ensures.value c.says_rejected_ids.ensures))
