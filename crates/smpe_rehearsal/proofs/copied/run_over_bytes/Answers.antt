use Rattle.std.proofs.Common.{◌∙◌, ◌∷◌, [], List, subst}
use Rattle.machine.specs.Machine as machine
use Rattle.machine.specs.Machine.{RunFiles}
use Rattle.sqlite_disk.specs.contracts.memory.MemoryDisk.TheImpl.{ghosts as memory_disk}
use Rattle.smpe_rehearsal.specs.Copied.{TriesBytes}
use Rattle.smpe_rehearsal.proofs.copied.run_over_bytes.Goals as goal

pub returns : goal.returns
returns g c =
    let jobs : List _ → List _ → List _ → List _ → List machine.Job = λ receive cntl ptfin hold.
    RunFiles c.args.rehearsal.now.date receive (record { ptfin = ptfin; holds = hold })
    ∷ RunFiles c.args.rehearsal.now.date cntl (record { ptfin = ptfin; holds = hold }) ∷ [] in
    let Ran : List machine.Job → Type 0 = λ all. TriesBytes memory_disk g.O.Sink c.args.zone
    c.args.ids.now c.args.bytes.now.db.items c.args.bytes.now.log.items all c.args.out.now
    c.rehearse_over_bytes.result c.rehearse_over_bytes.new.out in
    let receive = c.as_slice-receive in
    let cntl = c.as_slice-cntl in
    let ptfin = c.as_slice-ptfin in
    let hold = c.as_slice-hold in
    let files = c.args.rehearsal.now.files in
    let ran : Ran (jobs receive.result.now cntl.result.now ptfin.result.now hold.result.now) =
    c.rehearse_over_bytes.ensures in
    subst (λ t. Ran (jobs t files.cntl.items files.ptfin.items files.hold.items))
    (receive.ensures.value ∙ c.requires)
    (subst (λ t. Ran (jobs receive.result.now t files.ptfin.items files.hold.items)) cntl.ensures.value
    (subst (λ t. Ran (jobs receive.result.now cntl.result.now files.ptfin.items t)) hold.ensures.value
    (subst (λ t. Ran (jobs receive.result.now cntl.result.now t hold.result.now)) ptfin.ensures.value ran)))
