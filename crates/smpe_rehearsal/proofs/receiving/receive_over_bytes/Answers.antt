use Rattle.std.proofs.Common.{◌∙◌, ◌∷◌, [], List, inr, subst}
use Rattle.sqlite.specs.Files.{over_files}
use Rattle.machine.specs.Machine as machine
use Rattle.machine.specs.Machine.{RunFiles}
use Rattle.smpe_rehearsal.specs.Copied.{IsCopy}
use Rattle.smpe_rehearsal.specs.Rehearsed.{RehearsesOver}
use Rattle.smpe_rehearsal.proofs.receiving.receive_over_bytes.Goals as goal

pub returns : goal.returns
returns c =
    let job : List _ → List _ → List _ → machine.Job = λ cntl ptfin hold.
    RunFiles c.args.rehearsal.now.date cntl (record { ptfin = ptfin; holds = hold }) in
    let conn = c.in_ok-conn.conn in
    let Ran : machine.Job → Type 0 = λ one.
    RehearsesOver over_files c.args.zone (one ∷ []) conn c.rehearse_connection.result in
    let files = c.args.rehearsal.now.files in
    let cntl = c.as_slice in
    let ptfin = c.as_slice-2 in
    let hold = c.as_slice-3 in
    inr (
      conn,
      subst (λ log. IsCopy c.args.bytes.now.db.items log conn) c.as_slice-5.ensures.value
          (subst (λ db. IsCopy db c.as_slice-5.result.now conn) c.as_slice-4.ensures.value c.in_ok-conn.ensures.ok),
      subst (λ t. Ran (job t files.ptfin.items files.hold.items)) (cntl.ensures.value ∙ c.requires)
          (subst (λ t. Ran (job cntl.result.now t files.hold.items)) ptfin.ensures.value
          (subst (λ t. Ran (job cntl.result.now ptfin.result.now t)) hold.ensures.value
          c.rehearse_connection.ensures)),
    )
