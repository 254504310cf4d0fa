use Rattle.std.proofs.Common.{◌≡◌, ◌∙◌, ◌∷◌, [], List, Some, None, codes, inr, subst, rules}
use Rattle.sqlite.specs.Steps.{over_memory}
use Rattle.terms.specs.Types.{Text}
use Rattle.terms.specs.declared.kinds.ZoneKind.TheVariants.{Target, Distribution}
use Rattle.machine.specs.Machine as machine
use Rattle.machine.specs.Machine.{NewZone, RunFiles}
use Rattle.smpe_jobs.specs.ZoneDefinitions.{definition}
use Rattle.smpe_rehearsal.specs.Rehearsed.{RehearsesOver}
use Rattle.smpe_rehearsal.proofs.receiving.receive_in_empty_system.Goals as goal

pub returns : goal.returns
returns c =
    let jobs : Text → Text → List _ → List _ → List _ → List machine.Job = λ one other cntl ptfin hold.
    NewZone (definition one Distribution c.args.srel None) ∷ NewZone (definition other Target c.args.srel (Some one))
    ∷ RunFiles c.args.rehearsal.now.date cntl (record { ptfin = ptfin; holds = hold }) ∷ [] in
    let conn = c.in_ok-conn.conn in
    let Ran : Text → List machine.Job → Type 0 = λ zone all.
    RehearsesOver over_memory zone all conn c.rehearse_connection.result in
    let cntl = c.as_slice-cntl in
    let ptfin = c.as_slice-ptfin in
    let hold = c.as_slice-hold in
    let files = c.args.rehearsal.now.files in
    let one : c.unwrap-distribution.result ≡ codes "DLIB" = search rules in
    let other : c.unwrap-target.result ≡ codes "TGT" = search rules in
    inr (
      conn,
      c.in_ok-conn.ensures.fresh,
      c.in_ok-conn.ensures.empty,
      subst (λ t. Ran (codes "TGT") (jobs (codes "DLIB") (codes "TGT") t files.ptfin.items files.hold.items))
          (cntl.ensures.value ∙ c.requires)
          (subst (λ t. Ran (codes "TGT") (jobs (codes "DLIB") (codes "TGT") cntl.result.now t files.hold.items))
          ptfin.ensures.value
          (subst (λ t. Ran (codes "TGT") (jobs (codes "DLIB") (codes "TGT") cntl.result.now ptfin.result.now t))
          hold.ensures.value
          (subst (λ t. Ran t (jobs (codes "DLIB") t cntl.result.now ptfin.result.now hold.result.now)) other
          (subst (λ t. Ran c.unwrap-target.result (jobs t c.unwrap-target.result cntl.result.now ptfin.result.now
          hold.result.now)) one c.rehearse_connection.ensures)))),
    )
