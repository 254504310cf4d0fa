use Rattle.std.proofs.Common.{◌≡◌, ◌∙◌, ◌∷◌, [], List, map, Some, None, codes, inl, inr, ap, sym, refl, subst}
use Rattle.std.proofs.Common.{rules}
use Rattle.sqlite.proofs.Callers.{memory_is_clean}
use Rattle.sqlite.specs.Effect.{Database}
use Rattle.terms.specs.Types.{Text}
use Rattle.terms.specs.declared.kinds.ZoneKind.TheVariants.{Target, Distribution}
use Rattle.machine.specs.Machine as machine
use Rattle.machine.specs.Machine.{NewZone, RunFiles}
use Rattle.smpe_jobs.specs.ZoneDefinitions.{definition}
use Rattle.smpe_jobs.specs.Ending.{answer_of}
use Rattle.smpe_rehearsal.specs.ServiceSet.{JobsInMemory}
use Rattle.smpe_rehearsal.proofs.service_set.run_in_empty_system.Goals as goal

pub returns : goal.returns
returns g c =
    let jobs : Text → Text → List _ → List _ → List _ → List _ → List machine.Job = λ one other receive cntl ptfin hold.
    NewZone (definition one Distribution c.args.srel None) ∷ NewZone (definition other Target c.args.srel (Some one))
    ∷ RunFiles c.args.rehearsal.now.date receive (record { ptfin = ptfin; holds = hold })
    ∷ RunFiles c.args.rehearsal.now.date cntl (record { ptfin = ptfin; holds = hold }) ∷ [] in
    let Ran : List machine.Job → Type 0 = λ all. JobsInMemory g.O.Sink all c.args.out.now (λ v. map answer_of v.items)
    c.run_jobs_in_new_database.result c.run_jobs_in_new_database.new.out in
    let receive = c.as_slice-receive in
    let cntl = c.as_slice-cntl in
    let ptfin = c.as_slice-ptfin in
    let hold = c.as_slice-hold in
    let files = c.args.rehearsal.now.files in
    let one : c.unwrap-distribution.result ≡ codes "DLIB" = search rules in
    let other : c.unwrap-target.result ≡ codes "TGT" = search rules in
    let conn = c.in_ok-conn.conn in
    let empty = c.in_ok-conn.ensures.empty in
    let ran : Ran (jobs c.unwrap-distribution.result c.unwrap-target.result receive.result.now cntl.result.now
    ptfin.result.now hold.result.now) = inr (
      conn,
      c.in_ok-conn.ensures.fresh,
      empty,
      elim c.run_jobs_in_new_database.ensures [
        | inl unmade ↦ inl unmade
        | inr ran ↦ inr (
          ran.0,
          ran.1 (memory_is_clean ran.0) (λ clean is_open. inl (
            sym (ap (λ (db : Database). db.schema) empty.0.clean) ∙ empty.2,
            refl,
          )),
          ran.2,
        )
      ],
    ) in
    subst (λ t. Ran (jobs (codes "DLIB") (codes "TGT") t files.cntl.items files.ptfin.items files.hold.items))
    (receive.ensures.value ∙ c.requires)
    (subst (λ t. Ran (jobs (codes "DLIB") (codes "TGT") receive.result.now t files.ptfin.items files.hold.items))
    cntl.ensures.value
    (subst (λ t. Ran (jobs (codes "DLIB") (codes "TGT") receive.result.now cntl.result.now files.ptfin.items t))
    hold.ensures.value
    (subst (λ t. Ran (jobs (codes "DLIB") (codes "TGT") receive.result.now cntl.result.now t hold.result.now))
    ptfin.ensures.value
    (subst (λ t. Ran (jobs (codes "DLIB") t receive.result.now cntl.result.now ptfin.result.now hold.result.now)) other
    (subst (λ t. Ran (jobs t c.unwrap-target.result receive.result.now cntl.result.now ptfin.result.now
    hold.result.now)) one ran)))))
