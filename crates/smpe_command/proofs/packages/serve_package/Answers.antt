use Rattle.std.proofs.Common.{◌∙◌, ℕ, List, Option, Ok, Err, map, ap, inl, inr, sym, refl, subst}
use Rattle.std.specs.String.{string_bytes}
use Rattle.std.proofs.lemmas.List.{length-map}
use Rattle.std.proofs.lemmas.Result.{err_from_is_err_and}
use Rattle.sqlite_disk.specs.contracts.memory.MemoryDisk.TheImpl.{ghosts as memory_disk}
use Rattle.terms.specs.Types.{Text}
use Rattle.smpe_certificate.specs.Facts.{Input}
use Rattle.smpe_jobs.specs.declared.error.JobError.TheVariants.{Memory}
use Rattle.smpe_jobs.specs.declared.messages.Fault.TheVariants.{Job}
use Rattle.smpe_package.specs.Package.{IsPackage}
use Rattle.smpe_command.specs.Packages.{AnswersPackage, inputs_of}
use Rattle.smpe_command.specs.Reading.{FailsToRead, ReadsAll}
use Rattle.smpe_command.proofs.FileNames.{each_named}
use Rattle.smpe_command.proofs.packages.serve_package.Goals as goal

pub returns-in_err-files : goal.returns-in_err-files
returns-in_err-files g c =
    let fault = c.in_err-files.field-0.0 in
    let p = err_from_is_err_and c.from_residual.result c.from_residual.ensures.1 in
    inl (
      fault,
      subst (λ (names : List (Option Text)). FailsToRead g.H.Host c.args.host.now names fault c.read_each.new.host)
          (each_named string_bytes c.args.check.now.names.now) c.in_err-files.ensures.err,
      p.1 ∙ ap Err p.2,
      refl,
    )

pub returns-in_err-inputs : goal.returns-in_err-inputs
returns-in_err-inputs g c =
    let files = c.in_ok-files.files in
    let r = c.from_residual-in_err-inputs in
    let p = err_from_is_err_and r.result r.ensures.1 in
    inr (
      c.read_each.new.host,
      map (λ file. file.items) files.items,
      subst (λ (names : List (Option Text)). ReadsAll g.H.Host c.args.host.now names
          (Ok (map (λ file. file.items) files.items)) c.read_each.new.host)
          (each_named string_bytes c.args.check.now.names.now) c.in_ok-files.ensures.ok,
      inl (Job Memory, refl, p.1 ∙ ap Err (p.2 ∙ ap Job c.in_err-inputs.ensures.err), refl, refl),
    )

pub returns-in_err-carried : goal.returns-in_err-carried
returns-in_err-carried g c =
    let files = c.in_ok-files.files in
    let r = c.from_residual-in_err-carried in
    let p = err_from_is_err_and r.result r.ensures.1 in
    inr (
      c.read_each.new.host,
      map (λ file. file.items) files.items,
      subst (λ (names : List (Option Text)). ReadsAll g.H.Host c.args.host.now names
          (Ok (map (λ file. file.items) files.items)) c.read_each.new.host)
          (each_named string_bytes c.args.check.now.names.now) c.in_ok-files.ensures.ok,
      inl (c.in_err-carried.field-0.0, c.in_err-carried.ensures.err, p.1 ∙ ap Err p.2, refl, refl),
    )

pub returns : goal.returns
returns g c =
    let files = c.in_ok-files.files in
    let check = c.args.check.now in
    let carried = c.in_ok-carried.carried in
    inr (
      c.read_each.new.host,
      map (λ file. file.items) files.items,
      subst (λ (names : List (Option Text)). ReadsAll g.H.Host c.args.host.now names
          (Ok (map (λ file. file.items) files.items)) c.read_each.new.host)
          (each_named string_bytes check.names.now) c.in_ok-files.ensures.ok,
      inr (
        carried,
        subst (λ (n : ℕ). IsPackage n carried) (sym (length-map files.items (λ file. file.items)))
            c.in_ok-carried.ensures.ok,
        subst (λ (inputs : List Input). AnswersPackage g.H.Host memory_disk g.O.Sink check.system.now check.answer.now
            c.read_each.new.host inputs carried c.args.out.now c.answer_package.result c.answer_package.new.host
            c.answer_package.new.out)
            (c.in_ok-inputs.ensures.ok
            ∙ ap (λ all. inputs_of (map string_bytes check.names.now) (map (λ file. file.items) all))
            c.as_slice.ensures.value) c.answer_package.ensures,
      ),
    )
