use Rattle.std.proofs.Common.{◌∙◌, ℕ, List, Ok, Err, Some, map, ap, inl, inr, sym, refl, subst}
use Rattle.std.specs.String.{string_bytes}
use Rattle.std.proofs.lemmas.List.{length-map}
use Rattle.std.proofs.lemmas.Result.{err_from_is_err_and}
use Rattle.sqlite_disk.specs.contracts.memory.MemoryDisk.TheImpl.{ghosts as memory_disk}
use Rattle.smpe_package.specs.Package.{IsPackage}
use Rattle.smpe_command.specs.Mending.{MendsPackage}
use Rattle.smpe_command.specs.Reading.{FailsToRead, ReadsAll}
use Rattle.smpe_command.proofs.mending.serve_mend.Goals as goal

pub returns-in_err-files : goal.returns-in_err-files
returns-in_err-files g c =
    let p = err_from_is_err_and c.from_residual.result c.from_residual.ensures.1 in
    inl (
      c.in_err-files.field-0.0,
      subst (λ (names : List _). FailsToRead g.H.Host c.args.host.now (map (λ name. Some (string_bytes name)) names)
          c.in_err-files.field-0.0 c.read_each.new.host) c.as_slice-names.ensures.value c.in_err-files.ensures.err,
      p.1 ∙ ap Err p.2,
      refl,
    )

pub returns-in_err-carried : goal.returns-in_err-carried
returns-in_err-carried g c =
    let files = c.in_ok-files.files in
    let r = c.from_residual-in_err-carried in
    let p = err_from_is_err_and r.result r.ensures.1 in
    inr (
      c.read_each.new.host,
      map (λ file. file.items) files.items,
      subst (λ (names : List _). ReadsAll g.H.Host c.args.host.now (map (λ name. Some (string_bytes name)) names)
          (Ok (map (λ file. file.items) files.items)) c.read_each.new.host) c.as_slice-names.ensures.value
          c.in_ok-files.ensures.ok,
      inl (c.in_err-carried.field-0.0, c.in_err-carried.ensures.err, p.1 ∙ ap Err p.2, refl, refl),
    )

pub returns : goal.returns
returns g c =
    let files = c.in_ok-files.files in
    let carried = c.in_ok-carried.carried in
    inr (
      c.read_each.new.host,
      map (λ file. file.items) files.items,
      subst (λ (names : List _). ReadsAll g.H.Host c.args.host.now (map (λ name. Some (string_bytes name)) names)
          (Ok (map (λ file. file.items) files.items)) c.read_each.new.host) c.as_slice-names.ensures.value
          c.in_ok-files.ensures.ok,
      inr (
        carried,
        subst (λ (n : ℕ). IsPackage n carried) (sym (length-map files.items (λ file. file.items)))
            c.in_ok-carried.ensures.ok,
        subst (λ ids. MendsPackage g.H.Host memory_disk g.O.Sink c.args.system.now ids c.read_each.new.host carried
            c.args.out.now c.mend_package.result c.mend_package.new.host c.mend_package.new.out)
            c.as_slice.ensures.value c.mend_package.ensures,
      ),
    )
