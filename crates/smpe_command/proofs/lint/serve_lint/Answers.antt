use Rattle.std.proofs.Common.{◌∙◌, ℕ, List, Err, Ok, Some, length, map, ap, inl, inr, sym, refl, subst}
use Rattle.std.specs.String.{string_bytes}
use Rattle.std.proofs.lemmas.List.{length-map}
use Rattle.std.proofs.lemmas.Result.{err_from_is_err_and}
use Rattle.smpe_command.specs.Linting.{TellsLint}
use Rattle.smpe_command.specs.Reading.{FailsToRead, ReadsAll}
use Rattle.smpe_command.proofs.lint.serve_lint.Goals as goal

pub returns-in_err-files : goal.returns-in_err-files
returns-in_err-files g c =
    let p = err_from_is_err_and c.from_residual.result c.from_residual.ensures.1 in
    inl (
      c.in_err-files.field-0.0,
      subst (λ (names : List _). FailsToRead g.H.Host c.args.host.now (map (λ name. Some (string_bytes name)) names)
          c.in_err-files.field-0.0 c.read_each.new.host) c.as_slice.ensures.value c.in_err-files.ensures.err,
      p.1 ∙ ap Err p.2,
      refl,
    )

pub returns : goal.returns
returns g c =
    let files = c.in_ok-files.files in
    inr (
      map (λ file. file.items) files.items,
      subst (λ (names : List _). ReadsAll g.H.Host c.args.host.now (map (λ name. Some (string_bytes name)) names)
          (Ok (map (λ file. file.items) files.items)) c.read_each.new.host) c.as_slice.ensures.value
          c.in_ok-files.ensures.ok,
      c.lint_and_write.result,
      subst (λ (n : ℕ). TellsLint g.O.Sink c.args.out.now n c.args.options.now.srel c.lint_and_write.result
          c.lint_and_write.new.out)
          (ap length c.as_slice-2.ensures.value ∙ sym (length-map files.items (λ file. file.items)))
          c.lint_and_write.ensures,
      c.status_or_fault.ensures,
    )
