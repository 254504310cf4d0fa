use Rattle.std.proofs.Common.{◌≡◌, ◌∙◌, ◌∷◌, ◌++◌, ◌+◌, List, [], Ok, Err, Some, map, take, ap, sym, refl, subst}
use Rattle.std.specs.String.{string_bytes}
use Rattle.std.proofs.lemmas.List.{map-append}
use Rattle.std.proofs.lemmas.Result.{err_from_is_err_and}
use Rattle.smpe_jobs.specs.declared.error.JobError.TheVariants.{Memory}
use Rattle.smpe_jobs.specs.declared.messages.Fault.TheVariants.{Job}
use Rattle.smpe_command.specs.Reading.{Reads, ReadsAll}
use Rattle.smpe_command.proofs.ReadingOn.{fails_here, reads_more, runs_out}
use Rattle.smpe_command.proofs.job_files.read_each.Goals as goal

pub returns-in_err-file-clause-err : goal.returns-in_err-file-clause-err
returns-in_err-file-clause-err g c =
    let fault = c.in_err-file.field-0.0 in
    let p = err_from_is_err_and c.from_residual.result c.from_residual.ensures.1 in
    rw (p.1, p.2) (fails_here g.H.Host (λ name. Some (string_bytes name)) c.args.names.now c.loop-name.name-index
    c.name-item.result c.args.host.now c.loop-name.host c.read_file.new.host
    (map (λ file. file.items) c.loop-name.files.items) c.loop-name-test.true c.name-item.is c.loop-name.invariant fault
    (subst (λ name. Reads g.H.Host c.loop-name.host (Some name) (Err fault) c.read_file.new.host) c.as_str.ensures.value
    c.in_err-file.ensures.err))

pub returns-in_err-push_file-clause-err : goal.returns-in_err-push_file-clause-err
returns-in_err-push_file-clause-err g c =
    let bytes = c.in_ok-file.file.items in
    let r = c.from_residual-in_err-push_file in
    let p = err_from_is_err_and r.result r.ensures.1 in
    rw (p.1, p.2 ∙ ap Job c.in_err-push_file.ensures.err) (runs_out g.H.Host (λ name. Some (string_bytes name))
    c.args.names.now c.loop-name.name-index c.name-item.result c.args.host.now c.loop-name.host c.read_file.new.host
    (map (λ file. file.items) c.loop-name.files.items) c.loop-name-test.true c.name-item.is c.loop-name.invariant
    (Job Memory) bytes refl
    (subst (λ name. Reads g.H.Host c.loop-name.host (Some name) (Ok bytes) c.read_file.new.host) c.as_str.ensures.value
    c.in_ok-file.ensures.ok))

pub loop-name-preserved : goal.loop-name-preserved
loop-name-preserved g c =
    let bytes = c.in_ok-file.file.items in
    let all : map (λ file. file.items) c.push_file.new.files.items
    ≡ map (λ file. file.items) c.loop-name.files.items ++ bytes ∷ [] =
    ap (map (λ file. file.items)) c.in_ok-push_file.ensures.ok
    ∙ map-append (λ file. file.items) c.loop-name.files.items (c.in_ok-file.file ∷ []) in
    subst (λ (files : List _). ReadsAll g.H.Host c.args.host.now
    (map (λ name. Some (string_bytes name)) (take (c.loop-name.name-index + 1) c.args.names.now)) (Ok files)
    c.read_file.new.host) (sym all) (reads_more g.H.Host (λ name. Some (string_bytes name)) c.args.names.now
    c.loop-name.name-index c.name-item.result c.args.host.now c.loop-name.host c.read_file.new.host
    (map (λ file. file.items) c.loop-name.files.items) c.loop-name-test.true c.name-item.is c.loop-name.invariant bytes
    (subst (λ name. Reads g.H.Host c.loop-name.host (Some name) (Ok bytes) c.read_file.new.host) c.as_str.ensures.value
    c.in_ok-file.ensures.ok))
