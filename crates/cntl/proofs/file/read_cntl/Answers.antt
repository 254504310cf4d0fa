use Rattle.std.proofs.Common.{rules, ◌∙◌, sym, ap, subst, [], ◌∷◌, map}
use Rattle.std.proofs.lemmas.List.{map-append}
use Rattle.terms.specs.Commands.{BeginsWithCommands}
use Rattle.terms.proofs.CommandLines.{begins_more}
use Rattle.cntl.specs.Views.{command_of}
use Rattle.cntl.proofs.Exact.{good_file}
use Rattle.terms.proofs.ExactCommandFiles.{fault_no_file}
use Rattle.cntl.proofs.file.read_cntl.Goals as goal

pub loop-read-preserved : goal.loop-read-preserved
loop-read-preserved c =
    let t = rw c.in-Some.is at c.in_ok-command.ensures.command in
    let cs = map command_of c.loop-read.read.items in
    let new = c.read_next.new.left in
    let more = ap (map command_of) c.in_ok-push.ensures.items
    ∙ map-append command_of c.loop-read.read.items (c.in-Some.command ∷ []) in
    subst (λ l. BeginsWithCommands 1 c.commands-left.result.rest.now l new.number new.rest.now) (sym more)
    (begins_more 1 c.commands-left.result.rest.now cs c.loop-read.left.number new.number t.1 c.loop-read.left.rest.now
    new.rest.now t.0 (command_of c.in-Some.command) c.loop-read.invariant t.2 t.3)

pub returns-in_err-command-clause-good : goal.returns-in_err-command-clause-good
returns-in_err-command-clause-good c = good_file c.args.bytes.now c.from_residual.result (search rules)

pub returns-clause-faulty : goal.returns-clause-faulty
returns-clause-faulty c = λ fault f.
    fault_no_file c.args.bytes.now (map command_of c.loop-read.read.items) fault (search rules) f
