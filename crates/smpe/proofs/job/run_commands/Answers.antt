use Rattle.std.proofs.Common.{◌∷◌, [], ◌+◌, map, take, drop, ◌++◌, sym, subst, max, Ok, arith, rules}
use Rattle.std.proofs.lemmas.List.{take_all}
use Rattle.cntl.specs.Views.{command_of}
use Rattle.smpe_jobs.specs.Ending.{EndsEarly}
use Rattle.machine.specs.Machine.{Perform}
use Rattle.smpe.specs.Commands.{EndsCommands}
use Rattle.smpe.specs.Going.{GoesCommands, GoesEarly}
use Rattle.store.proofs.GoingCalls.{follows_itself, follows_on}
use Rattle.smpe.proofs.Taken.{taken_more, taken_split}
use Rattle.smpe.proofs.Commanding.{commands_err, commands_more, commands_stop, commands_early}
use Rattle.smpe.proofs.Going.{placed, goes_none, commands_passed, early_commands, goes_early}
use Rattle.smpe.proofs.job.run_commands.Goals as goal

pub loop-command-init : goal.loop-command-init
loop-command-init g c = record {
  follows = follows_itself g.S.Store c.args.store.now;
  ran = search rules;
  goes = goes_none g.S.Store (c.args.store.now, c.args.session.now.boundary) (g.W.Sink.taken c.args.w.now);
  sound = search rules;
}

pub loop-command-preserved : goal.loop-command-preserved
loop-command-preserved g c = record {
  follows = follows_on g.S.Store c.args.store.now c.loop-command.store c.run_command.new.store
      c.loop-command.invariant.follows c.run_command.ensures.follows;
  ran = λ clean s is keeps.
      let done = map command_of (take c.loop-command.command-index c.args.commands.now) in
      let old = g.W.Sink.taken c.args.w.now in
      let new = g.W.Sink.taken c.run_command.new.w in
      let code = c.max-code.ensures in
      rw code (subst (λ cs. EndsCommands g.S.Store c.args.store.now c.run_command.new.store s c.run_command.new.session
      c.args.input.now.date
      c.args.input.now.files cs old new (Ok (max c.loop-command.code c.in_ok-next.next)))
      (sym (taken_more command_of c.args.commands.now c.loop-command.command-index c.command-item.result
      c.loop-command-test.true c.command-item.is))
      (commands_more g.S.Store c.args.input.now.date c.args.input.now.files s c.args.store.now c.loop-command.store
      c.run_command.new.store
      c.loop-command.session c.run_command.new.session
      done (command_of c.command-item.result ∷ []) old (g.W.Sink.taken c.loop-command.w) new c.loop-command.code
      c.in_ok-next.next
      (c.loop-command.invariant.ran (c.run_command.ensures.follows.clean clean) s is keeps)
      (λ t at stands. c.in_ok-next.ensures.ends clean t at stands)));
  goes =
      let done = map command_of (take c.loop-command.command-index c.args.commands.now) in
      let perform = Perform c.args.input.now.date c.args.input.now.files in
      let old = g.W.Sink.taken c.args.w.now in
      let new = g.W.Sink.taken c.run_command.new.w in
      let code = c.max-code.ensures in
      let begun = placed c.args.store.now c.args.session.now.boundary in
      let mid = placed c.loop-command.store c.loop-command.session.boundary in
      let at = placed c.run_command.new.store c.run_command.new.session.boundary in
      rw code (subst (λ cs. GoesCommands g.S.Store begun at (map perform cs) old new
      (Ok (max c.loop-command.code c.in_ok-next.next)))
      (sym (taken_more command_of c.args.commands.now c.loop-command.command-index c.command-item.result
      c.loop-command-test.true c.command-item.is))
      (commands_passed g.S.Store c.args.input.now.date c.args.input.now.files begun mid at done (command_of c.command-item.result ∷ []) old (g.W.Sink.taken c.loop-command.w) new
      c.loop-command.code c.loop-command.invariant.goes c.in_ok-next.next c.in_ok-next.ensures.goes));
  sound = λ none. c.in_ok-next.ensures.fault (c.loop-command.invariant.sound none);
}

pub returns-in_err-next-clause-ends : goal.returns-in_err-next-clause-ends
returns-in_err-next-clause-ends g c clean s is keeps =
    let done = map command_of (take c.loop-command.command-index c.args.commands.now) in
    let rest = map command_of (drop (c.loop-command.command-index + 1) c.args.commands.now) in
    let old = g.W.Sink.taken c.args.w.now in
    let new = g.W.Sink.taken c.run_command.new.w in
    let at = c.run_command.new.store in
    let error = c.in_err-next.field-0.0 in
    commands_err g.S.Store c.args.input.now.date c.args.input.now.files c.args.store.now at s c.run_command.new.session
    (map command_of c.args.commands.now) old new c.from_residual.result error c.from_residual.ensures.1
    (subst (λ cs. EndsEarly g.S.Store c.args.store.now at s (map (Perform c.args.input.now.date c.args.input.now.files)
    cs) old new
    error)
    (sym (taken_split command_of c.args.commands.now c.loop-command.command-index c.command-item.result
    c.loop-command-test.true c.command-item.is))
    (commands_early g.S.Store c.args.input.now.date c.args.input.now.files c.args.store.now at s (done ++ command_of
    c.command-item.result ∷ []) rest old
    new error
    (commands_stop g.S.Store c.args.input.now.date c.args.input.now.files s c.args.store.now c.loop-command.store at
    c.loop-command.session
    c.run_command.new.session
    done (command_of c.command-item.result ∷ []) old (g.W.Sink.taken c.loop-command.w) new c.loop-command.code error
    (c.loop-command.invariant.follows.faults, c.loop-command.invariant.follows.limit)
    (c.loop-command.invariant.ran (c.run_command.ensures.follows.clean clean) s is keeps)
    (λ t session stands. c.in_err-next.ensures.ends clean t session stands))))

pub returns-in_err-next-clause-goes : goal.returns-in_err-next-clause-goes
returns-in_err-next-clause-goes g c =
    let done = map command_of (take c.loop-command.command-index c.args.commands.now) in
    let rest = map command_of (drop (c.loop-command.command-index + 1) c.args.commands.now) in
    let next = command_of c.command-item.result ∷ [] in
    let perform = Perform c.args.input.now.date c.args.input.now.files in
    let old = g.W.Sink.taken c.args.w.now in
    let new = g.W.Sink.taken c.run_command.new.w in
    let begun = placed c.args.store.now c.args.session.now.boundary in
    let mid = placed c.loop-command.store c.loop-command.session.boundary in
    let at = placed c.run_command.new.store c.run_command.new.session.boundary in
    let error = c.in_err-next.field-0.0 in
    goes_early g.S.Store begun at (map perform (map command_of c.args.commands.now)) old new
    c.from_residual.result error c.from_residual.ensures.1
    (subst (λ cs. GoesEarly g.S.Store begun at.0 (map perform cs) old new error)
    (sym (taken_split command_of c.args.commands.now c.loop-command.command-index c.command-item.result
    c.loop-command-test.true c.command-item.is))
    (early_commands g.S.Store c.args.input.now.date c.args.input.now.files begun mid at done next old
    (g.W.Sink.taken c.loop-command.w) new c.loop-command.code c.loop-command.invariant.goes rest error
    c.in_err-next.ensures.goes))

pub returns-clause-goes : goal.returns-clause-goes
returns-clause-goes g c =
    subst (λ cs. GoesCommands g.S.Store (c.args.store.now, c.args.session.now.boundary)
    (c.loop-command.store, c.loop-command.session.boundary)
    (map (Perform c.args.input.now.date c.args.input.now.files) (map command_of cs)) (g.W.Sink.taken c.args.w.now)
    (g.W.Sink.taken c.loop-command.w) (Ok c.loop-command.code))
    (take_all c.loop-command.command-index c.args.commands.now (omega (arith, c.loop-command-test.false)))
    c.loop-command.invariant.goes

pub returns-clause-ends : goal.returns-clause-ends
returns-clause-ends g c clean s is keeps =
    subst (λ cs. EndsCommands g.S.Store c.args.store.now c.loop-command.store s c.loop-command.session
    c.args.input.now.date
    c.args.input.now.files (map command_of cs) (g.W.Sink.taken c.args.w.now) (g.W.Sink.taken c.loop-command.w)
    (Ok c.loop-command.code))
    (take_all c.loop-command.command-index c.args.commands.now (omega (arith, c.loop-command-test.false)))
    (c.loop-command.invariant.ran clean s is keeps)
