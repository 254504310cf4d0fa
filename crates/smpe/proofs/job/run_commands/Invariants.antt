use Rattle.std.proofs.Common.{◌≡◌, false, map, take, Ok}
use Rattle.sqlite.specs.Held.{state}
use Rattle.sqlite.specs.State.{HasCleanDisk}
use Rattle.machine.specs.State.{State}
use Rattle.cntl.specs.Views.{command_of}
use Rattle.smpe_session.specs.Sessions.{IsSessionOf}
use Rattle.store.specs.Kept.{Keeps}
use Rattle.machine.specs.Machine.{Perform}
use Rattle.smpe.specs.Commands.{EndsCommands}
use Rattle.smpe.specs.Going.{GoesCommands}
use Rattle.store.specs.CallEnds.{Follows}
use Rattle.smpe.proofs.job.run_commands.Given as goal

abbrev pub invariant-loop-command : goal.invariant-loop-command
invariant-loop-command g l = record {
  follows : Follows g.S.Store l.fn.store l.store;
  ran : HasCleanDisk (state g.S.Store l.store) → (s : State) → IsSessionOf s l.fn.session → Keeps g.S.Store l.fn.store s
      →
      EndsCommands g.S.Store l.fn.store l.store s l.session l.fn.input.date l.fn.input.files (map command_of
      (take l.command-index
      l.commands))
      (g.W.Sink.taken l.fn.w) (g.W.Sink.taken l.w) (Ok l.code);
  goes : GoesCommands g.S.Store (l.fn.store, l.fn.session.boundary) (l.store, l.session.boundary)
      (map (Perform l.fn.input.date l.fn.input.files) (map command_of (take l.command-index l.commands)))
      (g.W.Sink.taken l.fn.w) (g.W.Sink.taken l.w) (Ok l.code);
  sound : g.W.Sink.has_failed l.fn.w ≡ false → g.W.Sink.has_failed l.w ≡ false;
}
