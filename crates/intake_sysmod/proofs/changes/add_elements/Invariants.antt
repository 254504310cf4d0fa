use Rattle.std.proofs.Common.{◌≡◌, take, IsTrue}
use Rattle.std.specs.Prelude.{All}
use Rattle.intake_sysmod.specs.Changed.{IsSaid}
use Rattle.intake_sysmod.specs.NoLooser.{IsElementDone}
use Rattle.intake_sysmod.proofs.changes.add_elements.Given as goal

abbrev pub invariant-loop-element : goal.invariant-loop-element
invariant-loop-element l = record {
  rest : l.sysmod ≡ record l.fn.sysmod { changes = l.sysmod.changes };
  done : IsTrue l.added_all → All (IsElementDone l.options.decide l.users l.stated l.sysmod.changes)
      (take l.element-index l.stated.elements.items);
  said : All (IsSaid l.options.decide l.stated.kind l.stated.elements.items) l.fn.sysmod.changes
      → All (IsSaid l.options.decide l.stated.kind l.stated.elements.items) l.sysmod.changes;
}
