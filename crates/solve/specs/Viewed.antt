use Rattle.std.specs.Prelude.{map}
use Rattle.solve.specs.declared.system.System.TheInside.{Inside}
use Rattle.solve.specs.NeedView.{numbered}
use Rattle.solve.specs.System.{System}

abbrev pub system : Inside → System
system s = record { size = s.size; eligible = s.eligible.items; needs = map numbered s.needs.items }
