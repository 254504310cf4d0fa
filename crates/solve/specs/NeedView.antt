use Rattle.solve.specs.declared.system.Need.{Need as StoredNeed}
use Rattle.solve.specs.System.{Need}

-- a need, apart from where its list is in memory
abbrev pub numbered : StoredNeed → Need
numbered n = record { of = n.of; any = n.any.items }
