use Rattle.solve.specs.declared.growth.Rule.{Rule as RustRule}
use Rattle.solve.specs.Least.{Rule}

-- a rule, apart from where its list is in memory
abbrev pub as_rule : RustRule → Rule
as_rule r = record { these = r.these.items; that = r.that }
