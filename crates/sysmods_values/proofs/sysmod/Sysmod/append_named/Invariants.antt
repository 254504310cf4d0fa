use Rattle.std.proofs.Common.{◌≡◌, ◌++◌, filter, take}
use Rattle.std.specs.List.{flat_map}
use Rattle.std.specs.Str.{bytes_eq}
use Rattle.terms.specs.Global.{named}
use Rattle.sysmods_values.proofs.sysmod.Sysmod.append_named.Given as goal

abbrev pub invariant-loop-ver : goal.invariant-loop-ver
invariant-loop-ver l = l.found.items ≡ l.fn.found.items ++ flat_map named
    (filter (λ v. bytes_eq v.srel l.srel) (take l.ver-index l.ver-items))
