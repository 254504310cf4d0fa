-- The ways in which a SYSMOD names an id.
use Rattle.std.specs.Prelude.{Bool}
use Rattle.std.specs.List.{list_any}
use Rattle.terms.specs.Types.{Id, Sysmod}
use Rattle.terms.specs.Lookups.{is_in}
use Rattle.terms.specs.Global.{named, named_functions}
use Rattle.sysmods.specs.declared.ways.Way.{Way}
use Rattle.sysmods.specs.declared.ways.Way.TheVariants.{Named, Superseded, AsFunction}

-- whether one of its ++VERs names the id so: in PRE, SUP or FMID; in SUP; in DELETE, FMID or an ++IF
abbrev pub names_so : Way → Id → Sysmod → Bool
names_so Named z s = list_any (λ v. is_in (named v) z) s.vers
names_so Superseded z s = list_any (λ v. is_in v.sup z) s.vers
names_so AsFunction z s = list_any (λ v. is_in (named_functions v) z) s.vers
