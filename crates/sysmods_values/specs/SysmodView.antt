-- A SYSMOD as the definitions see it.
use Rattle.terms.specs.Types as terms
use Rattle.sysmods_values.specs.declared.sysmod.Sysmod.TheInside.{Inside}

abbrev pub sysmod_of : Inside → terms.Sysmod
sysmod_of a = record {
  id = a.id;
  kind = a.kind;
  sources = a.sources;
  vers = a.vers.items;
  changes = a.changes.items;
  holds = a.holds.items;
}
