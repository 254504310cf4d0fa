-- Edits of the received SYSMODs.
use Rattle.std.specs.Prelude.{not, List, map, filter, if◌then◌else◌}
use Rattle.std.specs.Str.{bytes_eq}
use Rattle.terms.specs.Types.{Source, Id, Sysmod, Global}

-- the SYSMOD of the id has these sources
abbrev pub with_sources : Id → List Source → Global → Global
with_sources id sources global = record global {
  sysmods = map
      (λ (s : Sysmod). if bytes_eq s.id id then record s { sources = sources } else s) global.sysmods;
}

-- the global zone without the SYSMOD, but with all holds
abbrev pub less_sysmod : Id → Global → Global
less_sysmod id global = record global { sysmods = filter (λ s. not (bytes_eq s.id id)) global.sysmods }
