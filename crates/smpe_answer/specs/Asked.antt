-- A package that was received, and the command that is asked about.
use Rattle.std.specs.Prelude.{◌≡◌, ℕ, true, List, [], ◌∷◌, Option, None, Some, Vec}
use Rattle.std.specs.declared.alloc.Global.{Global as AnyGlobal}
use Rattle.terms.specs.CommandForms.{no_bypass}
use Rattle.terms.specs.Types.{Text, Id, Global, Zone, Selection}
use Rattle.machine.specs.Installing.{InstallsSelected}
use Rattle.machine.specs.Outcome.{Line}
use Rattle.smpe_certificate.specs.Certified.{IsCertified}
use Rattle.smpe_certificate.specs.Facts.{Input}
use Rattle.smpe_why.specs.declared.found.LoadedZones.{LoadedZones}

-- a package: the name of the zone in question, the source of its SYSMODs, their ids, those of them of which it is not
-- sure that they can be installed, its remarks, with the status that they bring, and how many holds were read beside its
-- SYSMODs
pub record PackageFacts : Type 0 where
  pub zone : Text
  pub source : Text
  pub ids : List Id
  pub unsure : List Id
  pub remarks : Text
  pub status : ℕ
  pub holds_read : ℕ

-- SOURCEID(x) FUNCTIONS PTFS APARS USERMODS GROUPEXTEND
abbrev pub package_selection : Text → Selection
package_selection x = record {
  functions = true;
  ptfs = true;
  apars = true;
  usermods = true;
  select = [];
  exclude = [];
  sourceid = x ∷ [];
  forfmid = [];
  group = [];
  groupextend = true;
}

-- These are the lines of an APPLY of the SYSMODs of this source, in a distribution zone of an ACCEPT, on any date.
abbrev pub AreLinesOf : Global → Zone → Option Zone → Text → List Line → Type 0
AreLinesOf g zone related x lines = (date : Text) × (new : Zone)
    × InstallsSelected g zone related (package_selection x) no_bypass date new lines

-- It is the text of a certificate of that, or there is no such zone.
abbrev pub HasCertificate : LoadedZones → Text → List Input → Option (Vec ℕ AnyGlobal) → Type 0
HasCertificate found x inputs None = found.zone ≡ None
HasCertificate found x inputs (Some text) = (zone : Zone) × (found.zone ≡ Some zone)
    × IsCertified found.global zone found.related (package_selection x) no_bypass inputs text.items
