-- The package: what a shop's files come to, and the command that asks about it.
use Rattle.std.specs.Prelude.{◌≡◌, ◌⊎◌, ◌&&◌, ◌↔◌, ℕ, Bool, true, false, not, List, [], ◌∷◌, ◌++◌, length, codes}
use Rattle.std.specs.Prelude.{Contains, map}
use Rattle.std.specs.List.{flat_map, list_any}
use Rattle.std.specs.Str.{bytes_eq}
use Rattle.terms.specs.Types.{Text, Id, Sysmod}
use Rattle.terms.specs.Lookups.{is_in, IsRising}
use Rattle.terms.specs.Ptfin.{IsPtfin}
use Rattle.terms.specs.HoldFile.{IsHoldFile}
use Rattle.mcs.specs.Files as ptfin
use Rattle.mcs.specs.HoldItems as hold
use Rattle.mcs.specs.declared.file.Item.{Item}
use Rattle.mcs.specs.declared.file.Item.TheVariants as item
use Rattle.mcs.specs.declared.hold_item.HoldItem.{HoldItem}
use Rattle.intake_read.specs.declared.items.WideFile.{WideFile}
use Rattle.intake_sysmod.specs.Users.{run_of}
use Rattle.intake_carry.specs.Unsure.{AreUnsure}
use Rattle.intake_carry.specs.declared.unsure.Unsure.{Unsure}
use Rattle.intake_service.specs.Carrying.{CarriesFiles, HasEachSysmod}
use Rattle.intake_service.specs.declared.carried.Carried.{Carried}
use Rattle.smpe_package.specs.declared.carried.Package.{Package}

-- With status 0, each SYSMOD that the files state is carried, and none of them meets one that is left out.
pub record HasStatus (files : List WideFile) (items : List Item) (unsure : List Unsure) (status : ℕ) : Type 0 where
  pub is : (status ≡ 0) ⊎ (status ≡ 4)
  pub each : status ≡ 0 → HasEachSysmod files items
  pub sure : status ≡ 0 → unsure ≡ []

abbrev pub HasStatusOf : Carried → ℕ → Type 0
HasStatusOf c status = HasStatus c.files.items c.narrowed.items.items c.narrowed.unsure.items status

-- the ids of a list, each once and in rising order
abbrev pub AreIds : List Id → List Id → Type 0
AreIds rising ids = IsRising rising × ((x : Id) → Contains rising x ↔ Contains ids x)

-- the id of the item, if it is a SYSMOD
abbrev pub id_of : Item → List Id
id_of (item.Sysmod s) = s.id ∷ []
id_of (item.Assign a) = []

-- So many files were read, and the package has what becomes of their statements, each hold of them included.
pub record IsPackage (given : ℕ) (p : Package) : Type 0 where
  pub files : List WideFile
  pub each : length files ≡ given
  pub carries : CarriesFiles true files p.items.items p.hold_items.items
  pub unsure : List Unsure
  pub are_unsure : AreUnsure (run_of files) p.items.items unsure
  pub unsure_ids : AreIds p.unsure (map (λ u. u.id) unsure)
  pub status : HasStatus files p.items.items unsure p.status

-- whether the SYSMOD has the source
abbrev pub has_source : Text → Sysmod → Bool
has_source x s = is_in s.sources x

-- whether the item gives the source to a SYSMOD
abbrev pub gives : Text → Item → Bool
gives x (item.Sysmod s) = has_source x s
gives x (item.Assign a) = bytes_eq a.source x

-- No item gives the source, and none of these SYSMODs has it.
abbrev pub is_free : Text → List Item → List Sysmod → Bool
is_free x items received = not (list_any (gives x) items) && not (list_any (has_source x) received)

-- the sources that are kept for checks
abbrev pub package_sources : List Text
package_sources = codes "CHECK$1" ∷ codes "CHECK$2" ∷ codes "CHECK$3" ∷ []

-- the source is assigned to the item, if it is a SYSMOD
abbrev pub assign_to : Text → Item → List Item
assign_to x (item.Sysmod s) = item.Assign (record { source = x; to = s.id ∷ [] }) ∷ []
assign_to x (item.Assign a) = []

-- The items, and the source is assigned to each SYSMOD among them.
abbrev pub with_source : Text → List Item → List Item
with_source x items = items ++ flat_map (assign_to x) items

-- the command that asks what APPLY would make of the SYSMODs of this source
abbrev pub package_command : Text → Text
package_command x =
    codes "APPLY SOURCEID(" ++ x ++ codes ") FUNCTIONS PTFS APARS USERMODS GROUPEXTEND CHECK."

-- RECEIVE reads just these items in the records of PTFIN, and just these holds and releases in those of the hold file.
abbrev pub AreRecords : List Item → List HoldItem → List ℕ → List ℕ → Type 0
AreRecords items holds in_ptfin in_hold =
    IsPtfin in_ptfin (ptfin.items items) × IsHoldFile in_hold (hold.items holds)
