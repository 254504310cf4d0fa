-- The jobs that rehearse a package.
use Rattle.std.specs.Prelude.{◌≡◌, ◌⊎◌, ◌++◌, ℕ, List, [], find, codes, None, Some, Result, Ok, Err, IsTrue}
use Rattle.sqlite.specs.declared.error.Error.{Error}
use Rattle.sqlite.specs.Store.{Ghosts}
use Rattle.sqlite.specs.Held.{Held}
use Rattle.sqlite.specs.Files.{over_files}
use Rattle.sqlite.specs.Opening.{is_open_error}
use Rattle.sqlite_disk.specs.declared.Disk as disk
use Rattle.sqlite_store.specs.declared.store.FileStore.{FileStore}
use Rattle.terms.specs.Types.{Text, Global, Sysmod}
use Rattle.store_schema.specs.declared.error.StoreError.{StoreError}
use Rattle.store_schema.specs.Known.{told}
use Rattle.store.specs.Loads.{Loads}
use Rattle.mcs.specs.declared.file.Item.{Item}
use Rattle.mcs.specs.declared.hold_item.HoldItem.{HoldItem}
use Rattle.smpe_package.specs.Package.{AreRecords, is_free, package_command, package_sources, with_source}
use Rattle.smpe_jobs.specs.declared.error.JobError.TheVariants.{Memory}
use Rattle.smpe_jobs.specs.declared.messages.Fault.{Fault}
use Rattle.smpe_jobs.specs.declared.messages.Fault.TheVariants.{Job, NotCarried, NoSource}
use Rattle.smpe_jobs.specs.Errors.{job_error}
use Rattle.smpe_jobs.specs.ListJob.{two_records}
use Rattle.smpe_rehearsal.specs.declared.values.Prepared.{Prepared}
use Rattle.smpe_rehearsal.specs.declared.values.System.{System}
use Rattle.smpe_rehearsal.specs.declared.values.System.TheVariants.{Empty, Copied}
use Rattle.smpe_rehearsal.specs.Copied.{IsCopy}
use Rattle.smpe_rehearsal.specs.Opened.{IsStoreOver}
use Rattle.smpe_rehearsal.specs.ServiceSet.{Unmade, receive_records}

-- Nothing is made of the files, for this reason: they cannot be carried, or memory ran out.
abbrev pub IsNotCarried : Fault → Type 0
IsNotCarried (NotCarried lines) = Unit {0}
IsNotCarried (Job error) = error ≡ Memory
IsNotCarried _ = ⊥

-- the command file that asks about the package of this source in the zone
abbrev pub package_commands : Text → Text → List ℕ
package_commands zone x = two_records (codes "SET BDY(" ++ zone ++ codes ").") (package_command x)

-- The jobs receive these items, with a source that neither they nor these SYSMODs have, and ask about those of the
-- source in the zone. RECEIVE reads just these items and holds.
pub record IsPrepared (received : List Sysmod) (zone : Text) (items : List Item) (holds : List HoldItem) (p : Prepared)
    : Type 0 where
  pub source : find (λ x. is_free x items received) package_sources ≡ Some p.source
  pub receive : p.jobs.receive.items ≡ receive_records
  pub cntl : p.jobs.files.cntl.items ≡ package_commands zone p.source
  pub records : AreRecords (with_source p.source items) holds p.jobs.files.ptfin.items p.jobs.files.hold.items

-- They are made; or there is no such source; or memory ran out, or the records are not read back as the items.
abbrev pub PreparesBeside : List Sysmod → Text → List Item → List HoldItem → Result Prepared Fault → Type 0
PreparesBeside received zone items holds (Ok p) = IsPrepared received zone items holds p
PreparesBeside received zone items holds (Err fault) =
    ((fault ≡ NoSource) × (find (λ x. is_free x items received) package_sources ≡ None)) ⊎ IsNotCarried fault

-- The global zone was loaded over this connection, or was not, for this reason.
abbrev pub LoadsFrom : {S : Type 0} → Ghosts S → Held S → Result Global StoreError → Type 0
LoadsFrom {S} g conn r = ((why : StoreError) × Unmade g conn why × (r ≡ Err why))
    ⊎ ((begun after : Held S) × IsStoreOver g conn begun × Loads g begun after (λ i found. found ≡ i.global) r)

-- the zone in question
abbrev pub zone_of : System → Text
zone_of (Empty srel) = codes "TGT"
zone_of (Copied bytes zone) = zone

module _ {M : Type 0} (memory : disk.Ghosts M) where
  -- so over a copy in memory of files with these bytes, or the copy was not opened
  abbrev pub LoadsGlobal : List ℕ → List ℕ → Result Global StoreError → Type 0
  LoadsGlobal db log r = ((error : Error) × IsTrue (is_open_error error) × (r ≡ Err (told error)))
      ⊎ ((conn : Held (FileStore M memory)) × IsCopy db log conn × LoadsFrom over_files conn r)

  -- the global zone of the system: in an empty one nothing is received
  abbrev pub HasGlobal : System → Result Global StoreError → Type 0
  HasGlobal (Empty srel) (Ok g) = g.sysmods ≡ []
  HasGlobal (Empty srel) (Err why) = ⊥
  HasGlobal (Copied bytes zone) r = LoadsGlobal bytes.db.items bytes.log.items r

  -- The jobs are made for the system, or its global zone was not loaded.
  abbrev pub Prepares : System → List Item → List HoldItem → Result Prepared Fault → Type 0
  Prepares system items holds r =
      ((why : StoreError) × HasGlobal system (Err why) × (r ≡ Err (Job (job_error why))))
      ⊎ ((g : Global) × HasGlobal system (Ok g) × PreparesBeside g.sysmods (zone_of system) items holds r)
