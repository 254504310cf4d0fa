-- What is assumed about the files of a database.
use Rattle.std.specs.Prelude.{◌≡◌, false}
use Rattle.sqlite_disk.specs.declared.Disk.{Ghosts}
use Rattle.sqlite_store.specs.declared.store.FileStore.{FileStore}
use Rattle.sqlite.specs.Held.{Held}

-- After a crash, a write that was under way may have left any bytes, and not only old and new ones. So the connection
-- syncs each commit twice.
abbrev pub IsWary : {D : Type 0} {g : Ghosts D} → Held (FileStore D g) → Type 0
IsWary {D} {g} conn = (file : D) → g.is_mixing file ≡ false
