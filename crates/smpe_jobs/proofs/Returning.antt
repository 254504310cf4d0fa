-- A connection over files whose disks came back shows what a crash may leave.
use Rattle.std.proofs.Common.{◌≡◌, ◌∙◌, IsTrue, arith, subst}
use Rattle.std.proofs.lemmas.Bool.{and_parts}
use Rattle.std.proofs.Math.Logic.{∥∥₁_map}
use Rattle.sqlite_disk.specs.declared.Disk.{Ghosts}
use Rattle.sqlite_disk.specs.declared.Files.{Files}
use Rattle.sqlite_wal.specs.Files.{outcomes}
use Rattle.sqlite_wal.specs.Reads.{AreClean}
use Rattle.sqlite_pool.proofs.StateLemmas.{clean_is, may_leave_is}
use Rattle.sqlite_store.specs.declared.store.FileStore.{FileStore}
use Rattle.sqlite_store.specs.FileStore.{view, faults, recovers, is_shielded, files}
use Rattle.sqlite_trees.proofs.Doubt.{no_doubt}
use Rattle.sqlite_trees.specs.View.{IsClean, IsQuiet}
use Rattle.sqlite.specs.Files.{Finds, IsOpened, file_state, image_of, over_files}
use Rattle.sqlite.specs.Held.{Held, AreDatabases}
use Rattle.sqlite.specs.Start.{FindsIn}
use Rattle.sqlite.specs.State.{HasCleanDisk}
use Rattle.sqlite.proofs.Theorems.{next_run}
use Rattle.store.specs.View.{ShowsLeft}

-- The connection was taken apart, which gave these files; their disks came back, and were opened.
pub record Returned {D : Type 0} (g : Ghosts D) (conn : Held (FileStore D g)) (left : FileStore D g)
    (given back : Files D) (again : Held (FileStore D g)) : Type 0 where
  pub numbered : IsClean (view left) → IsTrue (view left).is_numbered
  pub sound : IsClean (view left) → AreDatabases (recovers left)
  pub quiet : IsQuiet view faults recovers is_shielded conn.store left
  pub files_are : (given.log, given.db) ≡ files left
  pub log_left : g.may_leave given.log (g.seen back.log)
  pub db_left : g.may_leave given.db (g.seen back.db)
  pub log_clean : IsTrue (g.is_clean back.log) → IsTrue (g.is_clean given.log)
  pub db_clean : IsTrue (g.is_clean back.db) → IsTrue (g.is_clean given.db)
  pub found : Finds back again
  pub opened : IsOpened again

module _ {D : Type 0} {g : Ghosts D} {conn : Held (FileStore D g)} {left : FileStore D g} {given back : Files D}
    {again : Held (FileStore D g)} (it : Returned g conn left given back again)
  where
    given_clean : AreClean g given.log given.db
    given_clean =
        let both = and_parts (g.is_clean back.log) (g.is_clean back.db) it.found.honest in
        let log = it.log_clean both.0 in
        let db = it.db_clean both.1 in
        grind (arith, log, db)

    files_clean : AreClean g (files left).0 (files left).1
    files_clean = subst (λ p. AreClean g p.0 p.1) it.files_are given_clean

    store_clean : IsClean (view left)
    store_clean = no_doubt _ (clean_is left.pool ∙ files_clean)

    pub was_clean : HasCleanDisk (file_state conn)
    was_clean = let now = store_clean in let less = it.quiet.clean in omega (arith, now, less)

    pub shows_left : ShowsLeft over_files conn over_files again
    shows_left =
        let image = image_of g back in
        let may = subst (λ p. outcomes g p.0 p.1 image) it.files_are (it.log_left, it.db_left) in
        let finds : FindsIn image (file_state again) = record { holds = it.found.holds; reads = it.found.reads } in
        record {
          live = it.opened.1;
          is_open = it.opened.0.is_open;
          left = ∥∥₁_map (next_run left (it.numbered store_clean) (it.sound store_clean) image
              (may_leave_is left.pool image files_clean may) (file_state again) finds)
              (λ db. (was_clean, it.quiet.outcomes (file_state again).committed.trees db));
        }
