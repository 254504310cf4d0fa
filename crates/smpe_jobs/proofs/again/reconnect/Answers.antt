use Rattle.smpe_jobs.proofs.Returning.{Returned, shows_left, was_clean}
use Rattle.smpe_jobs.proofs.again.reconnect.Goals as goal

pub returns-in-Ok-clause-shows : goal.returns-in-Ok-clause-shows
returns-in-Ok-clause-shows g c clean =
    let it : Returned g.D.Disk c.args.conn c.into_store.result c.close-files.result _ c.in-Ok.new_conn = record {
      numbered = c.into_store.ensures.numbered;
      sound = c.into_store.ensures.sound;
      quiet = c.into_store.ensures.quiet;
      files_are = c.close-files.ensures;
      log_left = c.crash.ensures.left;
      db_left = c.crash-2.ensures.left;
      log_clean = c.crash.ensures.clean;
      db_clean = c.crash-2.ensures.clean;
      found = c.in-Ok.ensures.found clean;
      opened = c.in-Ok.ensures.opened clean;
    } in (was_clean it, shows_left it)
