use Rattle.smpe_rehearsal.proofs.memory_files.open_files.Goals as goal

pub returns-in-Ok-clause-ok : goal.returns-in-Ok-clause-ok
returns-in-Ok-clause-ok c = record {
  fresh = c.in-Ok.ensures.fresh;
  opened = c.in-Ok.ensures.opened;
  found = λ clean. let found = c.in-Ok.ensures.found clean in record { holds = found.holds; reads = found.reads };
}
