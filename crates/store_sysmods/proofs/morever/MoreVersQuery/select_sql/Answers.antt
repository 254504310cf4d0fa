use Rattle.store_sysmods.proofs.Selects.{more_vers}
use Rattle.store_sysmods.proofs.Exact.{exact_more_ver}
use Rattle.store_sysmods.proofs.morever.MoreVersQuery.select_sql.Goals as goal

pub returns : goal.returns
returns c = record {
  reads = more_vers.reads;
  there = more_vers.there;
  selects = more_vers.selects;
  exact = exact_more_ver;
}
