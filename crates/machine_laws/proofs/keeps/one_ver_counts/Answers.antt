use Rattle.machine_laws.proofs.SingleVers.{one_counts, never_several_fit, first_installs, level_asks_applied}
use Rattle.machine_laws.proofs.keeps.one_ver_counts.Goals as goal

pub returns-clause-counts : goal.returns-clause-counts
returns-clause-counts c = one_counts

pub returns-clause-installs : goal.returns-clause-installs
returns-clause-installs c = first_installs

pub returns-clause-several : goal.returns-clause-several
returns-clause-several c = never_several_fit

pub returns-clause-returns : goal.returns-clause-returns
returns-clause-returns c = level_asks_applied
