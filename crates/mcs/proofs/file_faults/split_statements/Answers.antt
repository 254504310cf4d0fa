use Rattle.std.proofs.Common.{sym, subst}
use Rattle.terms.specs.Records.{HasRecords}
use Rattle.mcs.proofs.file_faults.split_statements.Goals as goal

pub returns-clause-ok : goal.returns-clause-ok
returns-clause-ok c =
    let k = c.in-Ok-groups.ensures.ok in
    (k.0, subst (HasRecords c.args.bytes.now) (sym k.1) c.in-Ok.ensures.ok)
