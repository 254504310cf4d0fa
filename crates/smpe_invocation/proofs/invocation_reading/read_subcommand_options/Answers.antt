use Rattle.std.proofs.Common.{rules}
use Rattle.clap.specs.Words.{found_of, rows_of}
use Rattle.smpe_invocation.proofs.Meeting.{met_by, unmet_by}
use Rattle.smpe_invocation.proofs.invocation_reading.read_subcommand_options.Goals as goal

pub returns-then-eq-clause-ok : goal.returns-then-eq-clause-ok
returns-then-eq-clause-ok c =
    rw c.in-Some.is (met_by _ _ (rows_of (found_of c.in-Some.found.now)) (search rules)
    c.read_zone_options.result c.read_zone_options.ensures.ok)

pub returns-then-eq-clause-err : goal.returns-then-eq-clause-err
returns-then-eq-clause-err c =
    rw c.in-Some.is (unmet_by _ _ (rows_of (found_of c.in-Some.found.now)) (search rules)
    c.read_zone_options.result c.read_zone_options.ensures.err)

pub returns-then-eq-2-clause-ok : goal.returns-then-eq-2-clause-ok
returns-then-eq-2-clause-ok c =
    rw c.in-Some.is (met_by _ _ (rows_of (found_of c.in-Some.found.now)) (search rules)
    c.read_run_options.result c.read_run_options.ensures.ok)

pub returns-then-eq-2-clause-err : goal.returns-then-eq-2-clause-err
returns-then-eq-2-clause-err c =
    rw c.in-Some.is (unmet_by _ _ (rows_of (found_of c.in-Some.found.now)) (search rules)
    c.read_run_options.result c.read_run_options.ensures.err)

pub returns-then-eq-3-clause-ok : goal.returns-then-eq-3-clause-ok
returns-then-eq-3-clause-ok c =
    rw c.in-Some.is (met_by _ _ (rows_of (found_of c.in-Some.found.now)) (search rules)
    c.read_list_options.result c.read_list_options.ensures.ok)

pub returns-then-eq-3-clause-err : goal.returns-then-eq-3-clause-err
returns-then-eq-3-clause-err c =
    rw c.in-Some.is (unmet_by _ _ (rows_of (found_of c.in-Some.found.now)) (search rules)
    c.read_list_options.result c.read_list_options.ensures.err)

pub returns-then-eq-4-clause-ok : goal.returns-then-eq-4-clause-ok
returns-then-eq-4-clause-ok c =
    rw c.in-Some.is (met_by _ _ (rows_of (found_of c.in-Some.found.now)) (search rules)
    c.read_why_options.result c.read_why_options.ensures.ok)

pub returns-then-eq-4-clause-err : goal.returns-then-eq-4-clause-err
returns-then-eq-4-clause-err c =
    rw c.in-Some.is (unmet_by _ _ (rows_of (found_of c.in-Some.found.now)) (search rules)
    c.read_why_options.result c.read_why_options.ensures.err)

pub returns-then-eq-5-clause-ok : goal.returns-then-eq-5-clause-ok
returns-then-eq-5-clause-ok c =
    rw c.in-Some.is (met_by _ _ (rows_of (found_of c.in-Some.found.now)) (search rules)
    c.read_check_options.result c.read_check_options.ensures.ok)

pub returns-then-eq-5-clause-err : goal.returns-then-eq-5-clause-err
returns-then-eq-5-clause-err c =
    rw c.in-Some.is (unmet_by _ _ (rows_of (found_of c.in-Some.found.now)) (search rules)
    c.read_check_options.result c.read_check_options.ensures.err)

pub returns-then-eq-6-clause-ok : goal.returns-then-eq-6-clause-ok
returns-then-eq-6-clause-ok c =
    rw c.in-Some.is (met_by _ _ (rows_of (found_of c.in-Some.found.now)) (search rules)
    c.read_mend_options.result c.read_mend_options.ensures.ok)

pub returns-then-eq-6-clause-err : goal.returns-then-eq-6-clause-err
returns-then-eq-6-clause-err c =
    rw c.in-Some.is (unmet_by _ _ (rows_of (found_of c.in-Some.found.now)) (search rules)
    c.read_mend_options.result c.read_mend_options.ensures.err)

pub returns-then-eq-7-clause-ok : goal.returns-then-eq-7-clause-ok
returns-then-eq-7-clause-ok c =
    rw c.in-Some.is (met_by _ _ (rows_of (found_of c.in-Some.found.now)) (search rules)
    c.read_lint_options.result c.read_lint_options.ensures.ok)

pub returns-then-eq-7-clause-err : goal.returns-then-eq-7-clause-err
returns-then-eq-7-clause-err c =
    rw c.in-Some.is (unmet_by _ _ (rows_of (found_of c.in-Some.found.now)) (search rules)
    c.read_lint_options.result c.read_lint_options.ensures.err)

pub returns-then-eq-8-clause-ok : goal.returns-then-eq-8-clause-ok
returns-then-eq-8-clause-ok c =
    rw c.in-Some.is (met_by _ _ (rows_of (found_of c.in-Some.found.now)) (search rules)
    c.read_migrate_options.result c.read_migrate_options.ensures.ok)

pub returns-then-eq-8-clause-err : goal.returns-then-eq-8-clause-err
returns-then-eq-8-clause-err c =
    rw c.in-Some.is (unmet_by _ _ (rows_of (found_of c.in-Some.found.now)) (search rules)
    c.read_migrate_options.result c.read_migrate_options.ensures.err)

pub returns-then-eq-9-clause-ok : goal.returns-then-eq-9-clause-ok
returns-then-eq-9-clause-ok c =
    rw c.in-Some.is (met_by _ _ (rows_of (found_of c.in-Some.found.now)) (search rules)
    c.read_verify_options.result c.read_verify_options.ensures.ok)

pub returns-then-eq-9-clause-err : goal.returns-then-eq-9-clause-err
returns-then-eq-9-clause-err c =
    rw c.in-Some.is (unmet_by _ _ (rows_of (found_of c.in-Some.found.now)) (search rules)
    c.read_verify_options.result c.read_verify_options.ensures.err)
