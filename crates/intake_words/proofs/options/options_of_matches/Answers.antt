use Rattle.intake_words.proofs.Shapes.{own_handed_on}
use Rattle.intake_words.proofs.options.options_of_matches.Goals as goal

pub returns-in_err-out-clause-err : goal.returns-in_err-out-clause-err
returns-in_err-out-clause-err c = own_handed_on _ _ c.from_residual.ensures.1 c.in_err-out.ensures.err

pub returns-in_err-check_files-clause-err : goal.returns-in_err-check_files-clause-err
returns-in_err-check_files-clause-err c =
    own_handed_on _ _ c.from_residual-in_err-check_files.ensures.1 c.in_err-check_files.ensures.err

pub returns-in_err-syslibs-clause-err : goal.returns-in_err-syslibs-clause-err
returns-in_err-syslibs-clause-err c =
    own_handed_on _ _ c.from_residual-in_err-syslibs.ensures.1 c.in_err-syslibs.ensures

pub returns-in_err-layout-clause-err : goal.returns-in_err-layout-clause-err
returns-in_err-layout-clause-err c =
    own_handed_on _ _ c.from_residual-in_err-layout.ensures.1 c.in_err-layout.ensures.err

pub returns-in_err-code-clause-err : goal.returns-in_err-code-clause-err
returns-in_err-code-clause-err c =
    own_handed_on _ _ c.from_residual-in_err-code.ensures.1 c.in_err-code.ensures.err

pub returns-clause-ok : goal.returns-clause-ok
returns-clause-ok c = record {
  out = c.in_ok-out.ensures.ok;
  files = c.in_ok-files.ensures;
  cntl = c.in_ok-cntl.ensures;
  suits = rw c.deref.ensures.value at c.in_ok-check_files.ensures.ok;
  known = c.in_ok-known.ensures;
  relfile = c.in_ok-relfile.ensures;
  decide = c.has_flag.ensures;
  json = c.has_text.ensures;
  layout = c.in_ok-layout.ensures.ok;
  code = c.in_ok-code.ensures.ok;
}
