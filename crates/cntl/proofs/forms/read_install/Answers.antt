use Rattle.std.proofs.lemmas.Result.{err_from_is_err_and}
use Rattle.rec80.proofs.Failing.{excludes_more}
use Rattle.cntl.proofs.forms.read_install.Goals as goal

pub returns-in_err-selection-clause-bad : goal.returns-in_err-selection-clause-bad
returns-in_err-selection-clause-bad c =
    let p = err_from_is_err_and c.from_residual-in_err-selection.result c.from_residual-in_err-selection.ensures.1 in
    rw (p.1, p.2) (excludes_more c.in_err-selection.field-0.0 _ _ (λ i. (i.0.selection, i.1.selection))
    c.in_err-selection.ensures.bad)

pub returns-in_err-bypass-clause-bad : goal.returns-in_err-bypass-clause-bad
returns-in_err-bypass-clause-bad c =
    let p = err_from_is_err_and c.from_residual-in_err-bypass.result c.from_residual-in_err-bypass.ensures.1 in
    rw (p.1, p.2) (excludes_more c.in_err-bypass.field-0.0 _ _ (λ i. (i.0.bypass, i.1.bypass))
    c.in_err-bypass.ensures.bad)

pub returns-clause-ok : goal.returns-clause-ok
returns-clause-ok c = λ single. record {
  selection = c.in_ok-selection.ensures.ok;
  bypass = c.in_ok-bypass.ensures.ok single;
  check = c.in_ok-check.ensures.ok;
}
