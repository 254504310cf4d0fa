use Rattle.std.proofs.Common.{subst}
use Rattle.std.proofs.lemmas.List.{map-id}
use Rattle.terms.specs.Forms.{IsId, IsSource}
use Rattle.terms.specs.CommandForms.{HasShort}
use Rattle.std.proofs.lemmas.Result.{err_from_is_err_and}
use Rattle.rec80.proofs.Failing.{excludes_more}
use Rattle.cntl.proofs.forms.read_selection.Goals as goal

pub returns-in_err-functions-clause-bad : goal.returns-in_err-functions-clause-bad
returns-in_err-functions-clause-bad c =
    let p = err_from_is_err_and c.from_residual.result c.from_residual.ensures.1 in
    rw (p.1, p.2) (λ s. c.in_err-functions.ensures.bad s.0.functions s.1.functions)

pub returns-in_err-groupextend-clause-bad : goal.returns-in_err-groupextend-clause-bad
returns-in_err-groupextend-clause-bad c =
    let p = err_from_is_err_and c.from_residual-in_err-groupextend.result c.from_residual-in_err-groupextend.ensures.1
    in
    rw (p.1, p.2) (λ s. c.in_err-groupextend.ensures.bad s.0.groupextend s.1.groupextend)

pub returns-in_err-select-clause-bad : goal.returns-in_err-select-clause-bad
returns-in_err-select-clause-bad c =
    let p = err_from_is_err_and c.from_residual-in_err-select.result c.from_residual-in_err-select.ensures.1 in
    rw (p.1, p.2) (excludes_more c.in_err-select.field-0.0 _ _ (λ s. (s.0.select, s.1.select))
    c.in_err-select.ensures.bad)

pub returns-in_err-exclude-clause-bad : goal.returns-in_err-exclude-clause-bad
returns-in_err-exclude-clause-bad c =
    let p = err_from_is_err_and c.from_residual-in_err-exclude.result c.from_residual-in_err-exclude.ensures.1 in
    rw (p.1, p.2) (excludes_more c.in_err-exclude.field-0.0 _ _ (λ s. (s.0.exclude, s.1.exclude))
    c.in_err-exclude.ensures.bad)

pub returns-in_err-sourceid-clause-bad : goal.returns-in_err-sourceid-clause-bad
returns-in_err-sourceid-clause-bad c =
    let p = err_from_is_err_and c.from_residual-in_err-sourceid.result c.from_residual-in_err-sourceid.ensures.1 in
    rw (p.1, p.2) (excludes_more c.in_err-sourceid.field-0.0 _ _ (λ s. (s.0.sourceid, s.1.sourceid))
    c.in_err-sourceid.ensures.bad)

pub returns-in_err-forfmid-clause-bad : goal.returns-in_err-forfmid-clause-bad
returns-in_err-forfmid-clause-bad c =
    let p = err_from_is_err_and c.from_residual-in_err-forfmid.result c.from_residual-in_err-forfmid.ensures.1 in
    rw (p.1, p.2) (excludes_more c.in_err-forfmid.field-0.0 _ _ (λ s. (s.0.forfmid, s.1.forfmid))
    c.in_err-forfmid.ensures.bad)

pub returns-in_err-group-clause-bad : goal.returns-in_err-group-clause-bad
returns-in_err-group-clause-bad c =
    let p = err_from_is_err_and c.from_residual-in_err-group.result c.from_residual-in_err-group.ensures.1 in
    rw (p.1, p.2) (excludes_more c.in_err-group.field-0.0 _ _ (λ s. (s.0.group, s.1.group))
    c.in_err-group.ensures.bad)

pub returns-clause-ok : goal.returns-clause-ok
returns-clause-ok c = record {
  functions = c.in_ok-functions.ensures.ok;
  ptfs = c.in_ok-ptfs.ensures.ok;
  apars = c.in_ok-apars.ensures.ok;
  usermods = c.in_ok-usermods.ensures.ok;
  select = subst (HasShort IsId _) (map-id c.in_ok-select.select) c.in_ok-select.ensures.ok;
  exclude = subst (HasShort IsId _) (map-id c.in_ok-exclude.exclude) c.in_ok-exclude.ensures.ok;
  sourceid = subst (HasShort IsSource _) (map-id c.in_ok-sourceid.sourceid) c.in_ok-sourceid.ensures.ok;
  forfmid = subst (HasShort IsId _) (map-id c.in_ok-forfmid.forfmid) c.in_ok-forfmid.ensures.ok;
  group = subst (HasShort IsId _) (map-id c.in_ok-group.group) c.in_ok-group.ensures.ok;
  groupextend = c.in_ok-groupextend.ensures.ok;
}
