use Rattle.std.proofs.Common.{◌∙◌, true, subst}
use Rattle.std.proofs.lemmas.Result.{err_from_is_err_and}
use Rattle.rec80.specs.Views.{words_of}
use Rattle.cntl.proofs.Formed.{of_reject, of_apply, of_accept, of_restore, of_report}
use Rattle.rec80.proofs.Failing.{excludes_more}
use Rattle.cntl.specs.Singles.{AreSingle}
use Rattle.cntl.proofs.forms.read_operands.Goals as goal

pub returns-in_err-required_ids-in-Reject-clause-bad : goal.returns-in_err-required_ids-in-Reject-clause-bad
returns-in_err-required_ids-in-Reject-clause-bad c =
    let p = err_from_is_err_and c.from_residual-in_err-required_ids-in-Reject.result
    c.from_residual-in_err-required_ids-in-Reject.ensures.1 in
    rw (p.1, p.2) (excludes_more c.in_err-required_ids-in-Reject.field-0.0 _ _
    (λ x. of_reject (words_of c.args.words.now) x.0 (x.1.0 ∙ c.in-Reject.is) x.1.1)
    c.in_err-required_ids-in-Reject.ensures.bad)

pub returns-in_err-read_install-in-Apply-clause-bad : goal.returns-in_err-read_install-in-Apply-clause-bad
returns-in_err-read_install-in-Apply-clause-bad c =
    let p = err_from_is_err_and c.from_residual-in_err-read_install-in-Apply.result
    c.from_residual-in_err-read_install-in-Apply.ensures.1 in
    rw (p.1, p.2) (excludes_more c.in_err-read_install-in-Apply.field-0.0 _ _
    (λ x. of_apply (words_of c.args.words.now) x.0 (x.1.0 ∙ c.in-Apply.is) x.1.1)
    c.in_err-read_install-in-Apply.ensures.bad)

pub returns-in_err-read_install-in-Accept-clause-bad : goal.returns-in_err-read_install-in-Accept-clause-bad
returns-in_err-read_install-in-Accept-clause-bad c =
    let p = err_from_is_err_and c.from_residual-in_err-read_install-in-Accept.result
    c.from_residual-in_err-read_install-in-Accept.ensures.1 in
    rw (p.1, p.2) (excludes_more c.in_err-read_install-in-Accept.field-0.0 _ _
    (λ x. of_accept (words_of c.args.words.now) x.0 (x.1.0 ∙ c.in-Accept.is) x.1.1)
    c.in_err-read_install-in-Accept.ensures.bad)

pub returns-in_ok-required_ids-in-Reject-clause-ok : goal.returns-in_ok-required_ids-in-Reject-clause-ok
returns-in_ok-required_ids-in-Reject-clause-ok c = λ single. c.in_ok-required_ids-in-Reject.ensures.ok

pub returns-in_ok-read_install-in-Apply-clause-ok : goal.returns-in_ok-read_install-in-Apply-clause-ok
returns-in_ok-read_install-in-Apply-clause-ok c = λ single.
    c.in_ok-read_install-in-Apply.ensures.ok (subst (λ w. AreSingle w (words_of c.args.words.now)) c.in-Apply.is single)

pub returns-in_ok-read_install-in-Accept-clause-ok : goal.returns-in_ok-read_install-in-Accept-clause-ok
returns-in_ok-read_install-in-Accept-clause-ok c = λ single.
    c.in_ok-read_install-in-Accept.ensures.ok
    (subst (λ w. AreSingle w (words_of c.args.words.now)) c.in-Accept.is single)

pub returns-in_err-flag_of-in-Report-clause-bad : goal.returns-in_err-flag_of-in-Report-clause-bad
returns-in_err-flag_of-in-Report-clause-bad c =
    let p = err_from_is_err_and c.from_residual-in_err-flag_of-in-Report.result
    c.from_residual-in_err-flag_of-in-Report.ensures.1 in
    rw (p.1, p.2) (λ x. c.in_err-flag_of-in-Report.ensures.bad true
    (of_report (words_of c.args.words.now) x.0 (x.1.0 ∙ c.in-Report.is) x.1.1))

pub returns-in_err-read_restore_list-in-Restore-clause-bad : goal.returns-in_err-read_restore_list-in-Restore-clause-bad
returns-in_err-read_restore_list-in-Restore-clause-bad c =
    let p = err_from_is_err_and c.from_residual-in_err-read_restore_list-in-Restore.result
    c.from_residual-in_err-read_restore_list-in-Restore.ensures.1 in
    rw (p.1, p.2) (excludes_more c.in_err-read_restore_list-in-Restore.field-0.0 _ _
    (λ x. of_restore (words_of c.args.words.now) x.0 (x.1.0 ∙ c.in-Restore.is) x.1.1)
    c.in_err-read_restore_list-in-Restore.ensures.bad)

pub returns-in_ok-flag_of-in-Restore-clause-ok : goal.returns-in_ok-flag_of-in-Restore-clause-ok
returns-in_ok-flag_of-in-Restore-clause-ok c = λ single.
    (c.in_ok-read_restore_list-in-Restore.ensures.ok, c.in_ok-flag_of-in-Restore.ensures.ok)
