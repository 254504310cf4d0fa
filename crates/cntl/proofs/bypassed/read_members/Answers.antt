use Rattle.std.proofs.lemmas.Result.{err_from_is_err_and}
use Rattle.rec80.proofs.Failing.{excludes_more}
use Rattle.cntl.proofs.bypassed.read_members.Goals as goal

pub returns-in_err-member_flag-5-clause-bad : goal.returns-in_err-member_flag-5-clause-bad
returns-in_err-member_flag-5-clause-bad c = λ ms h.
    let p = err_from_is_err_and c.from_residual-in_err-member_flag-5.result
    c.from_residual-in_err-member_flag-5.ensures.1 in
    rw (p.1, p.2) (λ s. c.in_err-member_flag-5.ensures.bad ms h s.0.applycheck s.1.applycheck)

pub returns-in_err-read_reasons-clause-bad : goal.returns-in_err-read_reasons-clause-bad
returns-in_err-read_reasons-clause-bad c = λ ms h.
    let p = err_from_is_err_and c.from_residual-in_err-read_reasons.result
    c.from_residual-in_err-read_reasons.ensures.1 in
    rw (p.1, p.2) (excludes_more c.in_err-read_reasons.field-0.0 _ _ (λ s. (s.0.holderror, s.1.holderror))
    (c.in_err-read_reasons.ensures.bad ms h))

pub returns-in_err-read_reasons-2-clause-bad : goal.returns-in_err-read_reasons-2-clause-bad
returns-in_err-read_reasons-2-clause-bad c = λ ms h.
    let p = err_from_is_err_and c.from_residual-in_err-read_reasons-2.result
    c.from_residual-in_err-read_reasons-2.ensures.1 in
    rw (p.1, p.2) (excludes_more c.in_err-read_reasons-2.field-0.0 _ _ (λ s. (s.0.holdsystem, s.1.holdsystem))
    (c.in_err-read_reasons-2.ensures.bad ms h))

pub returns-in_err-read_reasons-3-clause-bad : goal.returns-in_err-read_reasons-3-clause-bad
returns-in_err-read_reasons-3-clause-bad c = λ ms h.
    let p = err_from_is_err_and c.from_residual-in_err-read_reasons-3.result
    c.from_residual-in_err-read_reasons-3.ensures.1 in
    rw (p.1, p.2) (excludes_more c.in_err-read_reasons-3.field-0.0 _ _ (λ s. (s.0.holduser, s.1.holduser))
    (c.in_err-read_reasons-3.ensures.bad ms h))

pub returns-in_err-read_classes-clause-bad : goal.returns-in_err-read_classes-clause-bad
returns-in_err-read_classes-clause-bad c = λ ms h.
    let p = err_from_is_err_and c.from_residual-in_err-read_classes.result
    c.from_residual-in_err-read_classes.ensures.1 in
    rw (p.1, p.2) (excludes_more c.in_err-read_classes.field-0.0 _ _ (λ s. (s.0.holdclass, s.1.holdclass))
    (c.in_err-read_classes.ensures.bad ms h))
