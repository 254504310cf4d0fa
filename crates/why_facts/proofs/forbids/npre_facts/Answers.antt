use Rattle.std.proofs.Common.{◌∙◌, ◌++◌, map, filter, ap, arith, sym, take, take_all}
use Rattle.terms.specs.Lookups.{is_in, is_applied}
use Rattle.terms.specs.Choice.{npre_of}
use Rattle.terms.specs.Over.{chain}
use Rattle.terms.specs.Deleted.{deletions}
use Rattle.terms.specs.Tests.{view_of}
use Rattle.report.specs.Facts.{NpreFact, ForbiddenFact, forbids}
use Rattle.judge_needs.proofs.Stating.{applied_left}
use Rattle.why_facts.specs.Asking.{setting_in}
use Rattle.why_facts.proofs.Forbidding.{functions_forbid}
use Rattle.why_facts.proofs.forbids.npre_facts.Goals as goal

pub returns : goal.returns
returns c =
    let s = setting_in c.args.asking.now in
    let x = c.args.asking.now.id in
    c.loop-by.invariant
    ∙ ap (λ l. l ++ map ForbiddenFact (take c.loop-by.by-index c.as_slice-by-items.result.now)) (c.loop-id.invariant
    ∙ ap (map (λ y. NpreFact y (is_applied (view_of s x) y)))
    (take_all c.loop-id.id-index c.npre-named.result.now (omega arith) ∙ c.npre-named.ensures))
    ∙ ap (λ l. map (λ y. NpreFact y (is_applied (view_of s x) y)) (npre_of s.choice x) ++ map ForbiddenFact l)
    (take_all c.loop-by.by-index c.as_slice-by-items.result.now (omega arith) ∙ c.as_slice-by-items.ensures.value
    ∙ c.in_ok-forbidding.ensures
    ∙ ap (λ l. filter (forbids s x) (filter (is_applied (view_of s x)) l)) c.args.asking.now.functions_is
    ∙ functions_forbid s x (is_applied (view_of s x)) c.args.asking.now.applied.now
    ∙ ap (λ l. filter (forbids s x) (filter (is_applied (view_of s x)) l)) c.args.asking.now.applied_is
    ∙ ap (filter (forbids s x)) (sym (applied_left s.global s.choice
    (deletions s.choice (filter (is_in s.cands) (chain s.global s.choice x))) s.zone c.args.asking.now.zone_is)))
