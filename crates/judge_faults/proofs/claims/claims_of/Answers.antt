use Rattle.std.proofs.Common.{◌≡◌, ◌∙◌, ◌++◌, ◌+◌, ap, map, length, refl, rules, arith, subst, sym, take_all}
use Rattle.std.proofs.lemmas.List.Sorted.{answers_always}
use Rattle.std.proofs.lemmas.Option.{slice_get_read}
use Rattle.terms.specs.Lookups.{change_key}
use Rattle.judge_faults.specs.Claims.{a_claim, AreClaims}
use Rattle.judge_faults.proofs.Claimed.{claims_more, claims_skip, claims_moved, sorted_grouped}
use Rattle.judge_faults.proofs.claims.claims_of.Goals as goal

pub loop-i-preserved-then-not-passes : goal.loop-i-preserved-then-not-passes
loop-i-preserved-then-not-passes c =
    claims_skip c.args.global.now c.args.ids.now c.args.faults.now c.loop-i.i c.item_at.result
    c.loop-i.claims.items
    c.item_at.ensures (sym c.passes.ensures ∙ c.if-not-passes.true) c.loop-i.invariant

pub loop-i-preserved : goal.loop-i-preserved
loop-i-preserved c =
    let g = c.args.global.now in
    let ids = c.args.ids.now in
    let faults = c.args.faults.now in
    let i = c.loop-i.i in
    let id = c.index-ids-i.result in
    let old = c.loop-i.claims.items in
    subst (AreClaims g ids faults (i + 1)) (sym (c.loop-change.invariant
    ∙ ap (λ hs. old ++ map (λ h. a_claim (change_key h) id i) hs)
    (take_all c.loop-change.change-index c.changes_of-changes.result.now (omega arith) ∙ c.changes_of-changes.ensures)))
    (claims_more g ids faults i id c.item_at.result old
    (slice_get_read ids (length ids) i id refl (omega arith) c.index-ids-i.is) c.item_at.ensures
    (sym c.passes.ensures ∙ c.if-not-passes.false) c.loop-i.invariant)

pub returns-clause-are : goal.returns-clause-are
returns-clause-are c =
    let g = c.args.global.now in
    let ids = c.args.ids.now in
    let faults = c.args.faults.now in
    let done : c.loop-i.i ≡ length ids = omega arith in
    claims_moved g ids faults (length ids) c.loop-i.claims.items c.sort_by_key.new.self.items
    c.in_ok-sort_by_key.ensures.permutation
    (subst (λ n. AreClaims g ids faults n c.loop-i.claims.items) done c.loop-i.invariant)

pub returns-clause-grouped : goal.returns-clause-grouped
returns-clause-grouped c =
    sorted_grouped c.sort_by_key.new.self.items
    (c.in_ok-sort_by_key.ensures.sorted (λ v. v.element) (answers_always _ _ _ (λ f a r h q. search rules)))
