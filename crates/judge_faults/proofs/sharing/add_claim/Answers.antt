use Rattle.std.proofs.Common.{◌∙◌, sym}
use Rattle.std.specs.Prelude.{nat_eq}
use Rattle.std.proofs.lemmas.Bool.{and_parts, eqb-true}
use Rattle.indexmap.proofs.CallerLemmas.{Contains-list_any}
use Rattle.sysmods.specs.Choices.{choice}
use Rattle.judge_faults.specs.Rows.{is_among}
use Rattle.judge_faults.proofs.Marks.{taken_in, left_out}
use Rattle.judge_faults.proofs.sharing.add_claim.Goals as goal

pub returns-in_default-clause-taken : goal.returns-in_default-clause-taken
returns-in_default-clause-taken c claims before m =
    let claimants = c.args.claimants.now in
    let same = c.in_ok-place.ensures.same in
    let marked = c.mark_against_others.new.marked.keys in
    left_out c.args.overs.now.global.now (choice c.args.overs.now) claims claimants.chain.items claimants.others.items
    c.push.new.self.items claimants.are_marked c.is_marked_too-claimants.result before c.args.marked.now.keys c.mark_against.new.marked.keys
    marked c.args.claim.now c.in_ok-push.ensures.items
    (λ on.
    let place = c.args.claim.now.place in
    let parts = and_parts claimants.are_marked (is_among marked place) (sym c.is_marked_too-claimants.ensures ∙ on) in
    (parts.0, Contains-list_any nat_eq eqb-true marked place parts.1))
    (rw (c.as_slice-in_default.ensures.value, same) at c.in_ok-mark_against.ensures.marks)
    (rw (c.in_ok-mark_against.ensures.same ∙ same) at c.in_ok-mark_against_others.ensures.marks) m

pub returns-clause-taken : goal.returns-clause-taken
returns-clause-taken c claims before m =
    let claimants = c.args.claimants.now in
    let same = c.in_ok-place.ensures.same in
    taken_in c.args.overs.now.global.now (choice c.args.overs.now) claims claimants.chain.items c.insert.new.self.items
    claimants.others.items claimants.are_marked before c.args.marked.now.keys
    c.mark_against_others-2.new.marked.keys c.args.claim.now c.in-Some.place
    (rw (c.in-Some.is, c.as_slice.ensures.value) at c.in_ok-place.ensures.fits)
    c.in_ok-insert.ensures.items (rw same at c.in_ok-mark_against_others-2.ensures.marks) m
