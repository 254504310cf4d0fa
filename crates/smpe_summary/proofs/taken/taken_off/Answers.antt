use Rattle.std.proofs.Common.{[], ◌++◌, ◌∙◌, ap, arith, map, take_all}
use Rattle.sysmods.specs.Choices.{choice}
use Rattle.smpe_summary.specs.Todo.{taken_ids, taken_by, taken_off}
use Rattle.smpe_summary.specs.Views.{taken_view}
use Rattle.smpe_summary.proofs.Growing.{grown_more}
use Rattle.smpe_summary.proofs.taken.taken_off.Goals as goal

pub loop-id-preserved : goal.loop-id-preserved
loop-id-preserved c =
    let g = c.args.vers.now.global.now in
    let ch = choice c.args.vers.now in
    let id = c.id-item.result in
    let taken = c.in_ok-taken.taken.items in
    let old = map taken_view c.loop-id.found.items in
    grown_more (λ y. taken_by g y (taken_ids g ch c.args.zone.now y)) c.args.ids.now c.loop-id.id-index id [] old
    (map taken_view c.push_taken.new.found.items) (omega arith) c.id-item.is c.loop-id.invariant
    (c.in_ok-push_taken.ensures ∙ ap (λ l. old ++ l) (ap (λ h. taken_by h id taken) c.global.ensures
    ∙ ap (taken_by g id) c.in_ok-taken.ensures))

pub returns : goal.returns
returns c =
    c.loop-id.invariant
    ∙ ap (taken_off c.args.vers.now.global.now (choice c.args.vers.now) c.args.zone.now)
    (take_all c.loop-id.id-index c.args.ids.now (omega arith))
