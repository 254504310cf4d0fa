use Rattle.std.proofs.Common.{◌∙◌, ◌++◌, None, Some, ap}
use Rattle.terms.specs.Needs.{unwaived}
use Rattle.zones.proofs.Requisites.{binding_of_ver}
use Rattle.zones.proofs.binding.binding_ids.Goals as goal

pub returns-in_default : goal.returns-in_default
returns-in_default c = c.new.ensures.items ∙ binding_of_ver c.args.left.now c.args.id None c.in_default.ensures

pub returns : goal.returns
returns c =
    let left = c.args.left.now in
    c.in_ok-push_unwaived.ensures
    ∙ ap (λ ids. ids ++ unwaived left.zone.now c.args.id c.as_slice.result.now) c.new-ids.ensures.items
    ∙ ap (unwaived left.zone.now c.args.id) (c.as_slice.ensures.value ∙ c.in_ok-asked.ensures)
    ∙ binding_of_ver left c.args.id (Some c.in-Some.ver.now) c.in-Some.ensures
