use Rattle.std.proofs.Common.{◌∙◌, sym}
use Rattle.mcs.specs.KnownWords.{own_list}
use Rattle.mcs.proofs.Ordering.{second_change}
use Rattle.mcs.proofs.order.is_duplicate.Goals as goal

pub returns-in-Some-one : goal.returns-in-Some-one
returns-in-Some-one c = λ rest h.
    second_change c.args.sysmod.now c.args.known.now.word (own_list c.args.known.now) rest c.in-Some.elem_type
    c.in-Some-one.name c.has_change.result (sym c.changed_type.ensures ∙ c.in-Some.is) c.in-Some-one.ensures.one
    c.has_change.ensures
