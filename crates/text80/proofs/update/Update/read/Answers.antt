use Rattle.std.proofs.Common.{subst}
use Rattle.text80.specs.Updates.{StandsBefore}
use Rattle.text80.proofs.Splitting.{sound_from}
use Rattle.text80.proofs.update.Update.read.Goals as goal

pub invariant_of-result : goal.invariant_of-result
invariant_of-result c =
    sound_from c.args.name.now c.args.records.items c.in_ok-rest.rest.now c.in_ok-ranges.ranges.items
    (subst (λ r. StandsBefore c.args.name.now r c.in_ok-rest.rest.now) c.deref.ensures.value c.in_ok-rest.ensures.rest)
    c.in_ok-ranges.ensures.good
