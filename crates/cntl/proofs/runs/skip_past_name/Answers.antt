use Rattle.std.proofs.Common.{sym, subst, ◌∙◌}
use Rattle.terms.specs.Statement.{BeginsNoWord}
use Rattle.rec80.specs.Cursors.{text_of}
use Rattle.cntl.proofs.Walking.{name_ends}
use Rattle.cntl.proofs.runs.skip_past_name.Goals as goal

pub returns-then-ends_before-clause-found : goal.returns-then-ends_before-clause-found
returns-then-ends_before-clause-found c = λ some.
    let name = c.args.name.now in
    let i = c.loop-byte.invariant some in
    let is = rw c.in-Some.is at c.next_byte.ensures in
    i.2 ∙ name_ends name some c.loop-byte.state i.0 (text_of c.loop-byte.rest)
    (c.ends_before.ensures.whole c.if-ends_before.true name i.0 i.1)
    (c.ends_before.ensures.outer c.if-ends_before.true)
    (subst BeginsNoWord (sym is) (c.ends_before.ensures.stops c.if-ends_before.true))
