use Rattle.std.proofs.Common.{◌<◌, ◌++◌, ◌∷◌, ◌*◌, ◌^◌, length, length-append, arith, ap, ◌∙◌, sym}
use Rattle.terms.specs.Statement.{followed}
use Rattle.terms.proofs.Closings.{length_followed, list_text}
use Rattle.rec80.specs.Cursors.{rest_of}
use Rattle.rec80.proofs.scan.split_parens.Goals as goal

pub overflow_add-len : goal.overflow_add-len
overflow_add-len c =
    let small : length c.args.inside.now.line.now < 2 ^ 63 = omega arith in
    let few : length c.args.inside.now.later.now * 80 < 2 ^ 63 = omega arith in
    let within = length_followed c.args.inside.now.later.now in
    let sum = length-append c.args.inside.now.line.now (followed c.args.inside.now.later.now) in
    let step = ap length c.in-Some.ensures.text in
    omega (arith, c.loop-byte.invariant.count)

pub returns-then-not-inner-clause-text : goal.returns-then-not-inner-clause-text
returns-then-not-inner-clause-text c =
    list_text (rest_of c.args.inside.now) (rest_of c.loop-byte.at) (rest_of c.in-Some.next) c.loop-byte.inner
    c.in-Some.byte c.loop-byte.len c.loop-byte.invariant.same c.if-not-inner.true c.in-Some.ensures.text
    c.if-byte-eq41.true c.loop-byte.invariant.count ∙ ap (λ l. l ++ 41 ∷ rest_of c.in-Some.next)
    (sym c.text.ensures)
