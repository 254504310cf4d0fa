use Rattle.std.proofs.Common.{◌<◌, ◌*◌, ◌^◌, length, take, arith, ap, length-append}
use Rattle.std.proofs.lemmas.List.{length-take}
use Rattle.terms.specs.Statement.{followed}
use Rattle.terms.proofs.Closings.{length_followed}
use Rattle.rec80.specs.Cursors.{text_of}
use Rattle.rec80.proofs.Listing.{over_more, over_within}
use Rattle.rec80.proofs.lists.split_at_paren.Goals as goal

pub overflow_add-len : goal.overflow_add-len
overflow_add-len c =
    let t = c.args.inside.now in
    let small : length t.line.now < 2 ^ 63 = omega arith in
    let few : length t.later.now * 80 < 2 ^ 63 = omega arith in
    let within = length_followed t.later.now in
    let sum = length-append t.line.now (take t.more (followed t.later.now)) in
    let cut = length-take t.more (followed t.later.now) in
    let step = ap length c.in-Some.ensures in
    let over = over_within (text_of t) (text_of c.loop-byte.at) c.loop-byte.len c.loop-byte.invariant in
    omega arith

pub loop-byte-preserved : goal.loop-byte-preserved
loop-byte-preserved c = over_more _ (text_of c.loop-byte.at) (text_of c.in-Some.next) c.loop-byte.len c.in-Some.byte
    c.loop-byte.invariant c.in-Some.ensures c.if-byte-eq40.false c.if-byte-eq41.false
