use Rattle.rec80.specs.Cursors.{text_of}
use Rattle.rec80.proofs.Listing.{skips_blank}
use Rattle.rec80.proofs.lists.skip_blanks.Goals as goal

pub loop-byte-preserved : goal.loop-byte-preserved
loop-byte-preserved c = λ after s. c.loop-byte.invariant after
    (skips_blank _ (text_of c.in-Some.next) after c.in-Some.byte c.in-Some.ensures c.if-byte-ne32.false s)
