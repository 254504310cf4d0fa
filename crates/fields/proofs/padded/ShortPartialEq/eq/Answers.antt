use Rattle.std.proofs.lemmas.List.Elements.{recursion_from_All}
use Rattle.fields.proofs.ShortOrder.{same_numbers}
use Rattle.fields.proofs.padded.ShortPartialEq.eq.Goals as goal

pub returns-then-this-eq7 : goal.returns-then-this-eq7
returns-then-this-eq7 g c =
    let mine = c.number.ensures in
    let other = c.number-then-this-eq7.ensures in
    rw (mine.same, other.same) (same_numbers c.args.self.now c.args.other.now mine.fits other.fits
    (recursion_from_All _ _ mine.bytes) (recursion_from_All _ _ other.bytes))
