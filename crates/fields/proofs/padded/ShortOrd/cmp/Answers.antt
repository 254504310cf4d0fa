use Rattle.std.proofs.Common.{◌∙◌}
use Rattle.std.proofs.lemmas.List.Elements.{recursion_from_All}
use Rattle.fields.proofs.ShortOrder.{order_of_numbers}
use Rattle.fields.proofs.padded.ShortOrd.cmp.Goals as goal

pub returns-then-this-eq7 : goal.returns-then-this-eq7
returns-then-this-eq7 g c =
    let mine = c.number.ensures in
    let other = c.number-then-this-eq7.ensures in
    (rw (mine.same, other.same) at c.cmp.ensures) ∙ order_of_numbers c.args.self.now c.args.other.now mine.fits
    other.fits (recursion_from_All _ _ mine.bytes) (recursion_from_All _ _ other.bytes)
