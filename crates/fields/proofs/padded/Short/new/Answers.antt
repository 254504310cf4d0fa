use Rattle.fields.proofs.PaddedTexts.{IsPadded_copied}
use Rattle.fields.proofs.padded.Short.new.Goals as goal

pub invariant_of-result : goal.invariant_of-result
invariant_of-result g c =
    rw c.copy_from_slice.ensures.after (IsPadded_copied g.row.N c.args.text.now c.requires.fits)
