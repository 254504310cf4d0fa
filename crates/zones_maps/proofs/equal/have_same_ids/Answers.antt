use Rattle.std.proofs.Common.{◌∙◌, sym}
use Rattle.std.proofs.lemmas.Slice.Eq.{slice_eq-Decides, bytes_eq-Decides}
use Rattle.zones_maps.proofs.equal.have_same_ids.Goals as goal

pub returns : goal.returns
returns c =
    let told = slice_eq-Decides bytes_eq-Decides c.as_slice.result.now c.as_slice-2.result.now c.eq.result
    c.eq.ensures in (
      λ h. sym c.as_slice.ensures.items ∙ told.0 h ∙ c.as_slice-2.ensures.items,
      λ h. told.1 (c.as_slice.ensures.items ∙ h ∙ sym c.as_slice-2.ensures.items),
    )
