use Rattle.std.proofs.Common.{◌∙◌, sym, ap}
use Rattle.std.proofs.lemmas.Slice.Eq.{slice_eq-Decides, bytes_eq-Decides}
use Rattle.terms.specs.Types.{Element}
use Rattle.zones_maps.proofs.equal.have_same_text.Goals as goal

pub returns : goal.returns
returns c =
    let left = c.as_slice.ensures.value ∙ ap (λ (e : Element). e.text) c.a.view_is in
    let right = c.as_slice-2.ensures.value ∙ ap (λ (e : Element). e.text) c.b.view_is in
    let told = slice_eq-Decides bytes_eq-Decides c.as_slice.result.now c.as_slice-2.result.now c.eq.result
    c.eq.ensures in (λ h. sym left ∙ told.0 h ∙ right, λ h. told.1 (left ∙ h ∙ sym right))
