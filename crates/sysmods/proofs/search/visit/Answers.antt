use Rattle.sysmods.proofs.Going.{search_next}
use Rattle.sysmods.proofs.search.visit.Goals as goal

pub returns : goal.returns
returns g c = λ x. search_next _ x _ _ _ _ c.requires (rw c.as_slice.ensures.keys at c.index-as_slice-place.is)
    c.in_ok-see_named.ensures
