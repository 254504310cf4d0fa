-- Edits of elements: some are removed, and some are put.
use Rattle.std.specs.Prelude.{◌≡◌, List, [], fold, if◌then◌else◌}
use Rattle.sorted.specs.declared.edits.Edit.TheVariants.{Put, Remove}
use Rattle.terms.specs.Types.{Id, Element}
use Rattle.terms.specs.Lookups.{element_cmp, element_key}
use Rattle.terms.specs.Rising.{with_item}
use Rattle.sorted.specs.Edits.{edit_key}
use Rattle.terms.specs.Install.{Installation}
use Rattle.sysmods.specs.declared.ver_choice.VerChoice.{VerChoice}
use Rattle.sysmods.specs.Choices.{choice}
use Rattle.change.specs.declared.deleting.Deleting.{Deleting}
use Rattle.zones.specs.Gone.{is_cut}
use Rattle.change.specs.Elements.{IsInstallOf, AreElementsAfter}
use Rattle.zones_maps.specs.Differing.{ElementEdit}

-- the edits with an element put
abbrev pub with_element : List ElementEdit → Element → List ElementEdit
with_element edits e = with_item element_cmp (edit_key element_key) edits (Put e)

-- with these put
abbrev pub with_elements : List ElementEdit → List Element → List ElementEdit
with_elements edits es = fold with_element edits es

-- with an element removed, if its owner's chain contains one of the deletions
abbrev pub less_element : Deleting → List ElementEdit → Element → List ElementEdit
less_element d edits e =
    if is_cut d.left e.fmid then with_item element_cmp (edit_key element_key) edits (Remove (element_key e)) else edits

abbrev pub less_elements : Deleting → List ElementEdit → List Element → List ElementEdit
less_elements d edits es = fold (less_element d) edits es

-- Elements are removed whose owner is deleted, and then those are put that these SYSMODs change, by these ++VERs, as
-- they are once all of them have taken effect.
pub record AreElementEdits (d : Deleting) (vers : VerChoice) (effective : List Id) (edits : List ElementEdit) : Type 0
  where
    pub elements : List Element
    pub after : (i : Installation)
        → IsInstallOf i vers.global.now (choice vers) d.left.zone.now d.left.dels.now effective
        → AreElementsAfter i elements
    pub edits_are : edits ≡ with_elements (less_elements d [] d.left.zone.now.elements) elements
