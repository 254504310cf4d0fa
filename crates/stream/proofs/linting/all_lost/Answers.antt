use Rattle.std.proofs.Common.{Contains, sym, subst}
use Rattle.std.specs.Prelude.{◌↔◌}
use Rattle.terms.specs.Types.{Id}
use Rattle.terms.specs.Stream.{IsInStream}
use Rattle.sysmods.specs.declared.ver_choice.VerChoice.{VerChoice}
use Rattle.sysmods.specs.Choices.{choice}
use Rattle.stream.specs.declared.breaches.LostRequisite.{LostRequisite}
use Rattle.stream.specs.declared.breaches.LostElement.{LostElement}
use Rattle.stream.specs.Breaches.{IsLostRequisite, IsLostElement}
use Rattle.stream.proofs.linting.all_lost.Goals as goal

pub lost_requisites-requires-clause-ids : goal.lost_requisites-requires-clause-ids
lost_requisites-requires-clause-ids c =
    subst (λ (v : VerChoice). (x : Id) → Contains c.args.ids.now x ↔ IsInStream (choice v) x)
    (sym c.in_ok-suspects.ensures.vers) c.requires

pub lost_elements-requires-clause-ids : goal.lost_elements-requires-clause-ids
lost_elements-requires-clause-ids c =
    subst (λ (v : VerChoice). (x : Id) → Contains c.args.ids.now x ↔ IsInStream (choice v) x)
    (sym c.in_ok-suspects.ensures.vers) c.requires

pub returns-clause-requisites : goal.returns-clause-requisites
returns-clause-requisites c =
    subst (λ (v : VerChoice). (b : LostRequisite) → Contains c.in_ok-requisites.requisites.items b
    ↔ IsLostRequisite (choice v) b) c.in_ok-suspects.ensures.vers c.in_ok-requisites.ensures

pub returns-clause-elements : goal.returns-clause-elements
returns-clause-elements c =
    subst (λ (v : VerChoice). (b : LostElement) → Contains c.in_ok-elements.elements.items b
    ↔ IsLostElement v.global.now (choice v) b) c.in_ok-suspects.ensures.vers c.in_ok-elements.ensures
