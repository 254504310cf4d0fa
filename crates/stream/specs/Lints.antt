-- What `lint` returns.
use Rattle.std.specs.Prelude.{◌≡◌, ◌↔◌, [], All, Contains}
use Rattle.terms.specs.Types.{Srel, Global}
use Rattle.terms.specs.Choice.{Choice}
use Rattle.terms.specs.Stream.{IsOrdered, ver_for}
use Rattle.stream.specs.declared.breaches.LostRequisite.{LostRequisite}
use Rattle.stream.specs.declared.breaches.LostElement.{LostElement}
use Rattle.stream.specs.declared.linting.Findings.{Findings}
use Rattle.stream.specs.Breaches.{IsLostRequisite, IsLostElement, IsUnordered}

-- They have exactly the requisites and the elements that are lost. The unordered pairs are some, if there are any.
pub record TellBreaches (g : Global) (c : Choice) (found : Findings) : Type 0 where
  pub requisites : (b : LostRequisite) → Contains found.requisites.items b ↔ IsLostRequisite c b
  pub elements : (b : LostElement) → Contains found.elements.items b ↔ IsLostElement g c b
  pub unordered : All (IsUnordered g c) found.unordered.items
  pub ordered : (found.unordered.items ≡ []) ↔ IsOrdered g c

-- by the first ++VER of each SYSMOD for the SREL
abbrev pub AreFindings : Global → Srel → Findings → Type 0
AreFindings g srel found = TellBreaches g (ver_for g srel) found
