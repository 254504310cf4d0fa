-- What breaks the rules of a clean stream, and what `lint` returns.
use Rattle.std.specs.Prelude.{◌≡◌, ◌≢◌, ◌++◌, Contains, IsTrue, IsFalse}
use Rattle.terms.specs.Types.{Id, Global}
use Rattle.terms.specs.Lookups.{has_change}
use Rattle.terms.specs.Choice.{Choice, fmid_of, pre_of, sup_of}
use Rattle.terms.specs.Over.{IsOver, owner}
use Rattle.terms.specs.Stream.{IsInStream}
use Rattle.stream.specs.declared.breaches.Lack.{Lack}
use Rattle.stream.specs.declared.breaches.Lack.TheVariants.{Fmid, Pre, Sup}
use Rattle.stream.specs.declared.breaches.LostRequisite.{LostRequisite}
use Rattle.stream.specs.declared.breaches.LostElement.{LostElement}
use Rattle.stream.specs.declared.breaches.Unordered.{Unordered}

-- x lacks this requisite of y: it has another FMID, names this PRE of y neither in PRE nor in SUP, or does not name
-- this SUP of y in SUP
abbrev pub Lacks : Choice → Id → Id → Lack → Type 0
Lacks c x y Fmid = fmid_of c x ≢ fmid_of c y
Lacks c x y (Pre z) = Contains (pre_of c y) z × ¬ Contains (pre_of c x ++ sup_of c x) z
Lacks c x y (Sup z) = Contains (sup_of c y) z × ¬ Contains (sup_of c x) z

-- x names y in SUP, which is in the stream
abbrev pub SupersedesInStream : Choice → Id → Id → Type 0
SupersedesInStream c x y = IsInStream c y × Contains (sup_of c x) y

abbrev pub IsLostRequisite : Choice → LostRequisite → Type 0
IsLostRequisite c b = SupersedesInStream c b.superseding b.superseded × Lacks c b.superseding b.superseded b.lack

-- x does not change this element, which y changes
abbrev pub IsLostElement : Global → Choice → LostElement → Type 0
IsLostElement g c b =
    SupersedesInStream c b.superseding b.superseded
    × IsTrue (has_change g b.superseded b.elem_type b.name)
    × IsFalse (has_change g b.superseding b.elem_type b.name)

-- both are in the stream, have one owner and change the element, and neither is over the other
pub record IsUnordered (g : Global) (c : Choice) (u : Unordered) : Type 0 where
  pub one : IsInStream c u.one
  pub other : IsInStream c u.other
  pub apart : u.one ≢ u.other
  pub owner : owner g c u.one ≡ owner g c u.other
  pub by_one : IsTrue (has_change g u.one u.elem_type u.name)
  pub by_other : IsTrue (has_change g u.other u.elem_type u.name)
  pub not_over : ¬ IsOver c u.one u.other
  pub not_under : ¬ IsOver c u.other u.one
