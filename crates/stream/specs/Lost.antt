-- What one SYSMOD lacks of another one.
use Rattle.std.specs.Prelude.{◌≡◌, ◌≢◌, ◌++◌, Contains, IsTrue, IsFalse}
use Rattle.terms.specs.Types.{Id, Ver, Change, Global}
use Rattle.terms.specs.Lookups.{has_change}
use Rattle.terms.specs.Choice.{Choice}
use Rattle.terms.specs.Stream.{IsInStream}
use Rattle.stream.specs.declared.breaches.Lack.{Lack}
use Rattle.stream.specs.declared.breaches.Lack.TheVariants.{Fmid, Pre, Sup}
use Rattle.stream.specs.declared.breaches.LostRequisite.{LostRequisite}
use Rattle.stream.specs.declared.breaches.LostElement.{LostElement}
use Rattle.stream.specs.Breaches.{Lacks}

-- the ++VER lacks this requisite of the other one
abbrev pub VerLacks : Ver → Ver → Lack → Type 0
VerLacks v w Fmid = v.fmid ≢ w.fmid
VerLacks v w (Pre z) = Contains w.pre z × ¬ Contains (v.pre ++ v.sup) z
VerLacks v w (Sup z) = Contains w.sup z × ¬ Contains v.sup z

abbrev pub a_lost_requisite : Id → Id → Lack → LostRequisite
a_lost_requisite x y lack = record { superseding = x; superseded = y; lack = lack }

abbrev pub a_lost_element : Id → Id → Change → LostElement
a_lost_element x y h = record { superseding = x; superseded = y; elem_type = h.elem_type; name = h.name }

-- a requisite of y that x lacks, if both are in the stream
abbrev pub IsLackOf : Choice → Id → Id → LostRequisite → Type 0
IsLackOf c x y b =
    IsInStream c x × IsInStream c y × (b.superseding ≡ x) × (b.superseded ≡ y) × Lacks c x y b.lack

-- the element of this statement of y, if x does not change it
abbrev pub IsLostStatement : Global → Id → Id → Change → LostElement → Type 0
IsLostStatement g x y h b = IsFalse (has_change g x h.elem_type h.name) × (b ≡ a_lost_element x y h)

-- an element that y changes and x does not, if y is in the stream
abbrev pub IsLossOf : Global → Choice → Id → Id → LostElement → Type 0
IsLossOf g c x y b =
    IsInStream c y × (b.superseding ≡ x) × (b.superseded ≡ y)
    × IsTrue (has_change g y b.elem_type b.name) × IsFalse (has_change g x b.elem_type b.name)
