-- Elements as keys of lists.
use Rattle.std.specs.declared.cmp.Ordering.{Ordering}
use Rattle.std.specs.Ordering.{nat_cmp, ordering_then}
use Rattle.std.specs.Cmp.Lexicographic.{slice_cmp}
use Rattle.terms.specs.declared.kinds.ElemType.{ElemType}
use Rattle.terms.specs.contracts.kinds.ElemTypeOrd.TheImpl as type_order
use Rattle.terms.specs.Types.{Text}

-- the type and the name of an element
abbrev pub Key : Type 0
Key = ElemType × Text

-- their derived order
abbrev pub key_cmp : Key → Key → Ordering
key_cmp a b = ordering_then (type_order.ghosts.cmp a.0 b.0) (slice_cmp nat_cmp a.1 b.1)
