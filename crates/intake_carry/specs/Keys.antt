-- The keys of holds: id, kind and reason.
use Rattle.std.specs.Prelude.{◌≡◌, List}
use Rattle.std.specs.List.{list_any}
use Rattle.std.specs.BTreeSet.{BTreeSet}
use Rattle.std.specs.Cmp.Lexicographic.{slice_cmp}
use Rattle.std.specs.Ordering.{nat_cmp, ordering_then}
use Rattle.std.specs.declared.cmp.Ordering.{Ordering}
use Rattle.terms.specs.declared.kinds.HoldKind.{HoldKind}
use Rattle.terms.specs.contracts.kinds.HoldKindOrd.TheImpl as kind_order
use Rattle.terms.specs.Types.{Id, Text, Hold}
use Rattle.terms.specs.Global.{has_key}
use Rattle.std.specs.BTreeSet as set

abbrev pub HoldKey : Type 0
HoldKey = Id × (HoldKind × Text)

-- by id, then kind, then reason
abbrev pub key_cmp : HoldKey → HoldKey → Ordering
key_cmp a b =
    ordering_then (slice_cmp nat_cmp a.0 b.0)
    (ordering_then (kind_order.ghosts.cmp a.1.0 b.1.0) (slice_cmp nat_cmp a.1.1 b.1.1))

-- The set has the keys of these holds, and no others.
abbrev pub AreKeysOf : BTreeSet HoldKey → List Hold → Type 0
AreKeysOf keys holds = (id : Id) (kind : HoldKind) (reason : Text)
    → set.contains key_cmp keys (id, (kind, reason)) ≡ list_any (has_key id kind reason) holds
