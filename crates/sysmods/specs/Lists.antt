-- Changes of the list of all holds.
use Rattle.std.specs.Prelude.{List, Option, find, fold, ◌&&◌, ◌==◌, Bool}
use Rattle.std.specs.Str.{bytes_eq}
use Rattle.terms.specs.declared.kinds.HoldKind.{HoldKind}
use Rattle.terms.specs.Types.{Text, Id, Hold, hold_number}
use Rattle.terms.specs.Global.{has_key, hold_cmp, marked}
use Rattle.terms.specs.Rising.{with_item}

-- the hold of this key
abbrev pub held : List Hold → Id → HoldKind → Text → Option Hold
held holds x kind reason = find (has_key x kind reason) holds

-- The hold takes its place by its key. It replaces a hold of this key, whose mark as internal stays.
abbrev pub with_hold : List Hold → Hold → List Hold
with_hold holds h = with_item hold_cmp (λ o. o) holds (marked (held holds h.id h.kind h.reason) h)

-- one after another
abbrev pub with_holds : List Hold → List Hold → List Hold
with_holds holds hs = fold with_hold holds hs

-- a hold of this kind on the id
abbrev pub is_on : Id → HoldKind → Hold → Bool
is_on x kind h = bytes_eq h.id x && (hold_number h.kind == hold_number kind)

-- an internal hold on the id
abbrev pub is_internal_on : Id → Hold → Bool
is_internal_on x h = h.internal && bytes_eq h.id x
