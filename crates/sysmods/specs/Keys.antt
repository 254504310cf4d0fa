-- The keys of holds, and their order.
use Rattle.std.specs.Prelude.{ℕ, List, []}
use Rattle.std.specs.Ordering.{nat_cmp, ordering_then}
use Rattle.std.specs.declared.cmp.Ordering.{Ordering}
use Rattle.std.specs.Cmp.{IsTotalOrder}
use Rattle.std.specs.Cmp.Lexicographic.{slice_cmp}
use Rattle.std.proofs.lemmas.Cmp.{then_total, on_total, nat_cmp_total, nat_list_cmp_total}
use Rattle.terms.specs.declared.kinds.HoldKind.{HoldKind}
use Rattle.std.specs.List.Sorted.{IsStrictlySortedBy}
use Rattle.std.specs.Map.{keys_of}
use Rattle.sysmods.specs.KeyedMaps.{KnowKeys}
use Rattle.terms.specs.Types as terms
use Rattle.sysmods.specs.declared.key.HoldPlace.{HoldPlace}
use Rattle.sysmods.specs.declared.key.HoldPlace.TheVariants.{First, At, Last}
use Rattle.sysmods.specs.declared.key.HoldKey.{HoldKey}

abbrev pub key_of : terms.Hold → HoldKey
key_of h = record { id = h.id; kind = h.kind; place = At h.reason }

-- the two ends come before and after all reasons
abbrev pub place_number : HoldPlace → ℕ
place_number First = 0
place_number (At reason) = 1
place_number Last = 2

abbrev pub place_text : HoldPlace → terms.Text
place_text First = []
place_text (At reason) = reason
place_text Last = []

abbrev pub place_cmp : HoldPlace → HoldPlace → Ordering
place_cmp a b = ordering_then (nat_cmp (place_number a) (place_number b))
    (slice_cmp nat_cmp (place_text a) (place_text b))

-- by id, then kind, then place
abbrev pub key_cmp : HoldKey → HoldKey → Ordering
key_cmp a b =
    ordering_then (slice_cmp nat_cmp a.id b.id)
    (ordering_then (nat_cmp (terms.hold_number a.kind) (terms.hold_number b.kind)) (place_cmp a.place b.place))

pub key_cmp_total : IsTotalOrder key_cmp
key_cmp_total =
    then_total (on_total (λ (k : HoldKey). k.id) nat_list_cmp_total)
    (then_total (on_total (λ (k : HoldKey). terms.hold_number k.kind) nat_cmp_total)
    (then_total (on_total (λ (k : HoldKey). place_number k.place) nat_cmp_total)
    (on_total (λ (k : HoldKey). place_text k.place) nat_list_cmp_total)))

-- before all holds of the id and kind, and after them
abbrev pub before_kind : terms.Id → HoldKind → HoldKey
before_kind x kind = record { id = x; kind = kind; place = First }

abbrev pub behind_kind : terms.Id → HoldKind → HoldKey
behind_kind x kind = record { id = x; kind = kind; place = Last }

-- the entries of the map: each hold has its key, and the keys rise
pub record IsByKey (es : List (HoldKey × terms.Hold)) : Type 0 where
  pub known : KnowKeys key_of es
  pub sorted : IsStrictlySortedBy key_cmp (keys_of es)
