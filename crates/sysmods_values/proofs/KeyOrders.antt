-- The orders of keys are those by which the definitions order what stands under them.
use Rattle.std.proofs.Common.{◌≡◌, ◌↔◌, ◌∙◌, List, get_or, refl, sym, ap}
use Rattle.std.specs.declared.cmp.Ordering.{Ordering}
use Rattle.std.specs.Ordering.{is_lt, nat_cmp, ordering_then}
use Rattle.std.specs.Cmp.Lexicographic.{slice_cmp}
use Rattle.terms.specs.declared.kinds.HoldKind.{HoldKind}
use Rattle.terms.specs.declared.kinds.HoldKind.TheVariants.{Error, System, User}
use Rattle.terms.specs.contracts.kinds.HoldKindOrd.TheImpl as kind_order
use Rattle.terms.specs.Types.{Text, Id, Hold, hold_number}
use Rattle.terms.specs.Rising.{Rises}
use Rattle.terms.specs.Global.{hold_cmp}

-- what `cmp` of two kinds answers
cmp_kinds : (a b : HoldKind) → kind_order.ghosts.cmp a b ≡ nat_cmp (hold_number a) (hold_number b)
cmp_kinds Error Error = refl
cmp_kinds System Error = refl
cmp_kinds User Error = refl
cmp_kinds a b = refl

-- by id, then kind, then reason
abbrev pub hold_key_cmp : Id × (HoldKind × Text) → Id × (HoldKind × Text) → Ordering
hold_key_cmp a b =
    ordering_then (slice_cmp nat_cmp a.0 b.0)
    (ordering_then (kind_order.ghosts.cmp a.1.0 b.1.0) (slice_cmp nat_cmp a.1.1 b.1.1))

abbrev pub hold_key : Hold → Id × (HoldKind × Text)
hold_key h = (h.id, (h.kind, h.reason))

cmp_holds : (a b : Hold) → hold_key_cmp (hold_key a) (hold_key b) ≡ hold_cmp a b
cmp_holds a b =
    ap (λ o. ordering_then (slice_cmp nat_cmp a.id b.id) (ordering_then o (slice_cmp nat_cmp a.reason b.reason)))
    (cmp_kinds a.kind b.kind)

pub holds_rise : (hs : List Hold) → Rises hold_key_cmp hold_key hs ↔ Rises hold_cmp (λ h. h) hs
holds_rise hs = (
  λ rises i j d less within. ap is_lt (sym (cmp_holds (get_or hs i d) (get_or hs j d))) ∙ rises i j d less within,
  λ rises i j d less within. ap is_lt (cmp_holds (get_or hs i d) (get_or hs j d)) ∙ rises i j d less within,
)
