use Rattle.std.proofs.Common.{◌≡◌, ◌∙◌, [], ◌∷◌, ◌++◌, sym, ap, append_assoc}
use Rattle.terms.specs.Types.{Hold}
use Rattle.sysmods.proofs.Internal.{at_middle, first_at, none_at}
use Rattle.terms.proofs.Each.{recursion_append}
use Rattle.std.proofs.Common.{subst, All, false, Some}
use Rattle.std.specs.BTreeMap.{get}
use Rattle.sysmods.specs.Keys.{key_cmp}
use Rattle.sysmods.specs.declared.key.HoldKey.{HoldKey}
use Rattle.sysmods.proofs.holds.next_internal.Goals as goal

pub loop-key-init : goal.loop-key-init
loop-key-init c = (
  [],
  sym (c.range-key-items.ensures.between tt)
      ∙ sym c.into_iter-key-iterator.ensures.into_iter_gives,
  tt,
)

pub returns-then-hold : goal.returns-then-hold
returns-then-hold c =
    let front = c.loop-key.invariant.0 in
    let is = c.loop-key.invariant.1 ∙ ap (λ es. front ++ es) c.in-Some.ensures.steps in
    let found = at_middle (λ e. get key_cmp c.args.map.now e.0 ≡ Some e.1) front c.next.new.self
    (c.in-Some.key.now, c.in-Some.hold.now)
    (λ i d below. subst (λ es. All (λ e. get key_cmp c.args.map.now e.0 ≡ Some e.1) es)
    (c.range-key-items.ensures.between tt ∙ is) (λ i d below.
    ((c.range-key-items.ensures.in_range tt).0 i d below).1) i d below) in
    first_at c.args.map.now.entries c.requires c.args.from c.in-Some.key.now c.in-Some.hold.now front c.next.new.self is
    c.loop-key.invariant.2 found (ap (λ h. h.internal) (sym c.hold.view_is) ∙ c.if-hold.true)

pub loop-key-preserved : goal.loop-key-preserved
loop-key-preserved c =
    let front = c.loop-key.invariant.0 in
    let last : HoldKey × Hold = (c.in-Some.key.now, c.in-Some.hold.now) in (
      front ++ last ∷ [],
      c.loop-key.invariant.1 ∙ ap (λ es. front ++ es) c.in-Some.ensures.steps
          ∙ sym (append_assoc front (last ∷ []) c.next.new.self),
      recursion_append (λ e. e.1.internal ≡ false) front (last ∷ []) c.loop-key.invariant.2
          (ap (λ h. h.internal) (sym c.hold.view_is) ∙ c.if-hold.false, tt),
    )

pub returns : goal.returns
returns c =
    none_at c.args.map.now.entries c.args.from c.loop-key.invariant.0
    (c.loop-key.invariant.1 ∙ ap (λ es. c.loop-key.invariant.0 ++ es) c.in-None.ensures.steps.0)
    c.loop-key.invariant.2
