use Rattle.std.proofs.Common.{◌∙◌, ◌++◌, [], ◌∷◌, Contains, length, sym, ap, subst, arith, true≢false}
use Rattle.std.proofs.lemmas.List.Elements.{Contains-append_right}
use Rattle.terms.proofs.Ids.{is_in_from_Contains, Contains_from_is_in}
use Rattle.terms.proofs.ListMembers.{here}
use Rattle.sysmods.specs.Choices.{choice}
use Rattle.terms.specs.Global.{IsGlobal}
use Rattle.stream.specs.Ordering.{IsPlacing}
use Rattle.stream.proofs.Placing.{placing_one, few}
use Rattle.stream.proofs.order.place_with_named.Goals as goal

pub loop-turn-init : goal.loop-turn-init
loop-turn-init c =
    let placed = c.args.placed.now.keys in
    let id = c.args.id in
    let items = c.in_ok-path.ensures.items in
    record {
      placing = subst (IsPlacing (choice c.args.vers.now) placed) (sym items)
          (placing_one c.args.vers.now placed id c.requires.order c.requires.stream (λ h.
          true≢false (sym (is_in_from_Contains placed id h) ∙ sym c.contains.ensures ∙ c.if-contains.false)));
      count = omega (arith, ap length items);
      kept = λ x h. h;
      all = subst (λ l. Contains (placed ++ l) id) (sym items)
          (Contains-append_right placed (id ∷ []) id (here id []));
    }

pub place_or_go_on-requires : goal.place_or_go_on-requires
place_or_go_on-requires c =
    subst (IsPlacing (choice c.args.vers.now) c.loop-turn.placed.keys) c.in-Some.ensures.last
    c.loop-turn.invariant.placing

pub loop-turn-preserved : goal.loop-turn-preserved
loop-turn-preserved c =
    let on = c.in_ok-place_or_go_on.ensures in
    let last = c.in-Some.ensures.last in
    record {
      placing = on.placing;
      count = omega (arith, on.one_more, c.loop-turn.invariant.count, ap length last);
      kept = λ x h. on.kept x (c.loop-turn.invariant.kept x h);
      all = on.all c.args.id (subst (λ l. Contains (c.loop-turn.placed.keys ++ l) c.args.id) last
          c.loop-turn.invariant.all);
    }

pub returns-then-contains-clause-placed : goal.returns-then-contains-clause-placed
returns-then-contains-clause-placed c =
    Contains_from_is_in c.args.placed.now.keys c.args.id (sym c.contains.ensures ∙ c.if-contains.true)

pub unreachable-requires : goal.unreachable-requires
unreachable-requires c =
    let short = few c.args.vers.now (subst IsGlobal c.global.ensures c.attest.ensures) c.loop-turn.placed.keys
    c.loop-turn.path.items c.loop-turn.invariant.placing in
    omega (arith, short, c.loop-turn.invariant.count, c.loop-turn-test.false)
