use Rattle.std.proofs.Common.{◌∙◌, Contains, take, take_all, sym, subst, arith}
use Rattle.std.proofs.lemmas.List.Elements.{Contains-get_or}
use Rattle.sysmods.specs.Choices.{choice}
use Rattle.stream.specs.Comparing.{IsCompared}
use Rattle.stream.proofs.Comparing.{compared_none, claims_before, claims_next, all_claims, all_compared}
use Rattle.stream.proofs.unordered.unordered_pairs.Goals as goal

pub loop-id-init : goal.loop-id-init
loop-id-init c = record {
  same = c.new-overs.ensures;
  compared = compared_none c.args.vers.now.global.now (choice c.args.vers.now) c.new-last.result
      c.new-found.result.items c.new-last.ensures.empty c.new-found.ensures.items;
}

pub loop-id-preserved : goal.loop-id-preserved
loop-id-preserved c =
    let g = c.args.vers.now.global.now in
    let by = choice c.args.vers.now in
    let ids = c.args.ids.now in
    let i = c.loop-id.id-index in
    let x = c.id-item.result in
    let same = c.loop-id.invariant.same in
    let there = c.requires.stream x (subst (Contains ids) (sym c.id-item.is) (Contains-get_or ids i x (omega arith))) in
    record {
      same = c.in_ok-compare_changes.ensures.same ∙ same;
      compared = subst (λ l. IsCompared g by l c.compare_changes.new.last c.compare_changes.new.found.items)
          (claims_next g by ids i x (omega arith) c.id-item.is)
          ((rw same at c.in_ok-compare_changes.ensures.compared) (all_claims g by (take i ids)) there
          (claims_before g by ids i x c.requires (omega arith) c.id-item.is) c.loop-id.invariant.compared);
    }

pub returns-clause-pairs : goal.returns-clause-pairs
returns-clause-pairs c = c.loop-id.invariant.compared.sound

pub returns-clause-none : goal.returns-clause-none
returns-clause-none c =
    let g = c.args.vers.now.global.now in
    let by = choice c.args.vers.now in
    let ids = c.args.ids.now in
    all_compared g by ids c.loop-id.last c.loop-id.found.items
    (subst (λ l. IsCompared g by (all_claims g by l) c.loop-id.last c.loop-id.found.items)
    (take_all c.loop-id.id-index ids (omega arith)) c.loop-id.invariant.compared)
