use Rattle.std.proofs.Common.{map, rules}
use Rattle.std.proofs.lemmas.Iterator.{YieldsList-from_map, YieldsList-from_slice}
use Rattle.std.proofs.lemmas.Iterator.Adapters.{items_from_extend}
use Rattle.std.proofs.lemmas.Result.{on_ok_weaker}
use Rattle.judge_needs.proofs.Paired.{pairs_map}
use Rattle.judge_needs.proofs.bypassed.add_pairs.Goals as goal

pub returns : goal.returns
returns c =
    let x = c.args.id in
    let others = c.args.others.now in
    on_ok_weaker c.extend.result
    (λ gives. pairs_map x others c.args.pairs.now.items c.extend.new.self.items gives.0)
    (items_from_extend {all = map (λ z. (x, z)) others} c.extend.result c.extend.ensures.ran
    (YieldsList-from_map _ (λ z. (x, z)) (YieldsList-from_slice others cc) c.map.ensures.closure
    (λ y r q k. search rules)))
