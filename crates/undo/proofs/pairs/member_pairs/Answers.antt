use Rattle.std.proofs.Common.{◌≡◌, filter, rules, tests}
use Rattle.std.proofs.lemmas.Fn.{filter_same}
use Rattle.std.proofs.lemmas.List.Filters.{dedup_is}
use Rattle.undo.specs.Pairs.{is_own}
use Rattle.undo.proofs.PairOrder.{pair_eq, own_are}
use Rattle.undo.proofs.pairs.member_pairs.Goals as goal

pub returns : goal.returns
returns c =
    let ids = c.args.ids.now in
    let sorted = c.sort_unstable.new.self.items in
    let kept : c.retain.new.self.items ≡ filter (is_own ids) c.args.pairs.items =
    filter_same _ _ _ (λ x b q k. search (rules, tests)) _ _ c.retain.ensures.filtered in
    rw (dedup_is pair_eq sorted c.dedup.new.self.items c.dedup.ensures.filtered)
    (own_are ids c.args.pairs.items c.retain.new.self.items sorted kept c.sort_unstable.ensures.permutation
    c.sort_unstable.ensures.sorted)
