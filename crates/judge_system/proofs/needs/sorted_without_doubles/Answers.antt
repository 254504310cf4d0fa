use Rattle.std.proofs.lemmas.List.Filters.{dedup_is}
use Rattle.judge_system.proofs.EachKind.{need_eq, sorted_once}
use Rattle.judge_system.proofs.needs.sorted_without_doubles.Goals as goal

pub returns : goal.returns
returns c =
    rw (dedup_is need_eq c.sort_unstable.new.self.items c.dedup.new.self.items c.dedup.ensures.filtered)
    (sorted_once c.args.needs.items c.sort_unstable.new.self.items c.sort_unstable.ensures.permutation
    c.sort_unstable.ensures.sorted)
