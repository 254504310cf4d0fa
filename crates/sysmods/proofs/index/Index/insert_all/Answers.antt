use Rattle.std.proofs.Common.{subst, arith}
use Rattle.std.specs.Str.{bytes_eq}
use Rattle.sysmods.specs.Index.{HasAll}
use Rattle.sysmods.proofs.Indexed.{grows_then, has_all_more, has_all_one}
use Rattle.sysmods.proofs.index.Index.insert_all.Goals as goal

pub loop-id-preserved : goal.loop-id-preserved
loop-id-preserved c = record {
  has = has_all_more c.loop-id.self.sets c.insert.new.self.sets c.args.namer (λ z x. bytes_eq z x) c.args.named.now
      c.loop-id.id-index c.id-item.result (omega arith)
      c.in_ok-insert.ensures.grows c.loop-id.invariant.has
      (subst (λ x. HasAll c.insert.new.self.sets c.args.namer (λ z. bytes_eq z x)) c.id-item.is
      (has_all_one c.insert.new.self.sets c.args.namer c.id-item.result c.in_ok-insert.ensures.has));
  grows = grows_then c.args.self.now.sets c.loop-id.self.sets c.insert.new.self.sets c.loop-id.invariant.grows
      c.in_ok-insert.ensures.grows;
}
