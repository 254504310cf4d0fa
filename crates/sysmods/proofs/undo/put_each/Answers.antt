use Rattle.std.proofs.Common.{◌∙◌, sym, ap, [], ◌∷◌}
use Rattle.std.proofs.lemmas.List.Sums.{fold-append}
use Rattle.sysmods.specs.Lists.{with_hold}
use Rattle.sysmods.proofs.Undoing.{undoes_more}
use Rattle.sysmods.proofs.undo.put_each.Goals as goal

pub loop-hold-preserved : goal.loop-hold-preserved
loop-hold-preserved c = record {
  so_far = c.in_ok-undo.ensures.ok ∙ ap (λ xs. with_hold xs c.in-Some.hold) c.loop-hold.invariant.so_far
      ∙ sym (fold-append with_hold c.args.to.now c.loop-hold.yielded (c.in-Some.hold ∷ []));
  undo = rw (c.push_reserved.ensures.items, c.reserve.ensures.items)
      (undoes_more c.args.to.now c.loop-hold.to c.put_with_undo.new.self c.loop-hold.log.items c.in_ok-undo.undo
      c.loop-hold.invariant.undo c.in_ok-undo.ensures.back);
}
