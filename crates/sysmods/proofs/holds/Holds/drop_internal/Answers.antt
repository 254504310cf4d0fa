use Rattle.std.proofs.Common.{◌∙◌, refl, sym, ap, filter}
use Rattle.std.specs.Map.{values_of}
use Rattle.sysmods.proofs.HoldMaps.{removed}
use Rattle.sysmods.proofs.Internal.{stays, done_first, same_id, dropped_next, done_next, done_all}
use Rattle.sysmods.proofs.holds.Holds.drop_internal.Goals as goal

pub loop-key-init : goal.loop-key-init
loop-key-init c = record {
  kept = c.self.invariant;
  same = ap (filter (stays c.args.id)) c.self.view_is;
  of = refl;
  done = done_first c.args.id c.self.inside.map.entries c.self.invariant;
}

pub loop-key-preserved : goal.loop-key-preserved
loop-key-preserved c =
    let k = c.loop-key.invariant in
    let es = c.loop-key.self-inside.map.entries in
    record {
      kept = removed es k.kept c.in-Some.key c.remove.new.self.entries c.remove.ensures.entries
          c.remove.ensures.ordered;
      same = ap (λ fs. filter (stays c.args.id) (values_of fs)) c.remove.ensures.entries
          ∙ dropped_next c.args.id c.loop-key.from k.of es k.kept k.done c.in-Some.key c.in-Some.ensures ∙ k.same;
      of = sym (same_id c.loop-key.from c.in-Some.key c.in-Some.ensures.on) ∙ k.of;
      done = rw c.remove.ensures.entries (done_next c.args.id c.loop-key.from k.of es k.kept k.done c.in-Some.key
          c.in-Some.ensures);
    }

pub invariant_of-self : goal.invariant_of-self
invariant_of-self c = c.loop-key.invariant.kept

pub returns : goal.returns
returns c =
    let k = c.loop-key.invariant in
    done_all c.args.id c.loop-key.from k.of c.loop-key.self-inside.map.entries k.kept k.done c.in_default.ensures
    ∙ k.same
