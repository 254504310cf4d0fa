use Rattle.std.proofs.Common.{◌≡◌, ◌∷◌, ◌++◌, ◌∙◌, [], length, refl, sym, ap, append_assoc, append-nil, arith, vec_len, vec_capacity}
use Rattle.std.specs.Vec.Iter.{into_iter_items}
use Rattle.std.proofs.lemmas.List.{nil_from_length}
use Rattle.sorted.proofs.Editing.{editing_starts, editing_walks_on, editing_ends}
use Rattle.sorted.proofs.edits.make_edits.Goals as goal

pub loop-edit-init : goal.loop-edit-init
loop-edit-init g c =
    let all = c.into_iter-edit-iterator.ensures.into_iter_gives.0 in
    let count = c.into_iter-edit-iterator.ensures.into_iter_gives.1 in
    record {
      walked = refl;
      count = c.into_iter-edit-iterator.result.rest.ok.0;
      editing = rw (c.from_vec-rest.ensures.items, c.replace.ensures.value, c.replace.ensures.after, c.requires.empty)
          (editing_starts g.met.T.Key.Ord.total g.T.Keyed.key_of c.args.items.now.items _ c.requires.items);
      room =
          let empty = c.args.room.ok.0 ∙ ap length c.requires.empty in
          let room = c.requires.room in
          let rest = c.from_vec-rest.ensures.len ∙ ap vec_len c.replace.ensures.value in
          let new = ap vec_len c.replace.ensures.after in
          let capacity = ap vec_capacity c.replace.ensures.after in
          omega (arith, count);
    }

pub loop-edit-preserved : goal.loop-edit-preserved
loop-edit-preserved g c =
    let at = c.loop-edit.invariant in
    let e = c.in-Some.edit in
    let yielded = c.loop-edit.yielded in
    let back = into_iter_items c.next.new.self in
    let steps : into_iter_items c.loop-edit.edit-iterator ≡ e ∷ back = c.in-Some.ensures.steps.0 in
    let walked : (yielded ++ e ∷ []) ++ back ≡ into_iter_items c.into_iter-edit-iterator.result =
    append_assoc yielded (e ∷ []) back ∙ rw (← steps) at.walked in
    record {
      walked = walked;
      count = c.next.new.self.rest.ok.0;
      editing = rw (
        c.move_put_item.ensures.items,
        c.remove_key.ensures.rest,
        c.move_before.ensures.moved,
        c.move_before.ensures.kept,
        c.key-key.ensures,
      )
          (editing_walks_on g.met.T.Key.Ord.total g.T.Keyed.key_of c.args.items.now.items
          (into_iter_items c.into_iter-edit-iterator.result) yielded e back c.loop-edit.items.items c.loop-edit.rest.items
          (rw (← steps) at.walked) (rw c.into_iter-edit-iterator.ensures.into_iter_gives.0 c.requires.edits) at.editing);
      room =
          let gone = c.in-Some.ensures.steps.1 in
          let moved = c.move_before.ensures.len in
          let less = c.remove_key.ensures.len in
          let more = c.move_put_item.ensures.len in
          let same = c.move_put_item.ensures.capacity ∙ c.move_before.ensures.capacity in
          let room = at.room in
          omega arith;
    }

pub move_before-requires-clause-room : goal.move_before-requires-clause-room
move_before-requires-clause-room g c =
    let room = c.loop-edit.invariant.room in
    omega arith

pub move_put_item-requires : goal.move_put_item-requires
move_put_item-requires g c =
    let gone = c.in-Some.ensures.steps.1 in
    let moved = c.move_before.ensures.len in
    let less = c.remove_key.ensures.len in
    let same = c.move_before.ensures.capacity in
    let room = c.loop-edit.invariant.room in
    omega arith

pub move_all-requires : goal.move_all-requires
move_all-requires g c =
    let room = c.loop-edit.invariant.room in
    omega arith

pub returns : goal.returns
returns g c =
    let at = c.loop-edit in
    let gives = c.into_iter-edit-iterator.ensures.into_iter_gives.0 in
    let empty : into_iter_items at.edit-iterator ≡ [] = nil_from_length _
    (sym at.invariant.count ∙ c.in-None.ensures.steps.0) in
    let all = sym (append-nil at.yielded) ∙ rw empty at at.invariant.walked in
    rw (← gives) (c.move_all.ensures ∙ editing_ends g.met.T.Key.Ord.total g.T.Keyed.key_of c.args.items.now.items
    (into_iter_items c.into_iter-edit-iterator.result) (length at.yielded) at.items.items at.rest.items
    (let long = ap length all in omega arith) at.invariant.editing)
