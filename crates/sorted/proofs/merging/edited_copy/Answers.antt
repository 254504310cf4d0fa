use Rattle.std.proofs.Common.{◌≡◌, ◌∙◌, ◌++◌, ◌+◌, ap, subst₂, sym}
use Rattle.std.specs.Option.{option_to_list}
use Rattle.terms.specs.Rising.{before, behind}
use Rattle.sorted.specs.Edits.{edit_key, edit_put}
use Rattle.sorted.proofs.Editing.{IsEditing, editing_goes_on}
use Rattle.sorted.proofs.merging.edited_copy.Goals as goal

pub loop-edit-preserved : goal.loop-edit-preserved
loop-edit-preserved g c =
    let R = g.T.Key.Ord.cmp in
    let key = g.T.Keyed.key_of in
    let at = c.loop-edit in
    let e = c.edit-item.result in
    let items = c.args.items.now in
    let edits = c.args.edits.now in
    let rest = at.rest.now in
    let key_is = c.key-key.ensures in
    let new_is : c.copy_put_item.new.new.items
    ≡ (at.new.items ++ before R key (edit_key key e) rest) ++ option_to_list (edit_put e) =
    c.in_ok-copy_put_item.ensures
    ∙ ap (λ ys. ys ++ option_to_list (edit_put e))
    (c.in_ok-copy_before.ensures.copied ∙ ap (λ k. at.new.items ++ before R key k rest) key_is) in
    let rest_is : c.after_key-rest.result.now ≡ behind R key (edit_key key e) rest =
    c.after_key-rest.ensures ∙ c.in_ok-copy_before.ensures.kept ∙ ap (λ k. behind R key k rest) key_is in
    subst₂ (λ new left. IsEditing R key items edits (at.edit-index + 1) new left) (sym new_is) (sym rest_is)
    (editing_goes_on g.met.T.Key.Ord.total key items edits at.edit-index at.new.items rest e c.requires.edits
    c.loop-edit-test.true c.edit-item.is at.invariant)
