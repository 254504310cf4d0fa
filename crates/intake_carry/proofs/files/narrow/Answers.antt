use Rattle.std.proofs.Common.{◌≡◌, ◌++◌, not, List, subst, ap, ◌∙◌}
use Rattle.std.specs.List.{filter}
use Rattle.mcs.specs.declared.file.Item.{Item}
use Rattle.intake_holds.specs.Become.{Become}
use Rattle.intake_holds.specs.Holds.{AreInOrder}
use Rattle.intake_carry.specs.Carried.{FileBecomes, is_held_by_copy}
use Rattle.intake_sysmod.specs.Users.{run_of}
use Rattle.intake_carry.proofs.files.narrow.Goals as goal

pub returns-clause-items : goal.returns-clause-items
returns-clause-items c = λ holds carried.
    let gathered = c.in-Ok.gathered in
    let files = c.args.files.now in
    let held = c.args.held.placed.items in
    let kept = c.in_ok-outside.outside.items in
    let all = c.in_ok-append.ensures.items ∙ ap (λ p. kept ++ p.items) c.remark_bad_statements.ensures.same
    ∙ ap (λ k. k ++ held) (subst (λ (i : List Item). kept ≡ filter (λ p. not (is_held_by_copy i p))
    gathered.outside.items) c.as_slice.ensures.value c.in_ok-outside.ensures) in
    record {
      sysmods = gathered.items.items;
      assigns = c.in_ok-finish_narrowed.ensures.items.0;
      outside = gathered.outside.items;
      held = held;
      items_are = c.in_ok-finish_narrowed.ensures.items.1;
      become = subst (λ d. Become (FileBecomes d (run_of files)) files gathered.items.items gathered.outside.items)
          c.sort_members.ensures (subst (λ r. Become (FileBecomes c.sort_members.new.self.decide r) files
          gathered.items.items gathered.outside.items) c.in_ok-users.ensures c.in-Ok.ensures);
      holds_become = carried (c.in_ok-remark_bad_statements.ensures.refused c.if-branch.false);
      in_order = subst (λ l. AreInOrder l c.in_ok-finish_narrowed.field-0.hold_items.items) all
          c.in_ok-finish_narrowed.ensures.in_order;
    }
