use Rattle.std.proofs.Common.{◌∙◌, ap}
use Rattle.change.specs.Puts.{with_elements, less_elements}
use Rattle.change.proofs.installing.element_edits.Goals as goal

pub returns : goal.returns
returns c = record {
  elements = c.in_ok-elements.elements.items;
  after = c.in_ok-elements.ensures;
  edits_are = c.in_ok-put_elements.ensures
      ∙ ap (λ edits. with_elements edits c.in_ok-elements.elements.items)
      (c.in_ok-remove_deleted_elements.ensures
      ∙ ap (λ none. less_elements c.args.deleting.now none c.args.deleting.now.left.zone.now.elements)
      c.new-edits.ensures);
}
