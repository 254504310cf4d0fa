use Rattle.sorted.proofs.Editing.{IsEditing}
use Rattle.sorted.proofs.merging.edited_copy.Given as goal

-- the edits so far are made
abbrev pub invariant-loop-edit : goal.invariant-loop-edit
invariant-loop-edit g l = IsEditing g.T.Key.Ord.cmp g.T.Keyed.key_of l.items l.edits l.edit-index l.new.items l.rest
