use Rattle.std.proofs.Common.{IfOk, Contains, sym, subst}
use Rattle.std.specs.Prelude.{◌↔◌}
use Rattle.terms.specs.Types.{Id}
use Rattle.terms.specs.Restore.{IsListed}
use Rattle.fields.specs.Choices.{restore_list_of}
use Rattle.undo.specs.Scopes.{restoring_from}
use Rattle.undo.proofs.listing.restore_list.Goals as goal

pub returns-in-Group : goal.returns-in-Group
returns-in-Group c =
    let r = restoring_from c.args.global.now c.args.zone.now c.args.accepted.now in
    subst (λ list. IfOk c.group_list.result (λ ids. (x : Id) → Contains ids x ↔ IsListed r (restore_list_of list) x))
    (sym c.in-Group.is) c.group_list.ensures
