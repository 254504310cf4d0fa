use Rattle.std.proofs.Common.{ap, sym, ◌∙◌, is_some}
use Rattle.sysmods.specs.Held.{found}
use Rattle.sysmods.proofs.Entries.{find_lookup}
use Rattle.sysmods.proofs.received.Received.contains.Goals as goal

pub returns : goal.returns
returns c = c.contains_key.ensures ∙ ap is_some (sym (find_lookup c.self.inside.by_id.entries c.args.id
    c.self.invariant.keyed)) ∙ ap (λ xs. is_some (found xs c.args.id)) c.self.view_is
