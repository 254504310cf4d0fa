use Rattle.std.proofs.Common.{ap, sym, ◌∙◌}
use Rattle.sysmods.specs.Held.{found}
use Rattle.sysmods.proofs.Entries.{find_lookup}
use Rattle.sysmods.proofs.received.Received.get.Goals as goal

pub returns : goal.returns
returns c = c.get.ensures.value ∙ sym (find_lookup c.self.inside.by_id.entries c.args.id c.self.invariant.keyed)
    ∙ ap (λ xs. found xs c.args.id) c.self.view_is
