use Rattle.std.proofs.Common.{◌≡◌, All, map, take}
use Rattle.terms.specs.Forms.{IsId}
use Rattle.smpe_invocation.proofs.option_values.read_ids.Given as goal

abbrev pub invariant-loop-text : goal.invariant-loop-text
invariant-loop-text l = (l.ids.items ≡ map (λ text. text.now) (take l.text-index l.texts)) × All IsId l.ids.items
