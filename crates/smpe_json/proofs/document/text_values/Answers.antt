use Rattle.std.proofs.Common.{Bor}
use Rattle.terms.specs.Types.{Text}
use Rattle.serde_json.specs.Data.{string}
use Rattle.smpe_json.proofs.Listed.{seen_all}
use Rattle.smpe_json.proofs.document.text_values.Goals as goal

pub returns : goal.returns
returns c =
    seen_all string (λ (x : Bor Text). x.now) c.args.texts.now c.loop-text.text-index c.loop-text.values.items
    c.loop-text-test.false c.loop-text.invariant
