use Rattle.std.proofs.Common.{◌∙◌, ◌++◌, ap, refl}
use Rattle.machine.specs.Outcome.{NoZone}
use Rattle.machine.specs.Report.{refused_text}
use Rattle.smpe_why.proofs.told.refuse_unknown_zone.Goals as goal

pub returns : goal.returns
returns c =
    (c.in_ok-append_words.ensures ∙ ap (λ l. l ++ refused_text NoZone) c.new-text.ensures.items, refl)
