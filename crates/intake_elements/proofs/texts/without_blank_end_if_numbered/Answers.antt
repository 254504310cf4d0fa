use Rattle.intake_elements.proofs.TextLemmas.{all_kept}
use Rattle.intake_elements.proofs.texts.without_blank_end_if_numbered.Goals as goal

pub returns-then-keeps_blank_end : goal.returns-then-keeps_blank_end
returns-then-keeps_blank_end c = all_kept c.args.cards.now
