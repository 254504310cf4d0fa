use Rattle.std.proofs.Common.{sym, ◌∙◌}
use Rattle.std.proofs.lemmas.Bool.{eqb-true}
use Rattle.std.proofs.lemmas.List.{nil_from_length}
use Rattle.intake_elements.proofs.harmless.are_all_read.Goals as goal

pub returns : goal.returns
returns c = λ t. nil_from_length c.args.faulty.now (eqb-true _ _ (sym c.is_empty.ensures ∙ t))
