use Rattle.smpe_lint.proofs.answer.is_clean.Goals as goal

pub returns-then-is_empty-clause-clean : goal.returns-then-is_empty-clause-clean
returns-then-is_empty-clause-clean c on g srel are = (c.is_clean.ensures g srel are).0 on
