use Rattle.std.proofs.Common.{rules}
use Rattle.store_sysmods.proofs.CellLemmas.{ids_of_others}
use Rattle.store_sysmods.proofs.cells.read_other_id.Goals as goal

pub returns-in_err-other-clause-none : goal.returns-in_err-other-clause-none
returns-in_err-other-clause-none c bad other rest forms same =
    c.optional.ensures.none (search rules) other rest (ids_of_others c.args.id other forms) same
