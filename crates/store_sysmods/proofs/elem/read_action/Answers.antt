use Rattle.std.proofs.Common.{rules}
use Rattle.store_sysmods.proofs.CellLemmas.{no_flag, no_distlib, no_syslib}
use Rattle.store_sysmods.proofs.elem.read_action.Goals as goal

pub returns-in_err-updates-clause-none : goal.returns-in_err-updates-clause-none
returns-in_err-updates-clause-none c bad action forms same =
    no_flag _ action (c.flag.ensures.none (search rules)) same

pub returns-in_err-distlib-clause-none : goal.returns-in_err-distlib-clause-none
returns-in_err-distlib-clause-none c bad action forms same =
    no_distlib _ _ _ c.args.elem_type c.args.name action c.in_ok-updates.ensures.read
    (c.optional.ensures.none (search rules)) forms same

pub returns-in_err-syslib-clause-none : goal.returns-in_err-syslib-clause-none
returns-in_err-syslib-clause-none c bad action forms same =
    no_syslib _ _ _ _ _ c.args.elem_type c.args.name action c.in_ok-updates.ensures.read
    c.in_ok-distlib.ensures.read.0 (c.optional-2.ensures.none (search rules)) forms same
