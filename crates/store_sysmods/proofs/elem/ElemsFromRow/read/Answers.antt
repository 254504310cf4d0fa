use Rattle.std.proofs.Common.{rules, sym, ◌∙◌}
use Rattle.sysmods_values.specs.Views.{action_of}
use Rattle.store_sysmods.proofs.CellLemmas.{next, fits_action}
use Rattle.store_sysmods.proofs.elem.ElemsFromRow.read.Goals as goal

pub invariant_of-change : goal.invariant_of-change
invariant_of-change c = fits_action c.in_ok-elem_type.elem_type c.in_ok-name.name (action_of c.in_ok-action.action)
    c.in_ok-action.ensures.read.1

pub returns-in_err-id-clause-none : goal.returns-in_err-id-clause-none
returns-in_err-id-clause-none c bad item forms same =
    c.id.ensures.none (search rules) item.id _ forms.0 (c.new-columns.ensures ∙ same)

pub returns-clause-read : goal.returns-clause-read
returns-clause-read c = (
  sym c.new-columns.ensures ∙ next c.in_ok-id.ensures.read.0 (next c.in_ok-elem_type.ensures.read
      (next c.in_ok-name.ensures.read.0 c.in_ok-action.ensures.read.0)),
  (
    c.in_ok-id.ensures.read.1,
    record {
      name = c.in_ok-name.ensures.read.1;
      action = c.in_ok-action.ensures.read.1;
    },
  ),
)
