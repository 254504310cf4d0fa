use Rattle.std.proofs.Common.{rules, Option, None, Some, option_map, IfSome}
use Rattle.terms.specs.Forms.{IsDottedDate}
use Rattle.terms.specs.Types.{Applied}
use Rattle.store_schema.specs.Forms.{HasAppliedForms}
use Rattle.store_zones.proofs.entry.read_applied.Goals as goal

is_dated : (applied : Option Applied) → IfSome applied HasAppliedForms → IfSome (option_map (λ a. a.date) applied)
    IsDottedDate
is_dated None forms = tt
is_dated (Some a) forms = forms.date

pub returns-in_err-date-clause-none : goal.returns-in_err-date-clause-none
returns-in_err-date-clause-none c bad applied rest forms same =
    c.optional.ensures.none (search rules) (option_map (λ a. a.date) applied) rest (is_dated applied forms) same
