use Rattle.std.proofs.Common.{◌≡◌, IfOk, subst}
use Rattle.intake_list.specs.Rows.{row_at}
use Rattle.intake_list.proofs.row.row_of.Goals as goal

pub returns-in-Some : goal.returns-in-Some
returns-in-Some c =
    subst (λ place. IfOk c.key_row.result (λ row. row ≡ row_at c.args.number c.args.line.now place))
    c.in-Some.ensures.place c.key_row.ensures

pub returns-in-None : goal.returns-in-None
returns-in-None c =
    subst (λ place. IfOk c.plain_row.result (λ row. row ≡ row_at c.args.number c.args.line.now place))
    c.in-None.ensures.place c.plain_row.ensures
