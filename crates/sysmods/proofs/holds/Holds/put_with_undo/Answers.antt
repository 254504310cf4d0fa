use Rattle.std.proofs.Common.{◌∙◌, sym, ap, is_some, option_copied}
use Rattle.sysmods.proofs.Undoing.{IsExchanged, exchanged}
use Rattle.sysmods.proofs.holds.Holds.put_with_undo.Goals as goal
use Rattle.sysmods.proofs.holds.Holds.put_with_undo.Goals.{In_ok-old}

made : (c : In_ok-old)
    → IsExchanged c.self.inside.map.entries c.insert.new.self.entries c.of_hold-key.result c.args.hold
made c =
    exchanged c.self.inside.map.entries c.insert.new.self.entries c.self.invariant c.of_hold-key.result
    c.with_internal_mark-hold.result c.args.hold (option_copied c.get.result) c.of_hold-key.ensures
    c.with_internal_mark-hold.ensures c.get.ensures.value c.in_ok-old.ensures.entries c.insert.ensures.ordered

pub invariant_of-self-in_default : goal.invariant_of-self-in_default
invariant_of-self-in_default c = (made (goal.at.invariant_of-self-in_default c).In_ok-old).kept

pub returns-in_default-clause-undo : goal.returns-in_default-clause-undo
returns-in_default-clause-undo c =
    rw (← c.self.view_is) (ap is_some (sym c.in_default.is ∙ c.in_ok-old.ensures.old
    ∙ (made (goal.at.returns-in_default-clause-undo c).In_ok-old).was))

pub returns-in_default-clause-back : goal.returns-in_default-clause-back
returns-in_default-clause-back c =
    rw (← c.self.view_is) ((made (goal.at.returns-in_default-clause-back c).In_ok-old).fresh
    (sym c.in_ok-old.ensures.old ∙ c.in_default.is))

pub returns-in_default-clause-ok : goal.returns-in_default-clause-ok
returns-in_default-clause-ok c = rw (← c.self.view_is) (made (goal.at.returns-in_default-clause-ok c).In_ok-old).listed

pub invariant_of-self-2 : goal.invariant_of-self-2
invariant_of-self-2 c = (made (goal.at.invariant_of-self-2 c).In_ok-old).kept

pub returns-clause-undo : goal.returns-clause-undo
returns-clause-undo c =
    rw (← c.self.view_is) (ap is_some (sym c.in-Some.is ∙ c.in_ok-old.ensures.old
    ∙ (made (goal.at.returns-clause-undo c).In_ok-old).was))

pub returns-clause-back : goal.returns-clause-back
returns-clause-back c =
    rw (← c.self.view_is) ((made (goal.at.returns-clause-back c).In_ok-old).again c.in-Some.old
    (sym c.in_ok-old.ensures.old ∙ c.in-Some.is))

pub returns-clause-ok : goal.returns-clause-ok
returns-clause-ok c = rw (← c.self.view_is) (made (goal.at.returns-clause-ok c).In_ok-old).listed
