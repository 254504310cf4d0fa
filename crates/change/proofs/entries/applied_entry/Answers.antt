use Rattle.std.proofs.Common.{Some, ap, sym, subst}
use Rattle.terms.specs.Types.{Entry, an_applied}
use Rattle.change.specs.Entries.{IsAppliedEntry}
use Rattle.change.proofs.Made.{applied_from, waived_from}
use Rattle.change.proofs.entries.applied_entry.Goals as goal

pub returns : goal.returns
returns c =
    let d = c.args.deleting.now in
    let p = c.args.plan.now in
    let x = c.args.id in
    let waived = c.from_vec-waived.result in
    let delby = c.delby-delby.result in
    let applied = Some (an_applied p.date c.number.result) in
    subst (IsAppliedEntry d p x)
    (ap {A = Entry} {B = Entry} (λ e. record e { applied = applied; delby = delby; waived = waived })
    (sym c.old.view_is))
    (applied_from d p x c.in_ok-old.old applied delby waived c.in_ok-old.ensures.entry
    (ap (λ n. Some (an_applied p.date n)) c.number.ensures) c.delby-delby.ensures
    (waived_from d p x c.listed-bypassed.result.now c.in_ok-unsupplied_among.field-0.items waived
    c.in_ok-unsupplied_among.ensures c.listed-bypassed.ensures c.from_vec-waived.ensures.members
    c.from_vec-waived.ensures.rising))
