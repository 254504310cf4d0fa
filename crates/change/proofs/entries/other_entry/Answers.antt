use Rattle.std.proofs.Common.{◌∙◌, ◌++◌, ap, sym, subst}
use Rattle.std.specs.Prelude.{◌↔◌, Contains}
use Rattle.terms.specs.Types.{Id, Entry}
use Rattle.change.specs.Entries.{IsOtherEntry}
use Rattle.change.proofs.Made.{other_from}
use Rattle.change.proofs.entries.other_entry.Goals as goal

pub returns-clause-entry : goal.returns-clause-entry
returns-clause-entry c =
    let old = c.in_ok-old.old in
    let more = c.listed.result.now in
    let supby = c.from_vec-supby.result in
    let delby = c.delby-delby.result in
    subst (IsOtherEntry c.args.deleting.now c.args.plan.now c.args.id)
    (ap {A = Entry} {B = Entry} (λ e. record e { supby = supby; delby = delby }) (sym c.old.view_is))
    (other_from c.args.deleting.now c.args.plan.now c.args.id old more supby delby c.in_ok-old.ensures.entry
    c.listed.ensures
    (subst (λ ids. (x : Id) → Contains supby x ↔ Contains ids x)
    (c.in_ok-extend_from_slice.ensures.items ∙ ap (λ xs. xs ++ more)
    (c.in_ok-supby.ensures.items ∙ c.as_slice.ensures.items ∙ ap (λ (e : Entry). e.supby) c.old.view_is))
    c.from_vec-supby.ensures.members)
    c.delby-delby.ensures)
