use Rattle.std.proofs.Common.{◌≡◌, ◌∙◌, ◌++◌, List, IfOk, map, filter, not, ap, ap₂, subst₂}
use Rattle.std.proofs.lemmas.List.{map-append}
use Rattle.terms.specs.Types.{Text}
use Rattle.terms.specs.Lookups.{is_in}
use Rattle.intake_asked.specs.declared.known.KnownSysmod.{KnownSysmod}
use Rattle.intake_asked.specs.Words.{listed, is_kept_out}
use Rattle.intake_asked.proofs.Alike.{lent}
use Rattle.intake_asked.proofs.lists.kept_out_ids.Goals as goal

pub returns : goal.returns
returns c =
    let ops = c.args.operands.now in
    let members = lent c.deref.ensures.value (c.in_ok-members.ensures
    ∙ ap (λ (names : List Text). listed names ops) c.groupextend_names.ensures) in
    let ids = lent c.deref-2.ensures.value (c.in_ok-ids.ensures
    ∙ ap (λ (ms : List Text). map (λ (k : KnownSysmod). k.id)
    (filter (λ k. is_kept_out ms k.kind) c.args.known.now)) members) in
    let select = c.in_ok-named.ensures ∙ ap (λ (names : List Text). listed names ops) c.select_names.ensures in
    let group = c.in_ok-grouped.ensures ∙ ap (λ (names : List Text). listed names ops) c.group_names.ensures in
    let named = lent (c.deref-3.ensures.value ∙ c.in_ok-append.ensures.items)
    (map-append (λ n. n.now) c.in_ok-named.named.items c.in_ok-grouped.grouped.items
    ∙ ap₂ (λ a b. a ++ b) select group) in
    subst₂ (λ (ns is : List Text). IfOk c.without_named.result (λ left. map (λ l. l.now) left.items
    ≡ filter (λ x. not (is_in ns x)) is)) named ids c.without_named.ensures
