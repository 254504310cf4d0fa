use Rattle.std.proofs.Common.{◌∙◌, ◌++◌, ap, map}
use Rattle.terms.specs.declared.codes.NeedKind.TheVariants.{Dep}
use Rattle.undo.specs.Scopes.{restoring_of}
use Rattle.undo.specs.Needed.{pair_need}
use Rattle.undo.proofs.AllNeeds.{are_needs}
use Rattle.undo.proofs.needed.needs_in_restore.Goals as goal

pub returns : goal.returns
returns c =
    are_needs (restoring_of c.args.scope.now) c.args.ids.now c.requires c.in_ok-element_pairs.field-0.items
    c.in_ok-dependence_pairs.field-0.items c.member_pairs-elem.result.items c.member_pairs-dep.result.items
    c.in_ok-element_pairs.ensures c.in_ok-dependence_pairs.ensures c.member_pairs-elem.ensures
    c.member_pairs-dep.ensures c.add_needs-2.new.needs.items
    (rw (c.as_slice.ensures.value, c.as_slice-2.ensures.value, c.new-needs.ensures.items) at
    (c.in_ok-add_needs-2.ensures
    ∙ ap (λ l. l ++ map (pair_need Dep) c.as_slice-2.result.now) c.in_ok-add_needs.ensures))
