use Rattle.std.proofs.Common.{◌∙◌, ap, sym, subst}
use Rattle.std.specs.Ordering.{nat_cmp}
use Rattle.std.specs.Cmp.Lexicographic.{slice_cmp}
use Rattle.std.specs.List.Sorted.{IsStrictlySortedBy}
use Rattle.std.specs.Map.{keys_of, values_of}
use Rattle.sysmods.specs.Held.{found, IsHeld}
use Rattle.sysmods.proofs.Entries.{find_lookup, values_remove, others}
use Rattle.sysmods.proofs.Holding.{held_remove}
use Rattle.sysmods.proofs.received.Received.remove.Goals as goal

pub invariant_of-self : goal.invariant_of-self
invariant_of-self c =
    let es = c.self.inside.by_id.entries in
    subst (λ now. IsHeld now c.remove_sysmod.new.self.sets) (sym c.in-Some.ensures.entries)
    (held_remove es c.self.inside.index.sets c.remove_sysmod.new.self.sets c.args.id c.in-Some.sysmod
    (sym c.in-Some.ensures.value) c.self.invariant c.remove_sysmod.ensures
    (subst (λ now. IsStrictlySortedBy (slice_cmp nat_cmp) (keys_of now)) c.in-Some.ensures.entries
    c.in-Some.ensures.ordered))

pub returns-in-Some-clause-was : goal.returns-in-Some-clause-was
returns-in-Some-clause-was c = c.in-Some.ensures.value ∙ sym
    (find_lookup c.self.inside.by_id.entries c.args.id c.self.invariant.keyed)
    ∙ ap (λ xs. found xs c.args.id) c.self.view_is

pub returns-in-Some-clause-after : goal.returns-in-Some-clause-after
returns-in-Some-clause-after c =
    ap values_of c.in-Some.ensures.entries ∙ values_remove c.self.inside.by_id.entries c.args.id c.self.invariant.keyed
    c.self.invariant.sorted ∙ ap (others c.args.id) c.self.view_is

pub returns-in-None-clause-was : goal.returns-in-None-clause-was
returns-in-None-clause-was c = c.in-None.ensures.value ∙ sym
    (find_lookup c.self.inside.by_id.entries c.args.id c.self.invariant.keyed)
    ∙ ap (λ xs. found xs c.args.id) c.self.view_is

pub returns-in-None-clause-after : goal.returns-in-None-clause-after
returns-in-None-clause-after c =
    ap values_of c.in-None.ensures.entries ∙ values_remove c.self.inside.by_id.entries c.args.id c.self.invariant.keyed
    c.self.invariant.sorted ∙ ap (others c.args.id) c.self.view_is
