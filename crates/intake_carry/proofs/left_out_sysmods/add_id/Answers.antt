use Rattle.std.proofs.Common.{◌++◌, ◌∷◌, [], true, subst, sym, refl}
use Rattle.std.specs.BTreeSet.{Updates}
use Rattle.std.specs.Cmp.Lexicographic.{slice_cmp}
use Rattle.std.specs.Ordering.{nat_cmp}
use Rattle.mcs.specs.declared.file.Item.TheVariants.{Sysmod, Assign}
use Rattle.intake_carry.specs.Unsure.{AreIdsOf}
use Rattle.intake_carry.proofs.UnsureNames.{id_added, no_id_added}
use Rattle.intake_carry.proofs.left_out_sysmods.add_id.Goals as goal

pub returns-in_ok-insert-in-Sysmod : goal.returns-in_ok-insert-in-Sysmod
returns-in_ok-insert-in-Sysmod c = λ before are.
    subst (λ item. AreIdsOf c.insert.new.self (before ++ item ∷ [])) (sym c.in-Sysmod.is)
    (id_added c.args.ids.now c.insert.new.self c.in-Sysmod.sysmod.id before (Sysmod c.in-Sysmod.sysmod)
    (subst (λ x. Updates (slice_cmp nat_cmp) c.args.ids.now c.insert.new.self x true) c.id_of.ensures
    c.in_ok-insert-in-Sysmod.ensures.updates) (λ id. refl) are)

pub returns-in-Assign : goal.returns-in-Assign
returns-in-Assign c = λ before are.
    subst (λ item. AreIdsOf c.args.ids.now (before ++ item ∷ [])) (sym c.in-Assign.is)
    (no_id_added c.args.ids.now before (Assign c.in-Assign.field-0) (λ id. refl) are)
