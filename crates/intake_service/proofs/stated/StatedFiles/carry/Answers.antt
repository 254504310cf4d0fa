use Rattle.std.proofs.Common.{subst}
use Rattle.intake_sysmod.specs.Users.{run_of}
use Rattle.intake_carry.specs.Carried.{FilesBecome}
use Rattle.intake_carry.specs.Unsure.{AreUnsure}
use Rattle.intake_service.specs.Carrying.{CarriesFiles}
use Rattle.intake_service.proofs.stated.StatedFiles.carry.Goals as goal

pub returns-in-Ok-clause-carries : goal.returns-in-Ok-clause-carries
returns-in-Ok-clause-carries c =
    let decide = c.args.options.decide in
    let made = c.in-Ok.narrowed in
    let held = c.self.invariant in
    subst (λ files. CarriesFiles decide files made.items.items made.hold_items.items) c.self.view_is (
      held.0,
      held.1,
      subst (λ files. FilesBecome decide files held.0 made.items.items made.hold_items.items)
          c.deref-2.ensures.value (c.in-Ok.ensures.items held.0 held.2),
    )

pub returns-in-Ok-clause-unsure : goal.returns-in-Ok-clause-unsure
returns-in-Ok-clause-unsure c =
    let made = c.in-Ok.narrowed in
    subst (λ files. AreUnsure (run_of files) made.items.items made.unsure.items) c.self.view_is
    (subst (λ files. AreUnsure (run_of files) made.items.items made.unsure.items) c.deref-2.ensures.value
    c.in-Ok.ensures.unsure)
