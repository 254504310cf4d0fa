use Rattle.std.proofs.Common.{List, length, true, sym, subst}
use Rattle.intake_sysmod.specs.Users.{run_of}
use Rattle.intake_carry.specs.Unsure.{AreUnsure}
use Rattle.intake_service.specs.Carrying.{CarriesFiles}
use Rattle.smpe_package.specs.Package.{HasStatus, IsPackage}
use Rattle.smpe_package.proofs.carried.carry_package.Goals as goal

pub returns-in-Ok : goal.returns-in-Ok
returns-in-Ok c =
    let carried = c.in-Ok.carried in
    let made = c.in_ok-package_of-in-Ok.field-0 in
    let same = c.in_ok-package_of-in-Ok.ensures in
    let whole : IsPackage (length c.args.files.now) made = record {
      files = carried.files.items;
      each = c.in-Ok.ensures.each;
      carries = subst (λ (items : List _). CarriesFiles true carried.files.items items made.hold_items.items)
          (sym same.items)
          (subst (λ (holds : List _). CarriesFiles true carried.files.items carried.narrowed.items.items holds)
          (sym same.holds) c.in-Ok.ensures.carries);
      unsure = carried.narrowed.unsure.items;
      are_unsure = subst (λ (items : List _). AreUnsure (run_of carried.files.items) items
          carried.narrowed.unsure.items) (sym same.items) c.in-Ok.ensures.unsure;
      unsure_ids = same.unsure;
      status = subst (λ (items : List _). HasStatus carried.files.items items carried.narrowed.unsure.items made.status)
          (sym same.items) same.status;
    } in
    whole
