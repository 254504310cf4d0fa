use Rattle.std.proofs.Common.{◌≡◌, ◌∙◌, ap, map, option_map, inr, refl, Some, None, Option, is_some, Vec, ℕ}
use Rattle.std.proofs.lemmas.Result.{on_ok_weaker, on_err_weaker}
use Rattle.std.specs.declared.alloc.Global.{Global}
use Rattle.intake_command.specs.Files.{named}
use Rattle.intake_command.proofs.keep.keep_service.Goals as goal

same_some : (o : Option (Vec ℕ Global)) → is_some (option_map (λ bytes. bytes.items) o) ≡ is_some o
same_some None = refl
same_some (Some bytes) = refl

pub returns-clause-ok : goal.returns-clause-ok
returns-clause-ok g c =
    on_ok_weaker c.put_files.result (λ put. (
      map named c.deref.result.now,
      map (λ n. n.now) c.service_removals-removed.result.now,
      (
        c.in_ok-ptfin.ptfin.items,
        c.in_ok-hold.hold.items,
        c.args.remarks.items,
        option_map (λ bytes. bytes.items) c.args.stand_ins,
        c.in_ok-ptfin.ensures,
        c.in_ok-hold.ensures,
        same_some c.args.stand_ins,
        ap (map named) c.deref.ensures.value ∙ c.in_ok-files.ensures,
        c.service_removals-removed.ensures,
      ),
      put,
    )) c.put_files.ensures.ok

pub returns-clause-err : goal.returns-clause-err
returns-clause-err g c = on_err_weaker c.put_files.result (λ left. inr left) c.put_files.ensures.err
