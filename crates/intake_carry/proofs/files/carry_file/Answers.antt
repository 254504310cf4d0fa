use Rattle.std.proofs.Common.{[], subst}
use Rattle.intake_holds.specs.Become.{Become}
use Rattle.intake_holds.specs.Holds.{ReleaseBecomes}
use Rattle.intake_carry.specs.Carried.{SysmodBecomes}
use Rattle.intake_carry.proofs.files.carry_file.Goals as goal

pub returns : goal.returns
returns c =
    let g = c.in_ok-gathered.gathered in
    let releases = c.in_ok-releases.releases.items in
    record {
      of_sysmods = g.outside.items;
      releases = releases;
      outside_are = c.in_ok-append-2.ensures.items;
      sysmods_become = subst (λ l. Become (SysmodBecomes c.args.scope.now.options.now.decide
          c.args.scope.now.users.now) l g.items.items g.outside.items) c.as_slice-sysmods.ensures.value
          c.in_ok-gathered.ensures;
      releases_become = subst (λ l. Become ReleaseBecomes l [] releases) c.as_slice-4.ensures.value
          c.in_ok-releases.ensures;
    }
