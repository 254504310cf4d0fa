use Rattle.std.proofs.Common.{◌≡◌, All, List, map, ap, subst, refl, inl, arith, length}
use Rattle.std.specs.Prelude.{Result}
use Rattle.std.specs.String.{string_bytes}
use Rattle.store_schema.specs.declared.error.StoreError.{StoreError}
use Rattle.terms.specs.Types.{Text}
use Rattle.cntl.specs.Views.{command_of}
use Rattle.cntl.specs.declared.command.Command.{Command}
use Rattle.smpe_command.specs.Careful.{IsDefined, IsFirstUndefined, LooksAt}
use Rattle.smpe_command.specs.Database.{NamesOver}
use Rattle.smpe_command.proofs.SetZones.{named, some_named}
use Rattle.smpe_command.proofs.careful.check_commands.Given.{Over}
use Rattle.smpe_command.proofs.careful.check_commands.Goals.{After-first_undefined_zone}
use Rattle.smpe_command.proofs.careful.check_commands.Goals as goal

-- the commands and the names that were looked at
looks : (g : Over) (c : After-first_undefined_zone g) → LooksAt g.H.Host g.H.Disk.Store c.args.host.now
    (string_bytes c.args.db.now.name) c.args.cntl.now (map command_of c.in-Ok.commands.items)
    c.in-Ok-load_zone_names.names.items c.load_zone_names.new.host
looks g c = (
  c.in-Ok.ensures.commands,
  some_named c.in-Ok.commands.items (λ none.
      let zero : length c.in-Ok.commands.items ≡ 0 = ap length none in
      grind (arith, zero, c.is_empty.ensures, c.if-is_empty.false)),
  c.in-Ok-load_zone_names.names,
  subst (λ (r : Result _ StoreError). NamesOver g.H.Host g.H.Disk.Store c.args.host.now
      (string_bytes c.args.db.now.name) r c.load_zone_names.new.host) c.in-Ok-load_zone_names.is
      c.load_zone_names.ensures,
  refl,
)

pub returns-in-Some : goal.returns-in-Some
returns-in-Some g c = (
  map command_of c.in-Ok.commands.items,
  c.in-Ok-load_zone_names.names.items,
  looks g (goal.at.returns-in-Some g c).After-first_undefined_zone,
  subst (λ (names : List Text). IsFirstUndefined names (named c.in-Ok.commands.items) c.in-Some.zone)
      c.as_slice-2.ensures.value
      (subst (λ (commands : List Command). IsFirstUndefined c.as_slice-2.result.now (named commands) c.in-Some.zone)
      c.as_slice.ensures.value c.in-Some.ensures.some),
)

pub returns : goal.returns
returns g c = inl (
  map command_of c.in-Ok.commands.items,
  c.in-Ok-load_zone_names.names.items,
  looks g (goal.at.returns g c).After-first_undefined_zone,
  subst (λ (names : List Text). All (IsDefined names) (named c.in-Ok.commands.items)) c.as_slice-2.ensures.value
      (subst (λ (commands : List Command). All (IsDefined c.as_slice-2.result.now) (named commands))
      c.as_slice.ensures.value (c.first_undefined_zone.ensures.none c.in-None.is)),
)
