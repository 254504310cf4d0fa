use Rattle.std.proofs.Common.{◌≡◌, All, None, subst, arith, rules}
use Rattle.std.proofs.lemmas.List.{take_all}
use Rattle.std.proofs.lemmas.List.Elements.{All-nil}
use Rattle.cntl.specs.Views.{command_of}
use Rattle.cntl.specs.declared.command.Command.{Command}
use Rattle.smpe_command.specs.Careful.{IsDefined, IsFirstUndefined, zone_set}
use Rattle.smpe_command.proofs.SetZones.{all_more, first_at, named}
use Rattle.smpe_command.proofs.careful.first_undefined_zone.Goals as goal

pub loop-command-init : goal.loop-command-init
loop-command-init c = All-nil (IsDefined c.args.names.now)

pub returns-in-Some-clause-some : goal.returns-in-Some-clause-some
returns-in-Some-clause-some c = first_at c.args.names.now c.args.commands.now c.loop-command.command-index
    c.command-item.result c.in-Some.zone c.loop-command-test.true c.loop-command.invariant
    (subst (λ (command : Command). IsFirstUndefined c.args.names.now (zone_set (command_of command)) c.in-Some.zone)
    c.command-item.is c.in-Some.ensures.some)

pub loop-command-preserved : goal.loop-command-preserved
loop-command-preserved c =
    let none : c.undefined_zone_of.result ≡ None = search rules in
    all_more c.args.names.now c.args.commands.now c.loop-command.command-index c.command-item.result
    c.loop-command-test.true c.loop-command.invariant
    (subst (λ (command : Command). All (IsDefined c.args.names.now) (zone_set (command_of command))) c.command-item.is
    (c.undefined_zone_of.ensures.none none))

pub returns-clause-none : goal.returns-clause-none
returns-clause-none c none = subst (λ commands. All (IsDefined c.args.names.now) (named commands))
    (take_all c.loop-command.command-index c.args.commands.now (omega (arith, c.loop-command-test.false)))
    c.loop-command.invariant
