use Rattle.std.proofs.Common.{◌≡◌, ◌∙◌, [], true, ap, ap₂, codes}
use Rattle.std.proofs.lemmas.Result.{IfOk-weaker}
use Rattle.clap.specs.Words.{App, app_of, new_app, with_subcommand}
use Rattle.clap.specs.Simple.{app_of_fields}
use Rattle.clap.specs.declared.builder.command.Command.{Command}
use Rattle.clap.specs.declared.builder.command.Command.TheOpen.{Command-F}
use Rattle.smpe_invocation.proofs.Shapes.{shape_is}
use Rattle.smpe_invocation.proofs.command.command_line.Goals as goal

pub returns : goal.returns
returns c =
    let start : app_of c.disable_help_subcommand.result
    ≡ record {
      top = record (new_app (codes "smpe")).top {
        has_version = true;
        subcommand_required = true;
        disable_help_subcommand = true;
      };
      subs = [];
    } =
    ap app_of_fields c.disable_help_subcommand.ensures
    ∙ ap (λ (f : Command-F Command). app_of_fields (record f { disable_help_subcommand = true }))
    c.subcommand_required.ensures
    ∙ ap (λ (f : Command-F Command). app_of_fields (record f {
      subcommand_required = true;
      disable_help_subcommand = true;
    })) c.version.ensures
    ∙ ap (λ (a : App). record a {
      top = record a.top {
        has_version = true;
        subcommand_required = true;
        disable_help_subcommand = true;
      };
    }) c.new_command.ensures.0 in
    let zone = c.in_ok-zone_command.ensures in
    let first = c.in_ok-subcommand.ensures.shape zone.2.1 ∙ ap₂ with_subcommand start (shape_is _ _ zone.2) in
    let run = c.in_ok-run_command.ensures in
    let with_run = c.in_ok-subcommand-2.ensures.shape run.1 ∙ ap₂ with_subcommand first (shape_is _ _ run) in
    let list = c.in_ok-list_command.ensures in
    let with_list = c.in_ok-subcommand-3.ensures.shape list.1 ∙ ap₂ with_subcommand with_run (shape_is _ _ list) in
    let why = c.in_ok-why_command.ensures in
    let with_why = c.in_ok-subcommand-4.ensures.shape why.1 ∙ ap₂ with_subcommand with_list (shape_is _ _ why) in
    let check = c.in_ok-check_command.ensures in
    let with_check = c.in_ok-subcommand-5.ensures.shape check.1 ∙ ap₂ with_subcommand with_why (shape_is _ _ check) in
    let mend = c.in_ok-mend_command.ensures in
    let with_mend = c.in_ok-subcommand-6.ensures.shape mend.1 ∙ ap₂ with_subcommand with_check (shape_is _ _ mend) in
    let lint = c.in_ok-lint_command.ensures in
    let with_lint = c.in_ok-subcommand-7.ensures.shape lint.2.1 ∙ ap₂ with_subcommand with_mend (shape_is _ _ lint.2) in
    let migrate = c.in_ok-migrate_command.ensures in
    let with_migrate = c.in_ok-subcommand-8.ensures.shape migrate.1
    ∙ ap₂ with_subcommand with_lint (shape_is _ _ migrate) in
    let verify = c.in_ok-verify_command.ensures in
    IfOk-weaker c.subcommand-9.result _ _
    (λ new added. (
      zone.0,
      lint.0,
      zone.1,
      lint.1,
      added.shape verify.1 ∙ ap₂ with_subcommand with_migrate (shape_is _ _ verify),
    ))
    c.subcommand-9.ensures
