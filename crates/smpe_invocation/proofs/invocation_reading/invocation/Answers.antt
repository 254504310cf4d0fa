use Rattle.std.proofs.Common.{◌≡◌, ◌∙◌, List, map, subst, true, ap}
use Rattle.std.proofs.lemmas.Result.{IfOk-weaker, IfErr-weaker, err_from_is_err_and}
use Rattle.std.specs.Prelude.{Option, option_map}
use Rattle.terms.specs.Types.{Text}
use Rattle.clap.specs.Words.{Row, app_of, found_of, is_simple, rows_of, subcommand_of}
use Rattle.clap.specs.Faults.{is_simple_and_free}
use Rattle.clap.specs.declared.builder.command.Command.{Command}
use Rattle.smpe_invocation.specs.Answers.{IsMet}
use Rattle.smpe_invocation.specs.CommandLine.{IsCommandLine}
use Rattle.smpe_invocation.proofs.Shapes.{smpe_is_simple, smpe_is_simple_and_free}
use Rattle.smpe_invocation.proofs.Meeting.{met_pairs, refused_by_clap, refused_by_value}
use Rattle.smpe_invocation.proofs.invocation_reading.invocation.Goals.{Joined-matches}
use Rattle.smpe_invocation.proofs.invocation_reading.invocation.Goals as goal

free : (c : Command) → IsCommandLine (app_of c) → is_simple_and_free (app_of c) ≡ true
free c line = ap is_simple_and_free line.4 ∙ smpe_is_simple_and_free line.0 line.1

simple : (c : Command) → IsCommandLine (app_of c) → is_simple (app_of c) ≡ true
simple c line = ap is_simple line.4 ∙ smpe_is_simple line.0 line.1

met_is : (c : Joined-matches) → option_map {U = Text × List Row} (λ p. (p.0.now, rows_of (found_of p.1.now)))
    c.subcommand.result
    ≡ subcommand_of (app_of c.in_ok-command_line.field-0) (map (λ word. word.now) c.args.words.now)
met_is c = met_pairs c.in_ok-matches.matches c.subcommand.result c.subcommand.ensures.name c.subcommand.ensures.rows
    ∙ (c.in_ok-matches.ensures.matches (simple _ c.in_ok-command_line.ensures)).1

pub returns-in_err-matches-clause-err : goal.returns-in_err-matches-clause-err
returns-in_err-matches-clause-err c =
    let p = err_from_is_err_and c.from_residual-in_err-matches.result c.from_residual-in_err-matches.ensures.1 in
    let line = c.in_ok-command_line.ensures in
    rw p.1 (refused_by_clap _ _ line c.in_err-matches.field-0.0 p.0 (c.in_err-matches.ensures.kinds (free _ line)) p.2)

pub returns-clause-ok : goal.returns-clause-ok
returns-clause-ok c =
    let line = c.in_ok-command_line.ensures in
    IfOk-weaker c.read_subcommand_options.result _ _
    (λ i h. (
      _,
      line,
      c.in_ok-matches.ensures.kinds (free _ line),
      subst (λ (o : Option (Text × List Row)). IsMet o i) (met_is c) h,
    )) c.read_subcommand_options.ensures.ok

pub returns-clause-err : goal.returns-clause-err
returns-clause-err c =
    let line = c.in_ok-command_line.ensures in
    IfErr-weaker c.read_subcommand_options.result _ _
    (λ e h. refused_by_value _ _ line (c.in_ok-matches.ensures.kinds (free _ line)) e (rw (met_is c) at h))
    c.read_subcommand_options.ensures.err
