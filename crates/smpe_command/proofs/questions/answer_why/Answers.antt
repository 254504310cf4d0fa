use Rattle.std.proofs.Common.{List, Ok, subst}
use Rattle.terms.specs.Types.{Text}
use Rattle.smpe_rehearsal.specs.Told.{TellsFound}
use Rattle.smpe_command.proofs.questions.answer_why.Goals as goal

pub returns : goal.returns
returns g c = (
  Ok c.in_ok-zones.zones,
  c.in_ok-zones.ensures,
  subst (λ (ids : List Text). TellsFound g.O.Sink c.args.out.now c.answer_and_write.new.out
      (record {
        ids = ids;
        together = c.args.options.now.together;
        groupextend = c.args.options.now.group;
        bypass = c.args.bypass.now;
      }) (Ok c.in_ok-zones.zones) c.answer_and_write.result) c.as_slice.ensures.value c.answer_and_write.ensures,
)
