use Rattle.std.proofs.Common.{◌≡◌, ap, map, refl, subst, sym, List}
use Rattle.std.specs.Prelude.{option_copied, IfOk}
use Rattle.std.proofs.lemmas.Result.{IfOk-weaker}
use Rattle.machine.specs.Installing.{InstallsSelected}
use Rattle.machine.specs.Outcome.{Line}
use Rattle.report.specs.Views.{line_view}
use Rattle.smpe_why.specs.Telling.{Inquiry, AreToldBy}
use Rattle.smpe_why.proofs.told.describe_selected_ids.Goals as goal

pub describe_ids-requires : goal.describe_ids-requires
describe_ids-requires c = record {
  global_is = c.in_ok-vers.ensures.global;
  zone_is = refl;
  rising = c.in_ok-candidates.ensures.members.rising;
  srel_is = c.in_ok-vers.ensures.srel;
  choice_is = c.in_ok-vers.ensures.counting;
  numbers_are = c.in_ok-vers.ensures.numbers;
}

pub returns : goal.returns
returns c =
    let g = c.args.lookups.now.global.now in
    let zone = c.args.lookups.now.zone.now in
    let related = option_copied c.args.related in
    let selection = c.in_ok-selection.selection in
    let bypass = c.question.inside.bypass.now in
    let lines : c.as_slice-lines.result.now ≡ c.in_ok-lines.lines.items = c.as_slice-lines.ensures.value in
    subst (λ (a : Inquiry). IfOk c.describe_ids.result (λ told. AreToldBy g zone related a c.args.ids.now
    told.text.items told.status)) c.question.view_is
    (IfOk-weaker c.describe_ids.result _ _ (λ told in_turn. record {
      cands = c.in_ok-candidates.field-0.ids;
      lines = map line_view c.as_slice-lines.result.now;
      prints = record {
        selection = selection;
        selects = c.in_ok-selection.ensures;
        candidates = c.in_ok-candidates.ensures.members;
        date = c.in_ok-lines.ensures.0;
        new = c.in_ok-lines.ensures.1;
        installs = subst (λ (l : List Line). InstallsSelected g zone related selection bypass c.in_ok-lines.ensures.0
            c.in_ok-lines.ensures.1 l) (ap (map line_view) (sym lines)) c.in_ok-lines.ensures.2;
      };
      told = in_turn;
    }) c.describe_ids.ensures)
