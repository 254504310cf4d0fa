use Rattle.std.proofs.Common.{◌++◌, ◌∙◌, ap, map, subst, sym}
use Rattle.std.specs.Prelude.{◌↔◌, Contains}
use Rattle.std.specs.Ordering.{nat_cmp}
use Rattle.std.specs.Cmp.Lexicographic.{slice_cmp}
use Rattle.std.proofs.lemmas.Result.{IfOk-weaker}
use Rattle.terms.specs.Rising.{Rises}
use Rattle.terms.specs.Types.{Id}
use Rattle.judge_system.specs.declared.failure.Failure.{Failure}
use Rattle.report.specs.Views.{line_view}
use Rattle.smpe_service.specs.Lines.{line_in, AreListedLines}
use Rattle.smpe_service.proofs.restored.listed_lines.Goals as goal

pub restore_lines-requires : goal.restore_lines-requires
restore_lines-requires c =
    subst (Rises (slice_cmp nat_cmp) (λ (f : Id × Failure). f.0)) (sym c.as_slice-2.ensures.value) c.requires

pub returns : goal.returns
returns c =
    let g = c.args.global.now in
    let candidates = c.args.candidates.now in
    let kept = c.args.decided.now.kept in
    let failed = c.args.decided.now.failed.items in
    let ids = c.as_slice.result.now in
    IfOk-weaker c.restore_lines.result _ (λ lines. AreListedLines g candidates kept failed (map line_view lines.items))
    (λ lines are. record {
      ids = ids;
      rising = c.as_slice.ensures.rising;
      members = λ x. subst (λ xs. Contains xs x
          ↔ Contains (candidates.ids ++ map (λ p. p.0) candidates.left_out.items) x)
          (sym c.as_slice.ensures.items) (c.in_ok-ids.ensures x);
      lines_are = are ∙ ap (λ fs. map (line_in g kept fs) ids) c.as_slice-2.ensures.value;
    }) c.restore_lines.ensures
