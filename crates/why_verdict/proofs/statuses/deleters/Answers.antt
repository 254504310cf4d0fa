use Rattle.std.proofs.Common.{◌≡◌, ◌∙◌, Bool, [], true, false, ap, map, sym}
use Rattle.std.specs.Prelude.{if◌then◌else◌}
use Rattle.std.proofs.lemmas.Result.{IfOk-weaker}
use Rattle.terms.specs.Lookups.{is_in}
use Rattle.report.specs.Views.{line_view}
use Rattle.why_verdict.specs.Conflicts.{is_chain_deleted, passes_alone, ids_where, others}
use Rattle.why_verdict.proofs.statuses.deleters.Goals as goal

pub returns-then-is_among : goal.returns-then-is_among
returns-then-is_among c =
    let lines = map line_view c.args.lines.now in
    let id = c.args.id in
    let among : true ≡ is_in (ids_where is_chain_deleted lines) id =
    sym c.if-is_among.true ∙ c.is_among.ensures
    ∙ ap (λ l. is_in l id) (c.as_slice.ensures.value ∙ c.in_ok-deleted.ensures) in
    IfOk-weaker c.without_id.result _ _ (λ found are.
    are ∙ ap (others id) (c.as_slice-then-is_among.ensures.value ∙ c.in_ok-passing.ensures)
    ∙ ap (λ (b : Bool). if b then others id (ids_where passes_alone lines) else []) among) c.without_id.ensures

pub returns : goal.returns
returns c =
    let lines = map line_view c.args.lines.now in
    let id = c.args.id in
    let among : false ≡ is_in (ids_where is_chain_deleted lines) id =
    sym c.if-is_among.false ∙ c.is_among.ensures
    ∙ ap (λ l. is_in l id) (c.as_slice.ensures.value ∙ c.in_ok-deleted.ensures) in
    c.new.ensures.items ∙ ap (λ (b : Bool). if b then others id (ids_where passes_alone lines) else []) among
