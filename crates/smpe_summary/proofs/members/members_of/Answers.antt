use Rattle.std.proofs.Common.{◌≡◌, ◌++◌, ◌∙◌, ap, arith, sym, take, take_all}
use Rattle.std.specs.List.{flat_map}
use Rattle.std.proofs.lemmas.List.Folds.{flat_map-map}
use Rattle.std.specs.Ordering.{nat_cmp}
use Rattle.std.specs.Cmp.Lexicographic.{slice_cmp}
use Rattle.sorted.specs.MultiMap.{listed}
use Rattle.report.specs.Views.{line_view}
use Rattle.smpe_summary.specs.Asked.{Asked}
use Rattle.smpe_summary.specs.Groups.{line_member, other_member}
use Rattle.smpe_summary.proofs.members.members_of.Goals as goal

pub returns : goal.returns
returns c =
    let a = c.args.asked.now in
    let supers = listed (slice_cmp nat_cmp) c.args.supers.now in
    let cands = c.args.candidates.now in
    let lines = c.asked.inside.lines.now in
    let ids = c.as_slice-id-items.result.now in
    let first : c.loop-line.members.items ≡ flat_map (line_member a supers) a.lines =
    c.loop-line.invariant
    ∙ ap (flat_map (λ x. line_member a supers (line_view x))) (take_all c.loop-line.line-index lines (omega arith))
    ∙ sym (flat_map-map (line_member a supers) line_view lines)
    ∙ ap (λ (b : Asked). flat_map (line_member a supers) b.lines) c.asked.view_is in
    let second : take c.loop-id.id-index ids ≡ a.members =
    take_all c.loop-id.id-index ids (omega arith) ∙ c.as_slice-id-items.ensures.items
    ∙ ap (λ (b : Asked). b.members) c.asked.view_is in
    c.loop-id.invariant
    ∙ ap (λ l. l ++ flat_map (other_member a cands) (take c.loop-id.id-index ids)) first
    ∙ ap (λ xs. flat_map (line_member a supers) a.lines ++ flat_map (other_member a cands) xs) second
