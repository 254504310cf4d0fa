use Rattle.std.proofs.Common.{◌∙◌, ◌+◌, ◌∷◌, [], List, map, drop, ap, sym, refl, arith}
use Rattle.std.specs.Borrow.{Bor}
use Rattle.terms.specs.Types.{Text}
use Rattle.intake_list.specs.Rows.{row_of, rows_from}
use Rattle.intake_list.proofs.Rest.{rest_more_at, rest_all}
use Rattle.intake_list.proofs.row.rows_of.Goals as goal

pub loop-i-preserved : goal.loop-i-preserved
loop-i-preserved c =
    let l = c.loop-i in
    let control = c.args.control in
    let lines = c.args.lines.now in
    rest_more_at (λ (ls : List (Bor Text)). rows_from control (l.i + 1) (map (λ (w : Bor Text). w.now) ls))
    (λ (ls : List (Bor Text)). rows_from control (l.i + 1 + 1) (map (λ (w : Bor Text). w.now) ls)) lines l.i _
    l.rows.items (c.in_ok-row.row ∷ []) c.push.new.self.items _ (omega arith)
    (ap (λ r. r ∷ rows_from control (l.i + 1 + 1) (map (λ (w : Bor Text). w.now) (drop (l.i + 1) lines)))
    (sym (c.in_ok-row.ensures ∙ ap (row_of (l.i + 1)) c.columns.ensures))) c.in_ok-push.ensures.items l.invariant

pub returns : goal.returns
returns c =
    let control = c.args.control in
    rest_all (λ (ls : List (Bor Text)). rows_from control (c.loop-i.i + 1) (map (λ (w : Bor Text). w.now) ls))
    c.args.lines.now c.loop-i.i c.loop-i.rows.items _ (omega arith) refl c.loop-i.invariant
