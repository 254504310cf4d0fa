use Rattle.std.proofs.Common.{[], ◌∷◌, OnOk, subst}
use Rattle.terms.specs.Types.{Hold}
use Rattle.store_rows.specs.Calls.{RunsInside}
use Rattle.store_rows.specs.Inside.{Turns}
use Rattle.store_rows.specs.Rows.{HasContents, with_put}
use Rattle.store_rows.proofs.InsideLemmas.{on_ok}
use Rattle.store_rows.proofs.Bound.{as_put, kept_as}
use Rattle.store_schema.specs.Rows.{hold_row}
use Rattle.store_schema.specs.Tables.{store_schema, hold}
use Rattle.store_sysmods.specs.Holds.{upsert_hold, upsert_hold_calls, hold_key}
use Rattle.sysmods_values.specs.contracts.hold.Hold.{the_view}
use Rattle.store_sysmods.proofs.HoldLemmas.{kept_hold, hold_bound}
use Rattle.store_sysmods.proofs.HoldTexts.{puts_hold}
use Rattle.store_sysmods.proofs.hold.upsert_hold.Given.{Over}
use Rattle.store_sysmods.proofs.hold.upsert_hold.Goals.{After-upsert}
use Rattle.store_sysmods.proofs.hold.upsert_hold.Goals as goal

-- the statement ran, and the table holds the hold
abbrev Puts : (g : Over) → After-upsert g → Hold → Type 0
Puts g c h =
    RunsInside g.S.Store (upsert_hold_calls h) c.args.tx.now.conn.now c.upsert.new.tx.conn.now c.upsert.result
    × OnOk c.upsert.result (Turns g.S.Store c.args.tx.now.conn.now c.upsert.new.tx.conn.now (HasContents store_schema)
    (with_put hold (hold_key h) (hold_row h)))

puts : (g : Over) (c : After-upsert g) → Puts g c c.args.hold.now
puts g c =
    let h = the_view c.hold.inside in
    let row = hold_bound c.as_bytes.result.now c.hold_text.result.now c.as_bytes-2.result.now c.as_bytes-3.result.now
    c.text_or_null-class.result c.text_or_null-date.result c.comment_value-comment.result c.flag_value-internal.result h
    c.as_bytes.ensures.same c.hold_text.ensures c.as_bytes-2.ensures.same c.as_bytes-3.ensures.same
    c.text_or_null-class.ensures c.text_or_null-date.ensures c.comment_value-comment.ensures
    c.flag_value-internal.ensures
    in
    subst (Puts g c) c.hold.view_is (
      subst (λ r. RunsInside g.S.Store ((upsert_hold, r) ∷ []) c.args.tx.now.conn.now c.upsert.new.tx.conn.now c.upsert.result)
          row c.upsert.ensures.calls,
      on_ok c.upsert.result _ _ (λ ran. as_put g.S.Store c.args.tx.now.conn.now c.upsert.new.tx.conn.now store_schema hold 3
          (hold_row h) _ row (ran store_schema 4 hold 3 puts_hold (kept_as hold (hold_row h) _ row (kept_hold h))))
          c.upsert.ensures.ok,
    )

pub returns-clause-ok : goal.returns-clause-ok
returns-clause-ok g c = (puts g (goal.at.returns-clause-ok g c).After-upsert).1

pub returns-clause-calls : goal.returns-clause-calls
returns-clause-calls g c = (puts g (goal.at.returns-clause-calls g c).After-upsert).0
