use Rattle.std.proofs.Common.{◌≡◌, [], ◌∷◌, ◌++◌, ◌∙◌, ◌<◌, ap, arith, rules, length, take_all}
use Rattle.std.specs.List.{flat_map}
use Rattle.std.proofs.lemmas.Result.{IfOk-equal}
use Rattle.report.specs.WordTexts.{inner_line}
use Rattle.report.proofs.Texts.{flat_more}
use Rattle.why_facts.proofs.TextParts.{id_lines_none, id_lines_some}
use Rattle.why_facts.proofs.asked_lines.append_id_lines.Goals as goal

pub returns-then-is_empty : goal.returns-then-is_empty
returns-then-is_empty c =
    let none : length c.args.ids.now ≡ 0 = search rules in
    IfOk-equal c.append_words.result c.append_words.new.text.items _ _ c.append_words.ensures
    (ap (λ t. c.args.text.now.items ++ t) (id_lines_none c.args.word.now c.args.ids.now none))

pub loop-id-preserved : goal.loop-id-preserved
loop-id-preserved c =
    flat_more (λ id. inner_line (c.args.word.now ∷ id ∷ [])) c.args.ids.now c.loop-id.id-index c.id-item.result
    c.args.text.now.items c.loop-id.text.items c.append_words-in-loop-id.new.text.items (omega arith) c.id-item.is
    c.loop-id.invariant (rw (← c.as_bytes.ensures.same) c.in_ok-append_words.ensures)

pub returns : goal.returns
returns c =
    let some : 0 < length c.args.ids.now = search rules in
    c.loop-id.invariant
    ∙ ap (λ l. c.args.text.now.items ++ flat_map (λ id. inner_line (c.args.word.now ∷ id ∷ [])) l)
    (take_all c.loop-id.id-index c.args.ids.now (omega arith))
    ∙ ap (λ t. c.args.text.now.items ++ t) (id_lines_some c.args.word.now c.args.ids.now some)
