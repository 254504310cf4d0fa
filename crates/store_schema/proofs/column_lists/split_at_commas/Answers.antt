-- The parts are those of the split.
use Rattle.std.proofs.Common.{rules, tests, arith, ◌≡◌, ◌≢◌, [], ◌∙◌, sym, map, subst, IfOk, length}
use Rattle.std.proofs.lemmas.Iterator.Consumers.{map_from_collect}
use Rattle.std.proofs.lemmas.Iterator.Splits.{YieldsList-from_slice_split}
use Rattle.store_schema.proofs.PartLemmas.{parts_are}
use Rattle.store_schema.proofs.column_lists.split_at_commas.Goals as goal

pub returns : goal.returns
returns c =
    let filled : c.args.text.now ≢ [] = λ e. absurd (let no = c.if-is_empty.false in let is = c.is_empty.ensures
    in grind (arith, Rattle.std.proofs.Common.ap length e)) in
    subst (λ text. IfOk c.collect.result (λ parts. map (λ part. part.now) parts.items ≡ text))
    (sym (parts_are c.args.text.now filled))
    (map_from_collect _ c.collect.ensures.ran (YieldsList-from_slice_split _ _ c.args.text.now c.split.ensures.rest
    c.split.ensures.done c.split.ensures.closure (λ x r q k. search (rules, tests))))
