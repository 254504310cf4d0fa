use Rattle.std.proofs.Common.{◌∙◌, ◌+◌, ◌++◌, ap, drop, sym, refl, arith}
use Rattle.std.proofs.lemmas.List.{take_rest}
use Rattle.intake_list.specs.Entries.{keys_below, key_here}
use Rattle.intake_list.proofs.Rest.{rest_more, rest_stop, rest_all, keys_stop, keys_more}
use Rattle.intake_list.proofs.entry.add_keys_below.Goals as goal

pub returns-then-begins_entry : goal.returns-then-begins_entry
returns-then-begins_entry c =
    let l = c.loop-i in
    rest_stop keys_below c.args.below.now l.i c.index-below-i.result l.keys.items _ (omega arith) c.index-below-i.is
    (keys_stop c.index-below-i.result (drop (l.i + 1) c.args.below.now)
    (sym c.begins_entry.ensures ∙ c.if-begins_entry.true)) l.invariant

pub loop-i-preserved : goal.loop-i-preserved
loop-i-preserved c =
    let l = c.loop-i in
    let row = c.index-below-i.result in
    let below = c.args.below.now in
    rest_more keys_below keys_below below l.i row l.keys.items (key_here row (drop (l.i + 1) below))
    c.add_key_here.new.keys.items _ (omega arith) c.index-below-i.is
    (keys_more row (drop (l.i + 1) below) (sym c.begins_entry.ensures ∙ c.if-begins_entry.false))
    (c.in_ok-add_key_here.ensures ∙ ap (λ t. l.keys.items ++ key_here row t) (take_rest below (l.i + 1))) l.invariant

pub returns : goal.returns
returns c =
    let l = c.loop-i in
    rest_all keys_below c.args.below.now l.i l.keys.items _ (omega arith) refl l.invariant
