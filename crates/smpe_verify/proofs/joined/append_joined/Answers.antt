use Rattle.std.proofs.Common.{◌≡◌, ◌∷◌, ◌++◌, ◌∙◌, ap, arith, map, rules, sym, take_all}
use Rattle.std.specs.List.{flat_map, join_with_byte}
use Rattle.smpe_verify.proofs.Joining.{all_joined}
use Rattle.smpe_verify.proofs.joined.append_joined.Goals as goal

pub returns : goal.returns
returns c =
    let rest = c.in-Some.rest.now in
    let words : c.args.words.now ≡ c.in-Some.first.now ∷ rest = search rules in
    all_joined (λ w. w.now) c.in-Some.first.now rest c.args.text.now.items c.extend_from_slice.new.self.items
    c.loop-word.text.items c.in_ok-extend_from_slice.ensures.items
    (c.loop-word.invariant ∙ ap (λ l. c.extend_from_slice.new.self.items ++ flat_map (λ w. 32 ∷ w.now) l)
    (take_all c.loop-word.word-index rest (omega arith)))
    ∙ ap (λ ws. c.args.text.now.items ++ join_with_byte 32 (map (λ w. w.now) ws)) (sym words)
