use Rattle.std.proofs.Common.{◌≡◌, ◌∙◌, ◌-◌, arith, replicate, ap, ◌++◌}
use Rattle.smpe_why.proofs.bypass_text.fill_record.Goals as goal

pub returns : goal.returns
returns c =
    let all : c.loop-place._place ≡ 80 - c.args.column = omega (arith, c.saturating_sub-place-end.ensures) in
    c.loop-place.invariant ∙ ap (λ n. c.args.file.now.items ++ replicate n 32) all
