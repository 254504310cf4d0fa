use Rattle.std.proofs.Common.{◌≡◌, length, take, sym, ◌∙◌, ap}
use Rattle.std.proofs.lemmas.List.{take_more}
use Rattle.terms.proofs.Texts.{lines_more}
use Rattle.text80.proofs.line.bytes_of.Goals as goal

pub loop-line-preserved : goal.loop-line-preserved
loop-line-preserved c =
    let line = c.line-item.result in
    let len : length line ≡ 80 = ap length (sym c.bytes.ensures.bytes) ∙ c.bytes.ensures.len in
    let h = lines_more c.loop-line.bytes.items (take c.loop-line.line-index c.args.lines.now) line c.loop-line.invariant
    len in
    rw (
      take_more c.args.lines.now c.loop-line.line-index line c.loop-line-test.true,
      ← c.line-item.is,
      c.in_ok-extend_from_slice.ensures.items,
      c.bytes.ensures.bytes,
    ) h
