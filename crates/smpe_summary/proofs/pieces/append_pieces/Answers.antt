use Rattle.std.proofs.Common.{◌++◌, ◌∙◌, ap, arith, take_all}
use Rattle.std.specs.List.{flat_map}
use Rattle.smpe_summary.specs.Text.{piece_text}
use Rattle.smpe_summary.proofs.Growing.{grown_more}
use Rattle.smpe_summary.proofs.pieces.append_pieces.Goals as goal

pub loop-piece-preserved : goal.loop-piece-preserved
loop-piece-preserved c =
    grown_more (piece_text) c.args.pieces.now c.loop-piece.piece-index c.piece-item.result c.args.text.now.items
    c.loop-piece.text.items c.append_piece.new.text.items (omega arith) c.piece-item.is c.loop-piece.invariant
    c.in_ok-append_piece.ensures

pub returns : goal.returns
returns c =
    c.loop-piece.invariant ∙ ap (λ l. c.args.text.now.items ++ flat_map (piece_text) l) (take_all c.loop-piece.piece-index c.args.pieces.now (omega arith))
