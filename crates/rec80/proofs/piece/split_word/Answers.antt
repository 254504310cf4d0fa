use Rattle.std.proofs.Common.{refl}
use Rattle.rec80.proofs.Cutting.{word_within, takes_word_piece, ahead_cut}
use Rattle.rec80.proofs.piece.split_word.Goals as goal

pub split_at-requires : goal.split_at-requires
split_at-requires c = word_within c.args.at.now.line.now c.word_len.result c.word_len.ensures

pub returns-clause-word : goal.returns-clause-word
returns-clause-word c = takes_word_piece c.args.at.now.line.now _ _ c.args.at.now.later.now c.word_len.result
    c.word_len.ensures c.split_at.ensures.front c.split_at.ensures.back c.requires

pub returns-clause-ahead : goal.returns-clause-ahead
returns-clause-ahead c = ahead_cut _ _ c.word_len.result _ c.split_at.ensures.front c.split_at.ensures.back refl
