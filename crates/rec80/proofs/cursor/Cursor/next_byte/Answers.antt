use Rattle.rec80.proofs.Places.{ahead_byte, ahead_record}
use Rattle.std.proofs.Common.{refl}
use Rattle.rec80.proofs.cursor.Cursor.next_byte.Goals as goal

pub returns-in-Some-clause-ahead : goal.returns-in-Some-clause-ahead
returns-in-Some-clause-ahead c = ahead_byte _ _ c.in-Some.byte.now c.in-Some.ensures.cases.0 refl

pub returns-clause-ahead : goal.returns-clause-ahead
returns-clause-ahead c = ahead_record _ _ c.in_ok-card.card.now c.in_ok-card.ensures.cases.0 c.text_columns.ensures
