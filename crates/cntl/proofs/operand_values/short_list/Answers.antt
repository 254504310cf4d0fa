use Rattle.std.proofs.Common.{arith, map}
use Rattle.std.proofs.lemmas.List.{length-map}
use Rattle.rec80.specs.Views.{word_of}
use Rattle.cntl.proofs.Valued.{too_long}
use Rattle.cntl.proofs.operand_values.short_list.Goals as goal

pub returns-then-len-gt-MOST_MEMBERS-clause-bad : goal.returns-then-len-gt-MOST_MEMBERS-clause-bad
returns-then-len-gt-MOST_MEMBERS-clause-bad g c =
    too_long g.T.Member.form (word_of c.args.word.now) (map g.T.Member.text c.in_ok-list.list)
    c.in_ok-list.ensures.sorted (omega (
      arith,
      length-map c.in_ok-list.list g.T.Member.text,
      c.len.ensures,
      c.if-len-gt-MOST_MEMBERS.true,
    ))
