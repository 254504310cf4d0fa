use Rattle.rec80.specs.Views.{word_of}
use Rattle.terms.proofs.ExactOperands.{has_member}
use Rattle.rec80.proofs.Owning.{read_one, read_none}
use Rattle.rec80.proofs.single_operands.one.Goals as goal

pub returns-in_err-one_member-clause-none : goal.returns-in_err-one_member-clause-none
returns-in_err-one_member-clause-none g c =
    rw c.from_residual.ensures (λ v h. c.in_err-one_member.ensures.none v
    (has_member g.T.Member.form (word_of c.args.word.now).list v h).0)

pub returns-clause-one : goal.returns-clause-one
returns-clause-one g c =
    read_one g.T.Member.form g.T.Member.text (word_of c.args.word.now).list c.in_ok-one_member.field-0.now c.read.result
    c.in_ok-one_member.ensures.one c.read.ensures.good c.read.ensures.same

pub returns-clause-none : goal.returns-clause-none
returns-clause-none g c = read_none g.T.Member.form (word_of c.args.word.now).list c.in_ok-one_member.field-0.now c.read.result
    c.in_ok-one_member.ensures.one c.read.ensures.good
