use Rattle.std.proofs.Common.{◌∙◌, sym, ap}
use Rattle.rec80.specs.Views.{word_of}
use Rattle.terms.specs.Operands.{operand}
use Rattle.rec80.proofs.Finding.{operand_here, operand_there}
use Rattle.rec80.proofs.find.named_member.Goals as goal

pub returns-then-eq : goal.returns-then-eq
returns-then-eq c = λ ws l.
    let i = c.loop-member.invariant ws l in
    let t = c.in-Some.ensures.member i.0 i.1 in
    sym (i.2 ∙ operand_here c.args.name.now (word_of c.in-Some.member) i.0 t.0 t.1 (sym c.eq.ensures ∙ c.if-eq.true))

pub loop-member-preserved : goal.loop-member-preserved
loop-member-preserved c = λ ws l.
    let i = c.loop-member.invariant ws l in
    let t = c.in-Some.ensures.member i.0 i.1 in (
      t.0,
      t.2,
      i.2 ∙ operand_there c.args.name.now (word_of c.in-Some.member) i.0 t.0 t.1
          (sym c.eq.ensures ∙ c.if-eq.false),
    )

pub returns : goal.returns
returns c = λ ws l.
    let i = c.loop-member.invariant ws l in
    sym (i.2 ∙ ap (operand c.args.name.now) (c.in_default.ensures.none i.0 i.1))
