use Rattle.std.proofs.Common.{◌≡◌, ◌-◌, ◌∙◌, ◌∷◌, length, sym, ap, arith}
use Rattle.sysmods.specs.Choices.{choice}
use Rattle.terms.specs.Over.{chain_from}
use Rattle.sysmods.proofs.Chains.{chain_first}
use Rattle.sysmods.proofs.chain.ChainIterator.next.Goals as goal
use Rattle.sysmods.proofs.chain.ChainIterator.next.Goals.{After-fmid-self-inside}

steps : (c : After-fmid-self-inside) → c.args.self.now ≡ c.in_ok-id.id ∷ chain_from (c.self.inside.steps_left - 1)
    (choice c.self.inside.vers.now) c.fmid-self-inside.result
steps c =
    let at = c.self.inside in
    let by = choice at.vers.now in
    sym c.self.view_is ∙ chain_first at.steps_left by at.next c.in_ok-id.id (omega (arith, c.if-self-eq0.false))
    c.in_ok-id.was
    ∙ ap (λ o. c.in_ok-id.id ∷ chain_from (at.steps_left - 1) by o) (sym c.fmid-self-inside.ensures)

pub returns-clause-steps : goal.returns-clause-steps
returns-clause-steps c = steps (goal.at.returns-clause-steps c).After-fmid-self-inside

pub returns-clause-goes : goal.returns-clause-goes
returns-clause-goes c =
    record {
      on = λ finite. (
        tt,
        tt,
        omega (
          arith,
          ap length
              (steps (goal.at.returns-clause-goes c).After-fmid-self-inside),
        ),
      );
      keeps = tt;
      rests = λ finite. tt;
    }
