use Rattle.std.proofs.Common.{◌∙◌, sym, true≢false}
use Rattle.sysmods.proofs.Joined.{own_fit_holds, others_fit_holds, all_fit}
use Rattle.sysmods.proofs.roles.roles_fit.Goals as goal

pub returns-then-own_roles_fit : goal.returns-then-own_roles_fit
returns-then-own_roles_fit c = (
  λ test. all_fit c.args.received.now c.args.sysmod.now c.requires.fit
      (c.own_roles_fit.ensures.0 c.if-own_roles_fit.true) (sym c.namers_roles_fit.ensures ∙ test),
  λ all. c.namers_roles_fit.ensures ∙ others_fit_holds c.args.received.now c.args.sysmod.now c.requires.new all,
)

pub returns-else-own_roles_fit : goal.returns-else-own_roles_fit
returns-else-own_roles_fit c = (
  λ test. absurd (true≢false (sym test ∙ c.if-own_roles_fit.false)),
  λ all. c.own_roles_fit.ensures.1 (own_fit_holds c.args.received.now c.args.sysmod.now all),
)
