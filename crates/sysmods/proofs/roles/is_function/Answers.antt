use Rattle.std.proofs.Common.{◌∙◌, ap, sym, None}
use Rattle.std.specs.Str.{bytes_eq}
use Rattle.sysmods.proofs.Joined.{function_own, function_other}
use Rattle.sysmods.proofs.roles.is_function.Goals as goal

pub returns-then-eq : goal.returns-then-eq
returns-then-eq c =
    c.has_function_kind.ensures ∙ function_own c.args.received.now c.args.sysmod.now c.args.id
    (ap (λ s. bytes_eq c.args.id s.id) (sym c.sysmod.view_is) ∙ sym c.eq.ensures ∙ c.if-eq.true)

pub returns-in-Some : goal.returns-in-Some
returns-in-Some c =
    c.has_function_kind-in-Some.ensures ∙ function_other c.args.received.now c.args.sysmod.now c.args.id
    (ap (λ s. bytes_eq c.args.id s.id) (sym c.sysmod.view_is) ∙ sym c.eq.ensures ∙ c.if-eq.false) _
    c.in-Some.ensures

pub returns-in-None : goal.returns-in-None
returns-in-None c =
    function_other c.args.received.now c.args.sysmod.now c.args.id
    (ap (λ s. bytes_eq c.args.id s.id) (sym c.sysmod.view_is) ∙ sym c.eq.ensures ∙ c.if-eq.false) None
    c.in-None.ensures
