use Rattle.std.proofs.Common.{◌≡◌, ◌∙◌, ◌++◌, List, ap, sym, rules, None, append-nil}
use Rattle.std.specs.Str.{bytes_eq}
use Rattle.terms.specs.Types.{Id}
use Rattle.sysmods.specs.Held.{found}
use Rattle.sysmods.proofs.Named.{named_own, named_other}
use Rattle.sysmods.proofs.naming.NamingIdGraph.append_named.Goals as goal

pub returns-then-eq : goal.returns-then-eq
returns-then-eq c =
    c.in_ok-append_named.ensures
    ∙ ap (λ ys. c.args.found.now.items ++ ys) (named_own c.args.self.now.received.now c.args.self.now.sysmod.now
    c.args.self.now.srel c.args.id
    (ap (λ s. bytes_eq c.args.id s.id) (sym c.sysmod.view_is) ∙ sym c.eq.ensures ∙ c.if-eq.true))

pub returns-in-Some : goal.returns-in-Some
returns-in-Some c =
    c.in_ok-append_named-2.ensures
    ∙ ap (λ ys. c.args.found.now.items ++ ys) (named_other c.args.self.now.received.now c.args.self.now.sysmod.now
    c.args.self.now.srel c.args.id
    (ap (λ s. bytes_eq c.args.id s.id) (sym c.sysmod.view_is) ∙ sym c.eq.ensures ∙ c.if-eq.false) _ c.in-Some.ensures)

pub returns : goal.returns
returns c =
    let none : None ≡ found c.args.self.now.received.now c.args.id = search rules in
    sym (append-nil c.args.found.now.items)
    ∙ ap (λ (ys : List Id). c.args.found.now.items ++ ys) (named_other c.args.self.now.received.now
    c.args.self.now.sysmod.now c.args.self.now.srel c.args.id
    (ap (λ s. bytes_eq c.args.id s.id) (sym c.sysmod.view_is) ∙ sym c.eq.ensures ∙ c.if-eq.false) None none)
