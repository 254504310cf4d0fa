use Rattle.std.proofs.Common.{◌≡◌, ◌∙◌, ◌+◌, true, length, ap, sym, arith}
use Rattle.std.specs.Prelude.{vec_len}
use Rattle.std.specs.Str.{bytes_eq}
use Rattle.terms.specs.Types.{Ver}
use Rattle.terms.specs.Lookups.{is_in}
use Rattle.terms.specs.Choice.{fits}
use Rattle.sysmods.specs.Choices.{number_in}
use Rattle.report.specs.FactViews.{fact_view}
use Rattle.why_facts.proofs.Numbering.{numbered_push}
use Rattle.why_facts.proofs.vers.push_ver_fact.Goals as goal

pub returns-in_ok-push : goal.returns-in_ok-push
returns-in_ok-push c vs before =
    let scope = c.args.scope.now in
    let facts = c.args.facts.now in
    let ver = c.args.ver.now in
    let same : bytes_eq ver.srel scope.zone.now.srel ≡ true =
    ap (λ (v : Ver). bytes_eq v.srel scope.zone.now.srel) (sym c.ver.view_is)
    ∙ ap (λ s. bytes_eq c.ver.inside.srel s) (sym c.srel.ensures) ∙ sym c.eq.ensures ∙ c.if-eq.true in
    let len : vec_len facts ≡ length facts.items = omega (arith, facts.ok) in
    rw same
    (numbered_push (fits scope.zone.now (is_in scope.ids.now)) (number_in scope.vers.now c.args.id) fact_view
    facts.items c.push.new.self.items c.ver_fact.result (c.len-number.result + 1) vs ver before
    c.in_ok-push.ensures.items
    (ap (λ k. k + 1) (c.len-number.ensures ∙ len)) c.ver_fact.ensures)
