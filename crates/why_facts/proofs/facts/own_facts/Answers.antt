use Rattle.std.proofs.Common.{◌∙◌, ◌++◌, ap, map}
use Rattle.std.proofs.lemmas.Result.{IfOk-weaker}
use Rattle.terms.specs.Lookups.{is_in}
use Rattle.terms.specs.Choice.{vers_of, fits}
use Rattle.report.specs.Facts.{SupersederFact, numbered_facts, standing_facts, ver_facts}
use Rattle.report.specs.FactViews.{fact_view}
use Rattle.why_facts.specs.Asking.{setting_in}
use Rattle.why_facts.proofs.Together.{seen_behind}
use Rattle.why_facts.proofs.facts.own_facts.Goals as goal

pub returns : goal.returns
returns c =
    let s = setting_in c.args.asking.now in
    let x = c.args.asking.now.id in
    let first = c.in_ok-facts.ensures in
    IfOk-weaker c.join_facts.result _ _
    (λ all is. (
      first.0,
      first.1,
      seen_behind fact_view all.items c.in_ok-facts.facts.items c.in_ok-vers.vers.items
          (standing_facts c.args.lookups.now.global.now c.args.lookups.now.zone.now x ++ map SupersederFact first.0)
          (ver_facts s x) is first.2
          (c.in_ok-vers.ensures
          ∙ ap (λ n. numbered_facts (fits s.zone (is_in s.cands)) n 1 (vers_of s.global s.zone.srel x)) c.requires),
    ))
    c.join_facts.ensures
