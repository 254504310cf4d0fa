use Rattle.std.proofs.Common.{◌≡◌, ◌∙◌, sym, ap, arith, rules, None, Some}
use Rattle.std.specs.Prelude.{option_map}
use Rattle.terms.specs.Types.{Entry}
use Rattle.sysmods.specs.Choices.{choice}
use Rattle.smpe_verify.specs.declared.breach.Breach.TheVariants.{OfEntry}
use Rattle.smpe_verify.specs.FirstBreach.{first_of, entry_breach}
use Rattle.smpe_verify.proofs.FirstOf.{passes, stops, ends}
use Rattle.smpe_verify.proofs.closed.first_entry_breach.Goals as goal

pub loop-entry-preserved : goal.loop-entry-preserved
loop-entry-preserved c =
    let breach = entry_breach c.args.vers.now.global.now (choice c.args.vers.now) c.args.zone.now in
    let e = c.entry-item.result in
    let none : c.in_ok-broken_rule.broken_rule ≡ None = search rules in
    passes breach c.entries-entry-items.result.now c.loop-entry.entry-index e (omega arith) c.entry-item.is
    (ap (option_map (OfEntry e.id)) (sym c.in_ok-broken_rule.ensures ∙ none)) c.loop-entry.invariant

pub returns-in-Some : goal.returns-in-Some
returns-in-Some c =
    let breach = entry_breach c.args.vers.now.global.now (choice c.args.vers.now) c.args.zone.now in
    let e = c.entry-item.result in
    let fault = c.in-Some.fault in
    let some : c.in_ok-broken_rule.broken_rule ≡ Some fault = search rules in
    ap (λ (e : Entry). Some (OfEntry e.id fault)) c.entry.view_is
    ∙ stops breach c.entries-entry-items.result.now c.loop-entry.entry-index e (OfEntry e.id fault) (omega arith)
    c.entry-item.is
    (ap (option_map (OfEntry e.id)) (sym c.in_ok-broken_rule.ensures ∙ some)) c.loop-entry.invariant
    ∙ ap (first_of breach) c.entries-entry-items.ensures.same

pub returns : goal.returns
returns c =
    let breach = entry_breach c.args.vers.now.global.now (choice c.args.vers.now) c.args.zone.now in
    ends breach c.entries-entry-items.result.now c.loop-entry.entry-index (omega arith) c.loop-entry.invariant
    ∙ ap (first_of breach) c.entries-entry-items.ensures.same
