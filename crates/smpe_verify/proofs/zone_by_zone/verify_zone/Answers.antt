use Rattle.std.proofs.Common.{◌≡◌, ◌∙◌, sym, ap, rules, Option, None, Some}
use Rattle.std.specs.Prelude.{option_and_then}
use Rattle.std.specs.Option.{option_map_or}
use Rattle.terms.specs.Types.{Zone}
use Rattle.smpe_verify.specs.Verified.{breach_in, with_zone}
use Rattle.store.proofs.Successive.{handed_on, answered, ran_short}
use Rattle.smpe_verify.proofs.zone_by_zone.verify_zone.Goals as goal

pub returns-in_err-named_zone-clause-loads : goal.returns-in_err-named_zone-clause-loads
returns-in_err-named_zone-clause-loads g c = handed_on g.S.Store _ _ c.args.store.now c.load_zone.new.self
    c.in_err-named_zone.field-0.0
    c.from_residual.result c.from_residual.ensures.1 c.in_err-named_zone.ensures.loads

pub returns-in_default-clause-loads : goal.returns-in_default-clause-loads
returns-in_default-clause-loads g c =
    let old = c.args.counts.now in
    let none : c.in_ok-named_zone.named_zone ≡ None = search rules in
    answered g.S.Store _ _ c.args.store.now c.load_zone.new.self c.in_ok-named_zone.named_zone None
    (λ i inventory is. (
      sym (ap (option_and_then (breach_in c.args.global.now)) (sym is ∙ none)),
      sym (ap (λ (zone : Option Zone). option_map_or (with_zone old) zone old) (sym is ∙ none)),
    ))
    c.in_ok-named_zone.ensures.loads

pub returns-in_err-count_zone-clause-loads : goal.returns-in_err-count_zone-clause-loads
returns-in_err-count_zone-clause-loads g c = ran_short g.S.Store _ _ c.args.store.now c.load_zone.new.self
    c.in_ok-named_zone.named_zone
    c.from_residual-in_err-count_zone.result (g.met.S.Store.settled c.load_zone.new.self.store)
    c.from_residual-in_err-count_zone.ensures.1 c.in_ok-named_zone.ensures.loads

pub returns-in_err-first_breach-clause-loads : goal.returns-in_err-first_breach-clause-loads
returns-in_err-first_breach-clause-loads g c = ran_short g.S.Store _ _ c.args.store.now c.load_zone.new.self
    c.in_ok-named_zone.named_zone
    c.from_residual-in_err-first_breach.result (g.met.S.Store.settled c.load_zone.new.self.store)
    c.from_residual-in_err-first_breach.ensures.1 c.in_ok-named_zone.ensures.loads

pub returns-clause-loads : goal.returns-clause-loads
returns-clause-loads g c =
    let old = c.args.counts.now in
    let some : c.in_ok-named_zone.named_zone ≡ Some c.in-Some.zone = search rules in
    answered g.S.Store _ _ c.args.store.now c.load_zone.new.self c.in_ok-named_zone.named_zone _
    (λ i inventory is. (
      c.in_ok-first_breach.ensures.first ∙ ap (option_and_then (breach_in c.args.global.now)) (sym some ∙ is),
      c.in_ok-count_zone.ensures ∙ ap (λ (zone : Option Zone). option_map_or (with_zone old) zone old) (sym some ∙ is),
    ))
    c.in_ok-named_zone.ensures.loads

pub returns-in_default-clause-rows : goal.returns-in_default-clause-rows
returns-in_default-clause-rows g c clean =
    (c.in_ok-named_zone.named_zone, c.in_ok-named_zone.ensures.rows clean)

pub returns-clause-rows : goal.returns-clause-rows
returns-clause-rows g c clean = (c.in_ok-named_zone.named_zone, c.in_ok-named_zone.ensures.rows clean)
