use Rattle.std.proofs.Common.{◌≡◌, ◌∙◌, true, false, sym, refl}
use Rattle.std.specs.List.{list_any}
use Rattle.indexmap.specs.IndexMap.{values}
use Rattle.terms.specs.declared.codes.IdRefusal.TheVariants as refusal
use Rattle.terms.specs.Lookups.{is_received, is_applied}
use Rattle.terms.specs.Global.{AppliedSomewhere, UnknownSysmod}
use Rattle.report.specs.declared.outcome.Status.TheVariants.{Refused}
use Rattle.smpe_global.proofs.Ids.{taken_out, left_in, on_ok}
use Rattle.smpe_global.proofs.rejected.remove_or_refuse.Goals as goal

pub returns-then-not-is_received : goal.returns-then-not-is_received
returns-then-not-is_received c =
    let zones = c.args.zones.now in
    left_in zones c.args.global.now c.args.id c.args.edits.now.items false
    (list_any (λ zone. is_applied zone c.args.id) (values zones)) UnknownSysmod (Refused refusal.UnknownSysmod)
    (sym c.is_received.ensures ∙ c.if-not-is_received.true) refl refl refl

pub returns-then-is_applied_somewhere : goal.returns-then-is_applied_somewhere
returns-then-is_applied_somewhere c =
    left_in c.args.zones.now c.args.global.now c.args.id c.args.edits.now.items true true AppliedSomewhere
    (Refused refusal.AppliedSomewhere)
    (sym c.is_received.ensures ∙ c.if-not-is_received.false)
    (sym c.is_applied_somewhere.ensures ∙ c.if-is_applied_somewhere.true) refl refl

pub returns : goal.returns
returns c =
    let g = c.args.global.now in
    let x = c.args.id in
    let there : is_received g x ≡ true = sym c.is_received.ensures ∙ c.if-not-is_received.false in
    let free : list_any (λ zone. is_applied zone x) (values c.args.zones.now) ≡ false =
    sym c.is_applied_somewhere.ensures ∙ c.if-is_applied_somewhere.false in
    taken_out c.args.zones.now g x c.reject.new.self c.args.edits.now.items c.push_sysmod_removal.new.edits.items
    c.attest.ensures there free c.in_ok-push_sysmod_removal.ensures
    (on_ok _ c.reject.result (c.reject.ensures.received.1 there) c.reject.ensures.ok)
