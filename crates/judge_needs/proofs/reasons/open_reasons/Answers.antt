use Rattle.std.proofs.Common.{◌≡◌, ◌∙◌, ◌++◌, [], ◌∷◌, All, Contains, ap, append-nil, cond, filter, is_some, map, subst}
use Rattle.std.proofs.Common.{rules, sym, true≢false}
use Rattle.std.specs.Prelude.{◌↔◌, not, IsSome}
use Rattle.terms.specs.declared.kinds.HoldKind.TheVariants.{Error}
use Rattle.terms.specs.Types.{Hold, Id}
use Rattle.terms.specs.Forms.{IsReason}
use Rattle.terms.specs.Tests.{is_bypassed_hold}
use Rattle.judge_needs.proofs.Errors.{all_errors, found_next, is_error}
use Rattle.judge_needs.proofs.reasons.open_reasons.Goals as goal

pub loop-hold-init : goal.loop-hold-init
loop-hold-init c = record {
  found = search rules;
  errors = subst (All (λ h. h.kind ≡ Error))
      (sym (c.into_iter-hold-iterator.ensures.into_iter_gives ∙ c.holds_of-hold-items.ensures.rest))
      (all_errors c.global.result.now c.args.id);
}

pub loop-hold-preserved-then-is_bypassed_hold : goal.loop-hold-preserved-then-is_bypassed_hold
loop-hold-preserved-then-is_bypassed_hold c =
    let hold = c.in-Some.hold.now in
    let old = c.loop-hold.found.items in
    found_next c.args.scope.now.bypass.now _ hold c.loop-hold.hold-iterator c.next.new.self old
    c.in-Some.ensures.steps c.loop-hold.invariant old
    (sym (append-nil old) ∙ ap (λ b. old ++ cond (not b) (hold.reason ∷ []) []) c.if-is_bypassed_hold.ensures)

-- the reason of an ERROR hold is an id
pub loop-hold-preserved-in_default : goal.loop-hold-preserved-in_default
loop-hold-preserved-in_default c =
    let error : c.in-Some.hold.now.kind ≡ Error = is_error c.args.scope.now.bypass.now _ c.in-Some.hold.now
    c.loop-hold.hold-iterator c.next.new.self c.loop-hold.found.items c.in-Some.ensures.steps
    c.loop-hold.invariant in
    let some : IsSome c.as_id.result = c.as_id.ensures.form.1 (subst (λ kind. IsReason kind c.hold.inside.reason)
    (ap (λ (h : Hold). h.kind) c.hold.view_is ∙ error) c.hold.invariant) in
    absurd (true≢false (sym some ∙ ap is_some c.in_default.is))

pub loop-hold-preserved : goal.loop-hold-preserved
loop-hold-preserved c =
    let hold = c.in-Some.hold.now in
    let old = c.loop-hold.found.items in
    found_next c.args.scope.now.bypass.now _ hold c.loop-hold.hold-iterator c.next.new.self old
    c.in-Some.ensures.steps c.loop-hold.invariant c.push.new.self.items
    (c.in_ok-push.ensures.items
    ∙ ap (λ r. old ++ r ∷ []) (c.in-Some-as_id.ensures.same ∙ ap (λ (h : Hold). h.reason) c.hold.view_is)
    ∙ ap (λ b. old ++ cond (not b) (hold.reason ∷ []) []) c.if-is_bypassed_hold.ensures)

pub returns : goal.returns
returns c =
    let found = c.loop-hold.found.items in
    subst (λ l. (z : Id) → Contains c.from_vec.result z ↔ Contains l z)
    (sym (append-nil found)
    ∙ ap (λ l. found ++ map (λ h. h.reason) (filter (λ h. not (is_bypassed_hold c.args.scope.now.bypass.now h)) l))
    (sym c.in-None.ensures.steps.0) ∙ c.loop-hold.invariant.found) c.from_vec.ensures.members
