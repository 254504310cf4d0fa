use Rattle.std.proofs.Common.{not, map, subst, sym, ◌∙◌}
use Rattle.std.specs.Prelude.{IsTrue}
use Rattle.std.specs.List.{list_any}
use Rattle.std.proofs.lemmas.Bool.{true≢false}
use Rattle.intake_carry.specs.Unsure.{has_id}
use Rattle.intake_carry.proofs.UnsureNames.{left_more, seen_still, seen_last}
use Rattle.intake_carry.proofs.left_out_sysmods.push_if_left_out.Goals as goal

pub returns-then-not-is_left_out : goal.returns-then-not-is_left_out
returns-then-not-is_left_out c = λ items are before all.
    let left = map (λ l. l.now) c.args.left.now.items in
    left_more items before left left c.args.stated.now (λ x h. h)
    (λ t. absurd (true≢false (sym (c.is_left_out.ensures items are
    (subst (λ i. IsTrue (not (list_any (has_id i) items))) (sym c.as_slice.ensures.value) t))
    ∙ c.if-not-is_left_out.true))) all

pub returns : goal.returns
returns c = λ items are before all.
    let left = c.args.left.now.items in
    let new = c.push.new.self.items in
    left_more items before (map (λ l. l.now) left) (map (λ l. l.now) new) c.args.stated.now
    (seen_still (λ l. l.now) left new c.args.stated c.in_ok-push.ensures.items)
    (λ t. seen_last (λ l. l.now) left new c.args.stated c.in_ok-push.ensures.items) all
