use Rattle.std.proofs.Common.{◌≡◌, ◌++◌, ◌∙◌, ◌∷◌, [], Contains, ap, append-nil, arith, cond, get_or, length, map, refl}
use Rattle.std.proofs.Common.{subst, sym}
use Rattle.std.specs.Prelude.{◌↔◌}
use Rattle.std.specs.Option.{option_map}
use Rattle.std.proofs.lemmas.Option.{slice_get-get_or, slice_get-map, slice_get_read}
use Rattle.terms.specs.Types.{Id}
use Rattle.judge_system.specs.TestSets.{tests_of}
use Rattle.judge.specs.Surviving.{SurvivesIn}
use Rattle.judge.proofs.Survivors.{survivors_next, survivors_none}
use Rattle.judge.proofs.surviving.survivors.Goals as goal

pub loop-i-preserved-then-not-survives_with : goal.loop-i-preserved-then-not-survives_with
loop-i-preserved-then-not-survives_with c =
    let ids = c.args.ids.now in
    let tests = c.args.tests.now in
    let i = c.loop-i.i in
    let row = tests_of c.item_at.result in
    let old = c.loop-i.found.items in
    survivors_next ids (map tests_of tests) i (get_or ids i []) row old old (slice_get-get_or ids i [] (omega arith))
    (slice_get-map tests_of tests i ∙ ap (option_map tests_of) c.item_at.ensures)
    (sym (ap (λ b. old ++ cond b (get_or ids i [] ∷ []) [])
    (sym c.survives_with.ensures ∙ c.if-not-survives_with.true) ∙ append-nil old)) c.loop-i.invariant

pub loop-i-preserved : goal.loop-i-preserved
loop-i-preserved c =
    let ids = c.args.ids.now in
    let tests = c.args.tests.now in
    let i = c.loop-i.i in
    let id = c.index-as_slice-i.result in
    let old = c.loop-i.found.items in
    survivors_next ids (map tests_of tests) i id (tests_of c.item_at.result) old c.push.new.self.items
    (slice_get_read ids (length ids) i id refl (omega arith) (rw c.as_slice.ensures.items at c.index-as_slice-i.is))
    (slice_get-map tests_of tests i ∙ ap (option_map tests_of) c.item_at.ensures)
    (c.in_ok-push.ensures.items ∙ sym (ap (λ b. old ++ cond b (id ∷ []) [])
    (sym c.survives_with.ensures ∙ c.if-not-survives_with.false))) c.loop-i.invariant

pub loop-i-init : goal.loop-i-init
loop-i-init c =
    subst (λ l. (x : Id) → Contains l x ↔ SurvivesIn c.args.ids.now (map tests_of c.args.tests.now) 0 x)
    (sym c.new-found.ensures.items) (survivors_none c.args.ids.now (map tests_of c.args.tests.now))

pub returns-clause-members : goal.returns-clause-members
returns-clause-members c x =
    let done : c.loop-i.i ≡ length c.args.ids.now = omega arith in
    let all = subst (λ n. Contains c.loop-i.found.items x
    ↔ SurvivesIn c.args.ids.now (map tests_of c.args.tests.now) n x) done (c.loop-i.invariant x) in (
      λ h. all.0 ((c.from_vec.ensures.members x).0 h),
      λ h. (c.from_vec.ensures.members x).1 (all.1 h),
    )
