use Rattle.std.proofs.Common.{◌≡◌, ◌++◌, ◌∷◌, [], refl}
use Rattle.terms.specs.Forms.{IsId}
use Rattle.store_schema.proofs.PartLemmas.{none_listed, parts_grown, part_formed, part_last}
use Rattle.store_schema.proofs.column_lists.read_ids.Goals as goal

pub returns-in_default-clause-none : goal.returns-in_default-clause-none
returns-in_default-clause-none c bad listed =
    let wrong = c.in_default.ensures.form.1 (part_formed IsId c.args.parts.now c.loop-part.part-index _
    c.loop-part-test.true listed) in cc

pub returns-then-not-branch-clause-none : goal.returns-then-not-branch-clause-none
returns-then-not-branch-clause-none c bad listed =
    let last = part_last IsId c.args.parts.now c.loop-part.part-index _ c.loop-part-test.true listed in
    let fits = c.in_ok-push_last.ensures.fits.1 (rw (c.loop-part.invariant.same, c.in-Some.ensures.same) last) in
    cc

pub loop-part-init : goal.loop-part-init
loop-part-init c = record { same = c.new-list.ensures; listed = rw c.new-list.ensures (none_listed IsId) }

pub loop-part-preserved : goal.loop-part-preserved
loop-part-preserved c =
    let new : c.push_last.new.self ≡ c.loop-part.list ++ c.in-Some.id ∷ [] =
    rw c.if-not-branch.false at c.in_ok-push_last.ensures.ok in
    let it = parts_grown IsId c.args.parts.now c.loop-part.part-index _ c.loop-part-test.true c.loop-part.list
    c.push_last.new.self c.in-Some.id c.loop-part.invariant.same c.loop-part.invariant.listed c.in-Some.ensures.same
    (rw c.in-Some.ensures.same (c.in-Some.ensures.form.0 refl))
    (c.in_ok-push_last.ensures.fits.0 c.if-not-branch.false) new in
    record { same = it.0; listed = it.1 }
