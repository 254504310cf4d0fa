use Rattle.std.proofs.Common.{◌≡◌, ◌∙◌, refl, true, true≢false, subst, sym}
use Rattle.std.specs.Str.{bytes_eq}
use Rattle.terms.proofs.TextOrder.{same_itself}
use Rattle.std.specs.Prelude.{nat_eq}
use Rattle.std.proofs.lemmas.Bool.{eqb-true}
use Rattle.judge_faults.proofs.Marks.{marks_insert}
use Rattle.judge_faults.proofs.Naming.{either_marked, named_none, named_there}
use Rattle.judge_faults.proofs.clashes.mark_npre_pair.Goals as goal

pub returns : goal.returns
returns c =
    let old = c.args.marked.now.keys in
    let middle = c.insert.new.self.keys in
    let new = c.insert-2.new.self.keys in
    named_there c.args.ids.now c.args.faults.now c.args.place c.in-Some.other c.args.id c.args.named
    old new
    (λ same. true≢false (sym (c.eq.ensures ∙ subst (λ x. bytes_eq c.args.id x ≡ true) same (same_itself c.args.id))
    ∙ c.if-eq.false))
    (rw c.in-Some.is at c.passing_place.ensures)
    (either_marked c.args.place c.in-Some.other old middle new
    (marks_insert nat_eq eqb-true old middle c.args.place c.in_ok-insert.ensures.keys)
    (marks_insert nat_eq eqb-true middle new c.in-Some.other c.in_ok-insert-2.ensures.keys))

pub returns-in_default : goal.returns-in_default
returns-in_default c =
    named_none c.args.ids.now c.args.faults.now c.args.place c.args.id c.args.named c.args.marked.now.keys
    c.args.marked.now.keys refl (rw c.in_default.is at c.passing_place.ensures)
