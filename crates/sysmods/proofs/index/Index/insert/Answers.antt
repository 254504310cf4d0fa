use Rattle.std.proofs.Common.{◌≡◌, ◌∙◌, sym, ap, rules, subst, true≢false}
use Rattle.std.specs.Ordering.{nat_cmp}
use Rattle.std.specs.Cmp.Lexicographic.{slice_cmp}
use Rattle.std.specs.BTreeMap.{get}
use Rattle.terms.proofs.Booleans.{or_false}
use Rattle.terms.proofs.TextOrder.{same_itself}
use Rattle.sysmods.specs.declared.index.IndexEntry.TheVariants.{One}
use Rattle.sysmods.specs.Index.{Grows}
use Rattle.sysmods.proofs.Indexed.{grows_update, has_at, has_none}
use Rattle.sysmods.proofs.index.Index.insert.Goals as goal

pub returns-in_err-insert-clause-grows : goal.returns-in_err-insert-clause-grows
returns-in_err-insert-clause-grows c =
    grows_update c.args.self.now.sets (c.get_mut.follows.lender c.insert.new.self) c.args.named c.insert.new.self
    ((c.get_mut.follows.holds c.insert.new.self).3 (search rules))
    (λ y h. c.in_err-insert.ensures.grows y
    (sym (has_at c.args.self.now.sets c.args.named c.in-Some.namers.now (sym c.in-Some.ensures.value) y) ∙ h))

pub returns-in-Some-clause-grows : goal.returns-in-Some-clause-grows
returns-in-Some-clause-grows c =
    grows_update c.args.self.now.sets (c.get_mut.follows.lender c.insert.new.self) c.args.named c.insert.new.self
    ((c.get_mut.follows.holds c.insert.new.self).3 (search rules))
    (λ y h. c.in_ok-insert.ensures.grows y
    (sym (has_at c.args.self.now.sets c.args.named c.in-Some.namers.now (sym c.in-Some.ensures.value) y) ∙ h))

pub returns-clause-has : goal.returns-clause-has
returns-clause-has c =
    has_at c.insert-2.new.self c.args.named (One c.args.namer) c.in_ok-insert-2.ensures.updates.1 c.args.namer
    ∙ or_false _ ∙ same_itself c.args.namer

pub returns-clause-grows : goal.returns-clause-grows
returns-clause-grows c =
    let was = c.get_mut.follows.lender-at-none in
    let same : was ≡ c.args.self.now.sets = search rules in
    subst (λ m. Grows m c.insert-2.new.self) same
    (grows_update was c.insert-2.new.self c.args.named (One c.args.namer) c.in_ok-insert-2.ensures.updates
    (λ y h. absurd (true≢false (sym h ∙ has_none was c.args.named
    (ap (λ m. get (slice_cmp nat_cmp) m c.args.named) same ∙ search rules) y))))
