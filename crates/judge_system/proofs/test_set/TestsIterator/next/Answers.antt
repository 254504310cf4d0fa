use Rattle.std.proofs.Common.{◌≡◌, List, Option, None, Some, Bor, length, ap, arith, subst, sym, tests, rules}
use Rattle.std.specs.Iterator.{YieldsFirst, MakesProgress, item_count}
use Rattle.std.specs.Prelude.{filter, option_copied}
use Rattle.std.specs.Slice.Iter.{iter_rest}
use Rattle.terms.specs.declared.codes.Test.{Test}
use Rattle.judge_system.specs.TestSets.{is_in_set}
use Rattle.judge_system.proofs.Finding.{first_found, IsFirst}
use Rattle.judge_system.proofs.test_set.TestsIterator.next.Goals as goal
use Rattle.judge_system.proofs.test_set.TestsIterator.next.Goals.{After-copied}

first : {A : Type 0} (all left : List A) (r : Option (Bor A)) → IsFirst all r left
    → YieldsFirst (λ (s : List A). s) all (option_copied r) left
first all left None is = is
first all left (Some x) is = is

steps : (c : After-copied) → YieldsFirst (λ (s : List Test). s) c.args.self.now (option_copied c.find.result)
    (filter (is_in_set c.self.inside.set) (iter_rest c.find.new.self))
steps c =
    let found = c.find.ensures.ran in
    let test = is_in_set c.self.inside.set in
    let is = first_found _ _ test (λ x b q k. search (rules, tests)) found.0 c.self.inside.rest c.find.new.self
    c.find.result found.1 found.2 found.3 found.4 in
    subst (λ all. YieldsFirst (λ (s : List Test). s) all (option_copied c.find.result)
    (filter test (iter_rest c.find.new.self))) c.self.view_is (first _ _ c.find.result is)

pub returns-clause-steps : goal.returns-clause-steps
returns-clause-steps c = rw c.copied.ensures (steps c)

progress : {A : Type 0} (all left : List A) (r : Option A) → YieldsFirst (λ (s : List A). s) all r left
    → MakesProgress (λ (s : List A). Unit {0}) (item_count (λ (s : List A). s)) all r left
progress all left None is = record { on = λ finite. tt; keeps = tt; rests = λ finite. tt }
progress all left (Some x) is =
    record { on = λ finite. (tt, tt, omega (arith, ap length is)); keeps = tt; rests = λ finite. tt }

pub returns-clause-goes : goal.returns-clause-goes
returns-clause-goes c = progress _ _ _ (rw c.copied.ensures (steps c))
