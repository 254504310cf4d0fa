use Rattle.std.proofs.Common.{◌<◌, ◌∙◌, false, [], length, sym, ap, subst}
use Rattle.std.specs.Prelude.{All, ◌||◌, codes}
use Rattle.std.specs.List.{list_any}
use Rattle.terms.specs.CommandForms.{operands_of, members_of}
use Rattle.terms.specs.Commands.{runs_from, runs_in}
use Rattle.terms.specs.Operands.{words_in, list_behind, is_often}
use Rattle.terms.proofs.ExactBypass.{none_single, names_some}
use Rattle.terms.proofs.Each.{All_unmap}
use Rattle.rec80.specs.Cursors.{text_of}
use Rattle.cntl.proofs.Bypassing.{any_named}
use Rattle.cntl.proofs.doubles.has_double.Goals as goal

pub returns-then-has_twice : goal.returns-then-has_twice
returns-then-has_twice c = λ pieces h.
    let names = any_named (is_often 2 (words_in pieces)) (λ name. name.now) c.operands_of.result.now
    (operands_of c.args.word) c.operands_of.ensures in
    let runs = runs_in (list_behind (codes "BYPASS") pieces) in
    sym (ap (λ b. b || list_any (is_often 2 runs) (members_of c.args.word))
    (sym names ∙ sym (c.has_twice.ensures pieces h) ∙ c.if-has_twice.true))

pub returns-in-Some : goal.returns-in-Some
returns-in-Some c = λ pieces h.
    let w = c.args.word in
    let names = any_named (is_often 2 (words_in pieces)) (λ name. name.now) c.operands_of.result.now
    (operands_of w) c.operands_of.ensures in
    let runs = runs_from false [] (text_of c.in-Some.list) in
    let is = rw c.in-Some.is at c.list_after.ensures pieces h in
    let some = All_unmap (λ t. 0 < length t) (λ name. name.now) c.members_of.result.now
    (subst (All (λ t. 0 < length t)) (sym c.members_of.ensures) (names_some w)) in
    c.any_occurs_twice.ensures some
    ∙ any_named (is_often 2 runs) (λ name. name.now) c.members_of.result.now (members_of w) c.members_of.ensures
    ∙ ap (λ l. list_any (is_often 2 (runs_in l)) (members_of w)) is
    ∙ sym (ap (λ b. b || list_any (is_often 2 (runs_in (list_behind (codes "BYPASS") pieces))) (members_of w))
    (sym names ∙ sym (c.has_twice.ensures pieces h) ∙ c.if-has_twice.false))

pub returns-in-None : goal.returns-in-None
returns-in-None c = λ pieces h.
    let w = c.args.word in
    let names = any_named (is_often 2 (words_in pieces)) (λ name. name.now) c.operands_of.result.now
    (operands_of w) c.operands_of.ensures in
    let none = rw c.in-None.is at c.list_after.ensures pieces h in
    sym (ap (λ l. list_any (is_often 2 (runs_in l)) (members_of w)) (sym none) ∙ none_single (members_of w))
    ∙ sym (ap (λ b. b || list_any (is_often 2 (runs_in (list_behind (codes "BYPASS") pieces))) (members_of w))
    (sym names ∙ sym (c.has_twice.ensures pieces h) ∙ c.if-has_twice.false))
