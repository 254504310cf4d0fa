use Rattle.std.proofs.Common.{◌≡◌, ◌∙◌, Some, sym, ap, subst}
use Rattle.std.specs.Prelude.{codes, option_map, IsSomeAnd}
use Rattle.std.specs.List.{list_any}
use Rattle.std.proofs.lemmas.Result.{IfOk-weaker}
use Rattle.terms.specs.Operands.{operand}
use Rattle.terms.specs.CommandForms.{members_of, IsBypassList, HasBypass}
use Rattle.terms.specs.Commands.{runs_in}
use Rattle.terms.specs.Operands.{is_often}
use Rattle.terms.proofs.BypassMembers.{list_of}
use Rattle.rec80.specs.Left.{AreNamed}
use Rattle.rec80.specs.Cursors.{text_of}
use Rattle.rec80.specs.Views.{word_of, words_of}
use Rattle.cntl.proofs.Bypassing.{bypass_list, bypass_is}
use Rattle.cntl.proofs.bypassed.read_bypass.Goals as goal

pub returns-in_default-clause-ok : goal.returns-in_default-clause-ok
returns-in_default-clause-ok c = λ single.
    let none = rw c.in_default.is at c.operand.ensures in
    subst (λ o. HasBypass c.args.word o c.none.result) none c.none.ensures

pub returns-then-not-are_members-clause-bad : goal.returns-then-not-are_members-clause-bad
returns-then-not-are_members-clause-bad c = λ b.
    let w = c.args.word in
    let is = rw c.in-Some.is at c.operand.ensures in
    let list : (word_of c.in-Some.found).list ≡ Some (text_of c.in-Some-list.list) =
    ap (option_map text_of) c.in-Some-list.is in
    let listed = subst (λ l. IsSomeAnd l (λ t. IsBypassList w t b.0)) list
    (subst (λ o. HasBypass w o b.0) (sym is) b.1) in
    c.are_members.ensures.other c.if-not-are_members.true listed.members listed.has_members
    (subst (λ names. AreNamed names listed.members) (sym c.members_of.ensures) listed.are_members.known)

pub returns-clause-ok : goal.returns-clause-ok
returns-clause-ok c = λ single.
    let w = c.args.word in
    let is = rw c.in-Some.is at c.operand.ensures in
    let text = text_of c.in-Some-list.list in
    let list : (word_of c.in-Some.found).list ≡ Some text = ap (option_map text_of) c.in-Some-list.is in
    let runs = ap (λ t. list_any (is_often 2 (runs_in t)) (members_of w)) (sym list ∙ ap list_of is) in
    let found = operand (codes "BYPASS") (words_of c.args.words.now) in
    let k = c.are_members.ensures.named c.if-not-are_members.false in
    IfOk-weaker c.read_members.result _ _ (λ b says. bypass_is w found (word_of c.in-Some.found) text b (sym is) list
    (bypass_list w text k.0 b k.1 (subst (λ names. AreNamed names k.0) c.members_of.ensures k.2) (runs ∙ single)
    says))
    (c.read_members.ensures.ok k.0 k.1)
