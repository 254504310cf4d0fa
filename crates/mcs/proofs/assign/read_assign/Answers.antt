use Rattle.std.proofs.Common.{◌∙◌, sym, subst, List}
use Rattle.std.specs.Prelude.{IsSomeAnd, codes}
use Rattle.terms.specs.Types.{Id, Assign}
use Rattle.terms.specs.Forms.{IsId, IsSource}
use Rattle.terms.specs.Operands.{operand, HasListed, HasRequired}
use Rattle.terms.proofs.ExactWords.{words_only}
use Rattle.rec80.specs.Cursors.{text_of}
use Rattle.rec80.specs.Views.{words_of}
use Rattle.std.proofs.lemmas.Result.{err_from_is_err_and}
use Rattle.mcs.specs.KnownWords.{own_list}
use Rattle.rec80.proofs.Failing.{excludes_more}
use Rattle.mcs.proofs.Ending.{no_list}
use Rattle.terms.proofs.Options.{map_not_none}
use Rattle.mcs.proofs.Assigning.{AssignOf}
use Rattle.mcs.proofs.assign.read_assign.Goals as goal

pub returns-then-is_some-clause-bad : goal.returns-then-is_some-clause-bad
returns-then-is_some-clause-bad c = λ rest h x.
    map_not_none c.args.known.now.first.list text_of (sym c.is_some.ensures ∙ c.if-is_some.true) x.1.2.no_list

pub returns-in_default-clause-bad : goal.returns-in_default-clause-bad
returns-in_default-clause-bad c = λ rest h x. c.in_default.ensures.none rest h x.1.0 x.1.1 x.1.2.are_operands

pub returns-in_default-required-clause-bad : goal.returns-in_default-required-clause-bad
returns-in_default-required-clause-bad c = λ rest h x.
    let ws = words_of c.in-Some.words.now in
    let same = words_only rest x.1.0 ws x.1.1 (c.in-Some.ensures.words rest h) in
    c.in_default-required.ensures.none x.0.source
    (subst (λ l. HasRequired IsSource (operand (codes "SOURCEID") l) x.0.source) same x.1.2.source)

pub returns-in_err-to-clause-bad : goal.returns-in_err-to-clause-bad
returns-in_err-to-clause-bad c = λ rest h.
    let p = err_from_is_err_and c.from_residual.result c.from_residual.ensures.1 in
    let ws = words_of c.in-Some.words.now in
    let All : Type 0 = (a : Assign) × AssignOf (own_list c.args.known.now) rest a in
    let One : Type 0 = (ids : List Id) × IsSomeAnd (operand (codes "TO") ws) (λ w. HasListed IsId w ids) in
    let pick : All → One = λ x.
    (x.0.to, rw (words_only rest x.1.0 ws x.1.1 (c.in-Some.ensures.words rest h)) at x.1.2.to) in
    rw (p.1, p.2) (excludes_more c.in_err-to.field-0.0 One All pick c.in_err-to.ensures.bad)

pub returns-clause-ok : goal.returns-clause-ok
returns-clause-ok c = λ rest h. (
  words_of c.in-Some.words.now,
  c.in-Some.ensures.words rest h,
  record {
    no_list = no_list c.args.known.now.first.list text_of (sym c.is_some.ensures ∙ c.if-is_some.false);
    are_operands = c.in-Some.ensures.operands;
    source = c.in-Some-required.ensures.some;
    to = c.in_ok-to.ensures.ok;
  },
)
