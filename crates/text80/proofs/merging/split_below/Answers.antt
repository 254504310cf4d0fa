use Rattle.std.proofs.Common.{◌<◌, List, ℕ, sym, subst}
use Rattle.std.specs.List.{All}
use Rattle.std.proofs.lemmas.List.Elements.{All-more}
use Rattle.std.proofs.lemmas.List.{take_all, append-nil}
use Rattle.terms.specs.Texts.{number_of}
use Rattle.text80.proofs.merging.split_below.Goals as goal

pub loop-i-preserved : goal.loop-i-preserved
loop-i-preserved c =
    let Below : List ℕ → Type 0 = λ line. number_of line < c.args.number in
    let item = c.index-lines-i.result in
    let here : number_of item < c.args.number = subst (λ n. n < c.args.number) c.known_number.ensures
    c.if-known_number-number.false in
    All-more Below c.args.lines.now c.loop-i.i item c.loop-i-test.true c.loop-i.invariant
    (subst Below c.index-lines-i.is here)

pub returns : goal.returns
returns c =
    let Below : List ℕ → Type 0 = λ line. number_of line < c.args.number in
    record {
      lines_are = sym (append-nil c.args.lines.now);
      below = subst (All Below) (take_all c.loop-i.i c.args.lines.now c.loop-i-test.false) c.loop-i.invariant;
      ends = tt;
    }
