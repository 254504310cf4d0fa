use Rattle.std.proofs.Common.{◌≡◌, ap, subst, map, length, arith}
use Rattle.std.proofs.lemmas.Cmp.{tied_itself}
use Rattle.terms.specs.Rising.{Rises}
use Rattle.terms.specs.Words.{AreDistinct, IsListOf}
use Rattle.rec80.specs.Cursors.{text_of}
use Rattle.rec80.proofs.OperandReading.{some_and, and_some}
use Rattle.rec80.proofs.Distinct.{distinct_texts, doubles_texts}
use Rattle.rec80.proofs.operand_lists.list_in_file_order.Goals as goal

pub returns-then-as_slice-len-clause-bad : goal.returns-then-as_slice-len-clause-bad
returns-then-as_slice-len-clause-bad g c = λ x.
    let items = c.in_ok-read.read.items in
    let rising = c.from_vec-rising.result in
    let rises : Rises g.T.Ord.cmp (λ x. x) rising = subst (Rises g.T.Ord.cmp (λ x. x)) c.as_slice-2.ensures.items
    c.as_slice-2.ensures.rising in
    let kept = rw (c.in_ok-copy.ensures.items, c.as_slice.ensures.value) at c.from_vec-rising.ensures.members in
    let l = some_and c.args.word.now.list text_of c.in-Some.list (λ text. IsListOf g.T.Member.form text x.0)
    c.in-Some.is x.1 in
    doubles_texts g.T.Ord.cmp g.T.Member.text g.met.T.Member.order (tied_itself g.met.T.Ord.total) items rising rises
    kept
    (λ same. c.if-as_slice-len.true (omega (
      arith,
      ap length c.as_slice-2.ensures.items,
      same,
      c.len.ensures,
      c.in_ok-read.read.ok.0,
    )))
    (subst AreDistinct (c.in_ok-read.ensures.only x.0 l.has_members) l.distinct)

pub returns-clause-listed : goal.returns-clause-listed
returns-clause-listed g c =
    let items = c.in_ok-read.read.items in
    let rising = c.from_vec-rising.result in
    let rises : Rises g.T.Ord.cmp (λ x. x) rising = subst (Rises g.T.Ord.cmp (λ x. x)) c.as_slice-2.ensures.items
    c.as_slice-2.ensures.rising in
    let kept = rw (c.in_ok-copy.ensures.items, c.as_slice.ensures.value) at c.from_vec-rising.ensures.members in
    let len : length rising ≡ length items = omega (
      arith,
      ap length c.as_slice-2.ensures.items,
      c.if-as_slice-len.false,
      c.len.ensures,
      c.in_ok-read.read.ok.0,
    ) in
    and_some c.args.word.now.list text_of c.in-Some.list (λ text.
    IsListOf g.T.Member.form text (map g.T.Member.text items)) c.in-Some.is record {
      has_members = c.in_ok-read.ensures.members;
      each = c.in_ok-read.ensures.forms;
      distinct = distinct_texts g.T.Ord.cmp g.T.Member.text g.met.T.Member.order (tied_itself g.met.T.Ord.total)
          g.met.T.Field.exact items rising rises kept len;
    }
