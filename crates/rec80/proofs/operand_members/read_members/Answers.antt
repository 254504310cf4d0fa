use Rattle.std.proofs.Common.{◌≡◌, ◌∙◌, sym, ap, subst, [], ◌∷◌, ◌++◌, map}
use Rattle.std.specs.Prelude.{All}
use Rattle.std.proofs.lemmas.List.Elements.{All-push}
use Rattle.terms.specs.Words.{HasMembers, plain}
use Rattle.rec80.specs.Cursors.{text_of}
use Rattle.rec80.specs.Lists.{LeavesMembers}
use Rattle.rec80.specs.Views.{word_of}
use Rattle.rec80.proofs.OperandReading.{plain_more, text_more, no_plain, plain_only}
use Rattle.rec80.proofs.operand_members.read_members.Goals as goal

pub returns-clause-only : goal.returns-clause-only
returns-clause-only g c = λ ms h.
    let texts = map g.T.Member.text c.loop-read.read.items in
    let i = c.loop-read.invariant.only (map plain ms) h in
    let end = rw c.in_default.is at c.in_ok-member.ensures.end_only in
    plain_only ms texts (i.1 ∙ ap (λ r. map plain texts ++ r) (end i.0 i.2))

pub returns-in_default-read_member-clause-bad : goal.returns-in_default-read_member-clause-bad
returns-in_default-read_member-clause-bad g c = λ x.
    let texts = map g.T.Member.text c.loop-read.read.items in
    let i = c.loop-read.invariant.only (map plain x.0) x.1 in
    let only = rw c.in-Some.is at c.in_ok-member.ensures.only in
    let n = only i.0 i.2 in
    no_plain g.T.Member.form x.0 (map plain texts) n.0 (word_of c.in-Some.member) x.2
    (i.1 ∙ ap (λ r. map plain texts ++ r) n.1) c.in_default-read_member.ensures.none

pub loop-read-preserved : goal.loop-read-preserved
loop-read-preserved g c =
    let text = g.T.Member.text in
    let texts = map text c.loop-read.read.items in
    let value = text c.in-Some-read_member.value in
    let good = c.in-Some-read_member.ensures.good in
    let more : map text c.push.new.self.items ≡ texts ++ value ∷ [] =
    text_more text c.loop-read.read.items c.push.new.self.items c.in-Some-read_member.value
    c.in_ok-push.ensures.items in
    let member = rw c.in-Some.is at c.in_ok-member.ensures.member in
    let only = rw c.in-Some.is at c.in_ok-member.ensures.only in
    record {
      before = λ ms l.
          subst (λ t. HasMembers (text_of c.args.list.now) (map plain t ++ ms)) (sym more)
          (subst (HasMembers (text_of c.args.list.now)) (sym (plain_more texts value ms))
          (c.loop-read.invariant.before (plain value ∷ ms) (subst (λ w. LeavesMembers c.loop-read.members (w ∷ ms))
          good.0 (member ms l))));
      only = λ ms h.
          let i = c.loop-read.invariant.only ms h in
          let n = only i.0 i.2 in (
            n.0,
            i.1 ∙ ap (λ r. map plain texts ++ r) (n.1 ∙ ap (λ w. w ∷ n.0) good.0) ∙ sym (plain_more texts value n.0)
                ∙ ap (λ t. map plain t ++ n.0) (sym more),
            n.2,
          );
      forms = subst (All g.T.Member.form) (sym more) (All-push g.T.Member.form texts value c.loop-read.invariant.forms
          good.1);
    }
