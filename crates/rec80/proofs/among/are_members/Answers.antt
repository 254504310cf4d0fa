use Rattle.std.proofs.Common.{IsTrue, [], ◌∷◌, ◌++◌, ◌∙◌, sym, subst, map, append_assoc}
use Rattle.std.proofs.lemmas.Bool.{true≢false}
use Rattle.std.proofs.lemmas.List.Elements.{All-head, All-tail, All-push}
use Rattle.terms.specs.Lookups.{is_in}
use Rattle.terms.specs.Words.{Word, HasMembers}
use Rattle.rec80.specs.Cursors.{text_of}
use Rattle.rec80.specs.Views.{word_of}
use Rattle.rec80.specs.Left.{AreNamed}
use Rattle.rec80.proofs.among.are_members.Goals as goal

pub returns-then-not-is_among-clause-other : goal.returns-then-not-is_among-clause-other
returns-then-not-is_among-clause-other c = λ _ ms h k.
    let names = map (λ name. name.now) c.args.names.now in
    let i = c.loop-found.invariant.only ms h k in
    let only = rw c.in-Some.is at c.in-Ok.ensures.only in
    let n = only i.0 i.1 in
    let first = All-head (λ (w : Word). IsTrue (is_in names w.word)) (word_of c.in-Some.member) n.0
    (subst (AreNamed names) n.1 i.2) in
    true≢false (sym first ∙ sym c.is_among.ensures ∙ c.if-not-is_among.true)

pub loop-found-preserved : goal.loop-found-preserved
loop-found-preserved c =
    let names = map (λ name. name.now) c.args.names.now in
    let w = word_of c.in-Some.member in
    let member = rw c.in-Some.is at c.in-Ok.ensures.member in
    let only = rw c.in-Some.is at c.in-Ok.ensures.only in
    record {
      named =
          let i = c.loop-found.invariant.named in (
            i.0 ++ w ∷ [],
            λ ms l. subst (HasMembers (text_of c.args.list.now)) (sym (append_assoc i.0 (w ∷ []) ms))
                (i.1 (w ∷ ms) (member ms l)),
            All-push (λ (w : Word). IsTrue (is_in names w.word)) i.0 w i.2
                (sym c.is_among.ensures ∙ c.if-not-is_among.false),
          );
      only = λ ms h k.
          let i = c.loop-found.invariant.only ms h k in
          let n = only i.0 i.1 in (
            n.0,
            n.2,
            All-tail (λ (w : Word). IsTrue (is_in names w.word)) w n.0 (subst (AreNamed names) n.1 i.2),
          );
    }
