use Rattle.std.proofs.Common.{◌≡◌, IsTrue, subst}
use Rattle.std.specs.List.{All}
use Rattle.std.proofs.lemmas.Result.{IfOk-weaker}
use Rattle.terms.specs.Lookups.{is_in}
use Rattle.terms.specs.Spelling.{word_text}
use Rattle.intake_asked.specs.KnownWords.{known_operands, known_members}
use Rattle.intake_asked.proofs.commands.says.Goals as goal

pub returns : goal.returns
returns c =
    IfOk-weaker c.says_operands.result _ _ (λ says said t. let wide = c.args.wide.now in
    let is = c.word_of-word.ensures in
    record {
      word = subst (λ w. wide.head.name.items ≡ word_text w) is (c.has_word.ensures c.if-not-has_word.false);
      no_other = subst (λ w. All (λ o. IsTrue (is_in (known_operands w) o.name.items)) wide.operands.items) is
          (c.has_only_known_operands.ensures c.if-not-has_only_known_operands.false);
      no_other_member = subst (λ w. All (λ o. IsTrue (is_in (known_members w) o.name.items)) wide.bypassed.items) is
          (c.has_only_known_members.ensures c.if-not-has_only_known_members.false);
      operands = said t;
    }) c.says_operands.ensures
