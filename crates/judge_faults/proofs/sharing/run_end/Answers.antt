use Rattle.std.proofs.Common.{◌≡◌, ◌∙◌, length, refl, sym, ap, arith, true≢false}
use Rattle.std.proofs.lemmas.Option.{slice_get_read, slice_get_within, same_Some}
use Rattle.judge_faults.specs.declared.claims.Claim.{Claim}
use Rattle.judge_faults.proofs.sharing.run_end.Goals as goal

pub returns-else-is_on_same_element : goal.returns-else-is_on_same_element
returns-else-is_on_same_element c = record {
  element = c.index-claims-start.result.element;
  more = c.loop-end.invariant.more;
  within = c.loop-end.invariant.within;
  same = c.loop-end.invariant.same;
  ends = λ a at same.
      let claims = c.args.claims.now in
      let last = c.index-claims-end.result in
      let found = slice_get_read claims (length claims) c.loop-end.end last refl (omega arith) c.index-claims-end.is in
      let is : last ≡ a = same_Some last a (sym found ∙ at) in
      true≢false (sym (c.is_on_same_element.ensures.1 (ap (λ (v : Claim). v.element) is ∙ same))
      ∙ c.if-is_on_same_element.false);
}

pub returns-after-loop-end : goal.returns-after-loop-end
returns-after-loop-end c = record {
  element = c.index-claims-start.result.element;
  more = c.loop-end.invariant.more;
  within = c.loop-end.invariant.within;
  same = c.loop-end.invariant.same;
  ends = λ a at same. omega (arith, slice_get_within c.args.claims.now c.loop-end.end a at);
}
