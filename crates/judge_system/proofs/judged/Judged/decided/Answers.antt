use Rattle.std.proofs.Common.{◌≡◌, ◌<◌, ◌∙◌, ap, length, map, sym, subst, subst₂}
use Rattle.std.specs.Prelude.{All}
use Rattle.terms.specs.Lookups.{IsRising}
use Rattle.solve.specs.Rows.{row_at}
use Rattle.judge_system.specs.ByNumber.{AreCausers}
use Rattle.judge_system.specs.Numbered.{need_of}
use Rattle.judge_system.specs.Open.{HaveOpen}
use Rattle.judge_system.proofs.CandidateIds.{causers_within}
use Rattle.judge_system.proofs.judged.Judged.decided.Goals as goal

pub failures-requires : goal.failures-requires
failures-requires c =
    let j = c.args.self.now in
    let rows = c.in_ok-causers.causers.items in
    let size : length j.ids.keys ≡ length c.as_slice-ids.result.now = ap length (sym c.as_slice-ids.ensures.keys) in
    let whole : j.system.size ≡ length c.as_slice-ids.result.now = c.requires.parts.size ∙ size in
    record {
      tests = ap length c.as_slice-2.ensures.value ∙ c.requires.parts.tests ∙ size;
      unserved = ap length c.as_slice-3.ensures.value ∙ c.in_ok-unserved.ensures.size ∙ whole;
      causers = ap length c.as_slice-4.ensures.value ∙ c.in_ok-causers.ensures.size ∙ whole;
      within = λ n. subst₂ (λ size given. All (λ m. m < size) (row_at given n)) whole (sym c.as_slice-4.ensures.value)
          (causers_within j.system c.args.kept.now rows (c.in_ok-causers.ensures.exact c.requires.kept.size) n);
    }

pub returns : goal.returns
returns c =
    let j = c.args.self.now in
    record {
      rising = subst IsRising c.kept.view_is c.kept.invariant;
      members = rw (c.as_slice-ids.ensures.keys, c.flags.ensures) at c.in_ok-kept.ensures;
      found = _;
      tests_are = c.as_slice-2.ensures.value;
      opened = subst (HaveOpen c.args.kept.now j.system.needs (map need_of j.needs.items) (length j.needs.items))
          (sym c.as_slice-3.ensures.value)
          (rw c.as_slice.ensures.value at c.in_ok-unserved.ensures.unserved);
      causers = subst (AreCausers j.system c.args.kept.now) (sym c.as_slice-4.ensures.value) (record {
        size = c.in_ok-causers.ensures.size;
        exact = c.in_ok-causers.ensures.exact c.requires.kept.size;
        rising = c.in_ok-causers.ensures.rising;
      });
      failures = rw c.as_slice-ids.ensures.keys at c.in_ok-failed.ensures;
    }
