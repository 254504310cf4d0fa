use Rattle.std.proofs.Common.{Contains, subst}
use Rattle.std.specs.Prelude.{◌↔◌}
use Rattle.terms.specs.Types.{Id}
use Rattle.smpe_summary.specs.Asked.{Asked, is_candidate, ids_where}
use Rattle.smpe_summary.proofs.summarize.summary_of.Goals as goal

pub summary_over-requires-clause-candidates : goal.summary_over-requires-clause-candidates
summary_over-requires-clause-candidates c =
    let cands = c.from_vec-candidates.result in
    record {
      rising = c.from_vec-candidates.ensures.rising;
      members = subst (λ (a : Asked). (x : Id) → Contains cands x ↔ Contains (ids_where is_candidate a.lines) x)
          c.asked.view_is (rw c.in_ok-candidates.ensures at c.from_vec-candidates.ensures.members);
    }
