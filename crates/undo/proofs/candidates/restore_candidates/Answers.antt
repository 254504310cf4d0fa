use Rattle.std.proofs.Common.{subst}
use Rattle.terms.specs.Lookups.{IsRising}
use Rattle.undo.proofs.RestoreJudged.{applied_are_cands}
use Rattle.undo.proofs.candidates.restore_candidates.Goals as goal

pub returns : goal.returns
returns c =
    let rising : IsRising c.in_ok-listed.listed = subst IsRising c.as_slice-all.ensures.items
    c.as_slice-all.ensures.rising in
    record {
      listed = c.in_ok-listed.listed;
      are_listed = record { rising = rising; members = c.in_ok-listed.ensures };
      ids = applied_are_cands c.args.zone.now c.in_ok-listed.listed c.in_ok-applied_among.field-0.items
          c.from_vec-ids.result (rw c.as_slice-all.ensures.items at c.in_ok-applied_among.ensures)
          rising c.from_vec-ids.ensures.rising c.from_vec-ids.ensures.members;
      left_out = rw c.as_slice-all.ensures.items at c.in_ok-ids_not_applied.ensures;
    }
