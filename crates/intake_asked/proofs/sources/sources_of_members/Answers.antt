use Rattle.std.proofs.Common.{◌≢◌, ℕ, List, [], ap, length, arith}
use Rattle.intake_asked.specs.Words.{sources_of}
use Rattle.intake_asked.proofs.Passing.{found_at, all_at, more_found, some_found}
use Rattle.intake_asked.proofs.sources.sources_of_members.Goals as goal

pub loop-member-preserved : goal.loop-member-preserved
loop-member-preserved c =
    let l = c.loop-member in
    let known = c.args.known.now in
    let no = c.if-is_empty.false in
    let is = c.is_empty.ensures in
    let same = ap length c.as_slice.ensures.value in
    record {
      found = more_found (λ p. p.now) c.append.new.self.items l.all.items c.in_ok-more.more.items _ _ _
          c.in_ok-append.ensures.items l.invariant.found c.in_ok-more.ensures
          (found_at (sources_of known) (λ p. p.now) c.args.members.now l.member-index _ (omega arith));
      some = all_at (λ (m : List ℕ). sources_of known m ≢ []) (λ p. p.now) c.args.members.now l.member-index _
          (omega arith)
          l.invariant.some (some_found (λ p. p.now) c.in_ok-more.more.items _ c.in_ok-more.ensures
          (λ zero. absurd (let none = zero in grind arith)));
    }
