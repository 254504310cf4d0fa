use Rattle.std.proofs.Common.{◌≡◌, ◌≢◌, [], take, map}
use Rattle.std.specs.List.{All, flat_map}
use Rattle.intake_asked.specs.Words.{sources_of}
use Rattle.intake_asked.proofs.sources.sources_of_members.Given as goal

abbrev pub invariant-loop-member : goal.invariant-loop-member
invariant-loop-member l = record {
  found : map (λ p. p.now) l.all.items ≡ flat_map (sources_of l.known) (map (λ p. p.now)
      (take l.member-index l.members));
  some : All (λ m. sources_of l.known m ≢ []) (map (λ p. p.now) (take l.member-index l.members));
}
