use Rattle.std.proofs.Common.{All, take}
use Rattle.terms.specs.Forms.{IsSource}
use Rattle.smpe_global.proofs.attested.attest_sources.Given as goal

-- the sources so far
abbrev pub invariant-loop-source : goal.invariant-loop-source
invariant-loop-source l = All IsSource (take l.source-index l.sources)
