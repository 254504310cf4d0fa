use Rattle.std.proofs.Common.{◌≡◌, ◌≤◌, ◌++◌, drop}
use Rattle.smpe_why.specs.BypassText.{carded, is_carded}
use Rattle.smpe_why.proofs.bypass_text.records_of_text.Given as goal

abbrev pub invariant-loop-byte : goal.invariant-loop-byte
invariant-loop-byte l =
    (l.column ≤ 72)
    × (l.file.items ++ carded l.column (drop l.byte-index l.text) ≡ carded 0 l.text)
    × (is_carded l.column (drop l.byte-index l.text) ≡ is_carded 0 l.text)
