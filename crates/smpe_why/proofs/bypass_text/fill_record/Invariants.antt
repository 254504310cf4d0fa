use Rattle.std.proofs.Common.{◌≡◌, ◌++◌, replicate}
use Rattle.smpe_why.proofs.bypass_text.fill_record.Given as goal

abbrev pub invariant-loop-place : goal.invariant-loop-place
invariant-loop-place l = l.file.items ≡ l.initial.file.items ++ replicate l._place 32
