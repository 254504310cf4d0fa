use Rattle.std.proofs.Common.{◌≡◌, ◌++◌, ◌∷◌, [], drop, false}
use Rattle.terms.specs.Statement.{behind_list}
use Rattle.store_sysmods.proofs.hold_comment.is_paired.Given as goal

-- what is left goes on where the text so far has led to
abbrev pub invariant-loop-byte : goal.invariant-loop-byte
invariant-loop-byte l = behind_list false (l.text ++ 41 ∷ []) ≡ behind_list l.inner
    (drop l.byte-index l.text ++ 41 ∷ [])
