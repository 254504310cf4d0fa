use Rattle.std.proofs.Common.{take}
use Rattle.std.specs.Prelude.{All}
use Rattle.terms.specs.Texts.{HasForm}
use Rattle.smpe_verify.proofs.closed.attest_texts.Given as goal

-- the texts of the elements so far
abbrev pub invariant-loop-element : goal.invariant-loop-element
invariant-loop-element l = All (λ e. HasForm e.elem_type e.text) (take l.element-index l.element-items)
