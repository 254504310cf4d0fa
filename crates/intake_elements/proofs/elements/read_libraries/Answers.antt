use Rattle.std.proofs.Common.{Some, ap, sym, ◌∙◌}
use Rattle.intake_read.specs.Stated.{text_in}
use Rattle.intake_elements.proofs.elements.read_libraries.Goals as goal

pub returns : goal.returns
returns c = record {
  distlib_is = ap text_in c.in-Some.is
      ∙ ap (λ t. Some t) (sym ((rw c.in-Some-2.is at c.in_ok-distlib.ensures) ∙ c.as_slice.ensures.value));
  syslib_is = rw c.in-Some-3.is at c.in_ok-syslib.ensures;
}
