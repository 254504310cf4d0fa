use Rattle.std.proofs.Common.{sym, subst, ◌∙◌}
use Rattle.terms.specs.Beside.{Beside}
use Rattle.intake_sysmod.specs.NoLooser.{IsIf}
use Rattle.intake_sysmod.proofs.ver_operands.read_operands.Goals as goal

pub returns : goal.returns
returns c = record {
  read = sym c.as_slice-faulty.ensures.value ∙ c.are_all_read.ensures c.if-not-are_all_read.false;
  fmid_is = rw c.in-Some.is at c.in_ok-fmid.ensures;
  lists_are = rw c.in-Some-2.is at c.in_ok-lists.ensures;
  ifs_are = subst (λ l. Beside (λ _. IsIf) l c.in-Some-3.ifs.items) c.as_slice.ensures.value
      (rw c.in-Some-3.is at c.in_ok-ifs.ensures);
}
