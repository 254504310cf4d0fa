use Rattle.std.proofs.Common.{subst}
use Rattle.intake_read.specs.Stated.{AreSame}
use Rattle.intake_sysmod.proofs.ver_operands.read_lists.Goals as goal

pub returns : goal.returns
returns c = record {
  pre_is = subst (λ l. AreSame l c.in-Some.pre) c.as_slice.ensures.value (rw c.in-Some.is at c.in_ok-pre.ensures);
  req_is = subst (λ l. AreSame l c.in-Some-2.req) c.as_slice-2.ensures.value
      (rw c.in-Some-2.is at c.in_ok-req.ensures);
  sup_is = subst (λ l. AreSame l c.in-Some-3.sup) c.as_slice-3.ensures.value
      (rw c.in-Some-3.is at c.in_ok-sup.ensures);
  npre_is = subst (λ l. AreSame l c.in-Some-4.npre) c.as_slice-4.ensures.value
      (rw c.in-Some-4.is at c.in_ok-npre.ensures);
  delete_is = subst (λ l. AreSame l c.in-Some-5.delete) c.as_slice-5.ensures.value
      (rw c.in-Some-5.is at c.in_ok-delete.ensures);
}
