use Rattle.std.proofs.Common.{Some, ap, sym, subst, ◌∙◌}
use Rattle.intake_read.specs.Stated.{text_in, AreSame}
use Rattle.intake_sysmod.proofs.ifs.read_if.Goals as goal

pub returns : goal.returns
returns c =
    let id = rw c.in-Some-2.is at c.in_ok-function.ensures in
    record {
      read = sym c.as_slice-faulty.ensures.value ∙ c.are_all_read.ensures c.if-not-are_all_read.false;
      function_is = ap text_in c.in-Some.is ∙ ap (λ t. Some t) (sym (id ∙ c.as_slice.ensures.value));
      req_is = subst (λ l. AreSame l c.in-Some-3.req) c.as_slice-2.ensures.value
          (rw c.in-Some-3.is at c.in_ok-req.ensures);
    }
