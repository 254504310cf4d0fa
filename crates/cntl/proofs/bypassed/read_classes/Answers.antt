use Rattle.std.proofs.Common.{Some, subst}
use Rattle.std.proofs.lemmas.List.{map-id}
use Rattle.std.proofs.lemmas.Result.{IfOk-weaker}
use Rattle.terms.specs.Forms.{IsClass}
use Rattle.terms.specs.CommandForms.{HasShort}
use Rattle.rec80.specs.Views.{word_of}
use Rattle.cntl.proofs.bypassed.read_classes.Goals as goal

pub returns-in-Some-clause-ok : goal.returns-in-Some-clause-ok
returns-in-Some-clause-ok c = λ ms h.
    let is = rw c.in-Some.is at c.named_member.ensures ms h in
    IfOk-weaker c.short_list.result _ _ (λ classes k. subst (λ o. HasShort IsClass o classes) is
    (subst (HasShort IsClass (Some (word_of c.in-Some.member))) (map-id classes) k)) c.short_list.ensures.ok
