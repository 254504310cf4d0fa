use Rattle.std.proofs.Common.{◌≡◌, Some, None, ap, sym, ◌∙◌}
use Rattle.std.proofs.lemmas.Result.{IfOk-weaker}
use Rattle.std.proofs.lemmas.Option.{IfSome_then, same_Some}
use Rattle.terms.specs.Types.{Text}
use Rattle.intake_read.specs.Stated.{text_in}
use Rattle.intake_elements.proofs.TextLemmas.{if_none_stated}
use Rattle.intake_elements.proofs.elements.read_syslib.Goals as goal

pub returns-in-Some : goal.returns-in-Some
returns-in-Some c =
    IfOk-weaker c.read_library.result _ _ (λ found is.
    IfSome_then found is (λ name e library stated.
    e ∙ c.as_slice.ensures.value ∙ same_Some _ _ (sym (ap text_in c.in-Some.is) ∙ stated))) c.read_library.ensures

pub returns-in-None : goal.returns-in-None
returns-in-None c =
    if_none_stated (λ syslib library. syslib ≡ library) c.given_syslib.result (text_in c.args.element.now.syslib)
    (ap text_in c.in-None.is)
