use Rattle.std.proofs.Common.{ap, ◌∙◌, ◌++◌, ◌∷◌, [], map}
use Rattle.terms.specs.declared.kinds.ElemType.TheVariants.{Mac}
use Rattle.intake_elements.specs.StandInNames.{key_of}
use Rattle.intake_elements.specs.Elements.{module_name}
use Rattle.intake_elements.proofs.Keys.{keys_whole}
use Rattle.intake_elements.proofs.modules.keys_of.Goals as goal

pub returns : goal.returns
returns c =
    let modules = c.in_ok-modules.modules.items in
    keys_whole (λ m. m.now) c.args.element.now c.element_key.result c.add_module_keys.new.keys.items modules
    c.element_key.ensures c.in_ok-modules.ensures
    (c.in_ok-add_module_keys.ensures
    ∙ ap (λ l. l ++ map (λ m. key_of Mac (module_name m.now)) c.as_slice.result.now)
    (c.in_ok-push.ensures.items ∙ ap (λ l. l ++ c.element_key.result ∷ []) c.new-keys.ensures.items)
    ∙ ap (λ ms. c.element_key.result ∷ map (λ m. key_of Mac (module_name m.now)) ms) c.as_slice.ensures.value)
