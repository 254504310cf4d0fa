use Rattle.std.proofs.Common.{◌≡◌, ◌∷◌, rules, subst, ◌∙◌, []}
use Rattle.sqlite.specs.declared.types.Value.{Value}
use Rattle.sqlite.specs.declared.types.Value.TheVariants as value
use Rattle.sqlite.specs.Order.{Row}
use Rattle.terms.specs.Types.{Text}
use Rattle.store_schema.specs.Forms.{IsTextOf}
use Rattle.store_schema.proofs.Spelled.{type_same}
use Rattle.store_zones.proofs.element.ElementsFromRow.read.Goals as goal

rest_is : {row a b : Row} {v w : Value} → row ≡ v ∷ a → row ≡ w ∷ b → a ≡ b
rest_is read same = cc

text_is : {row a b : Row} {x y : Text} → row ≡ value.Text x ∷ a → row ≡ value.Text y ∷ b → y ≡ x
text_is read same = cc

pub returns-in_err-text-clause-none : goal.returns-in_err-text-clause-none
returns-in_err-text-clause-none c bad item forms same =
    let element = item.item in
    let behind_zone = rest_is c.in_ok-zone.ensures.read.0 (c.new-columns.ensures ∙ same) in
    let type = text_is c.in_ok-elem_type.ensures.read behind_zone in
    let behind_type = rest_is c.in_ok-elem_type.ensures.read behind_zone in
    let behind_name = rest_is c.in_ok-name.ensures.read.0 behind_type in
    let behind_fmid = rest_is c.in_ok-fmid.ensures.read.0 behind_name in
    let behind_rmid = rest_is c.in_ok-rmid.ensures.read.0 behind_fmid in
    let behind_umids = rest_is c.in_ok-umids.ensures.read.0 behind_rmid in
    let behind_distlib = rest_is c.in_ok-distlib.ensures.read.0 behind_umids in
    let behind_syslib = rest_is c.in_ok-syslib.ensures.read.0 behind_distlib in
    c.element_text.ensures.none (search rules) element.text []
    (subst (λ type. IsTextOf type element.text) (type_same element.elem_type c.in_ok-elem_type.elem_type type)
    forms.element.text) behind_syslib
