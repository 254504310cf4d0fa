-- The forms of texts.
use Rattle.terms.specs.declared.kinds.ElemType.{ElemType}
use Rattle.terms.specs.declared.kinds.ElemType.TheVariants.{Mac, Src}
use Rattle.terms.specs.Types.{Lines}
use Rattle.terms.specs.Texts.{HasForm}
use Rattle.store_schema.specs.Forms.{IsTextOf}

-- a text of its type has the form of the type
pub text_form : (type : ElemType) (text : Lines) → IsTextOf type text → HasForm type text
text_form Mac text is = is.1
text_form Src text is = is.1
text_form _ text is = tt
