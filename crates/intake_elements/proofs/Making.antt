-- What a statement of the profile makes.
use Rattle.std.proofs.Common.{◌≡◌, ◌∙◌, Bool, true, false, inl, sym, subst}
use Rattle.std.specs.Prelude.{IsTrue}
use Rattle.std.proofs.lemmas.Bool.{true≢false}
use Rattle.terms.specs.declared.kinds.Kind.{Kind}
use Rattle.terms.specs.declared.kinds.ElemType.{ElemType}
use Rattle.terms.specs.Types.{Text, Change}
use Rattle.intake_read.specs.declared.items.WideElement.{WideElement}
use Rattle.intake_elements.specs.ElementTexts.{IsStatedText}
use Rattle.intake_elements.specs.Elements.{IsProfileType, IsTarget, is_update, IsChangeOf, LacksNothing, IsMadeOf}

target_of : (decide : Bool) (e : WideElement) (type : ElemType) (name : Text) (c : Change) (updated : Bool)
    → IsProfileType e.word.items type → name ≡ e.name.items → IsChangeOf type name updated c
    → IsTarget decide e.word.items e.name.items c.elem_type c.name
target_of decide e type name c updated known named is =
    inl (subst (IsProfileType e.word.items) (sym is.0) known, is.1 ∙ named)

pub whole : (decide : Bool) (kind : Kind) (e : WideElement) (type : ElemType) (name : Text) (c : Change)
    → IsProfileType e.word.items type → name ≡ e.name.items → LacksNothing decide e
    → IsChangeOf type name (is_update kind e.word.items) c → IsStatedText e c.action → IsMadeOf decide kind e c
whole decide kind e type name c known named lacks is text = record {
  target_is = target_of decide e type name c (is_update kind e.word.items) known named is;
  action_is = is.2;
  lacks_nothing = lacks;
  text_is = λ no. text;
}

pub short : (decide : Bool) (kind : Kind) (e : WideElement) (type : ElemType) (name : Text) (c : Change)
    → IsProfileType e.word.items type → name ≡ e.name.items → IsTrue decide → LacksNothing decide e
    → IsChangeOf type name (is_update kind e.word.items) c → IsMadeOf decide kind e c
short decide kind e type name c known named asked lacks is = record {
  target_is = target_of decide e type name c (is_update kind e.word.items) known named is;
  action_is = is.2;
  lacks_nothing = lacks;
  text_is = λ no. absurd (true≢false (sym asked ∙ no));
}
