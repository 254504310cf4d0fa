-- What a replacement says, and its text.
use Rattle.std.proofs.Common.{◌≡◌, ◌↔◌, List, [], Option, Some, refl, sym, ◌∙◌, ap, subst}
use Rattle.std.specs.List.{flat_map}
use Rattle.std.proofs.lemmas.Option.{same_Some}
use Rattle.terms.specs.declared.kinds.ElemType.{ElemType}
use Rattle.terms.specs.declared.kinds.ElemType.TheVariants.{Mac, Src}
use Rattle.terms.specs.declared.statement_words.StatementWord.{StatementWord}
use Rattle.terms.specs.declared.statement_words.StatementWord.TheVariants as word
use Rattle.terms.specs.declared.text_faults.TextFault.{TextFault}
use Rattle.terms.specs.Types.{Text, Lines, Action, Replaces, Updates, Change, Sysmod}
use Rattle.terms.specs.Forms.{IsName}
use Rattle.terms.specs.Operands.{HasOwn}
use Rattle.terms.specs.Statement.{Piece}
use Rattle.terms.specs.Words.{Word, word_pieces, HasWords}
use Rattle.terms.specs.Texts.{IsNumbered, TakesUpdates, IsReplacement, IsActionOf, IsUpdate, IsNumberedFault}
use Rattle.terms.specs.Texts.{IsUpdateFault}
use Rattle.terms.specs.Statements.{changed_type, Statement, SaysChange, HasAction, IsChangeOf}
use Rattle.terms.specs.Ptfin.{these_parts, Begun, sysmod_in, IsUpdateWord, HasValue, IsWithin}
use Rattle.terms.proofs.Texts.{form_numbered}
use Rattle.terms.proofs.Updates.{numbered_no_fault, update_no_fault}
use Rattle.mcs.specs.declared.fault.StatementError.{StatementError}
use Rattle.mcs.specs.declared.fault.StatementError.TheVariants.{Memory, Fault}
use Rattle.mcs.specs.Elements.{HasNames, IsTextError, IsUpdateTextError}
use Rattle.mcs.specs.Said.{IsSaidFault, IsSaidError}
use Rattle.mcs.proofs.Saying.{change_excludes}

pub replacement_fits : (type : ElemType) (name distlib syslib : Text) (text : Lines)
    → IsActionOf type name (Replaces distlib syslib text) ↔ IsReplacement type text
replacement_fits Mac name d s text = (λ h. h, λ h. h)
replacement_fits type name d s text = (λ h. h, λ h. h)

pub not_numbered : (type : ElemType) (inline lines : Lines) (fault : TextFault) → TakesUpdates type → lines ≡ inline
    → IsNumberedFault lines fault → IsReplacement type inline → ⊥
not_numbered type inline lines fault takes same f r =
    numbered_no_fault lines fault (subst IsNumbered (sym same) (form_numbered type inline takes r.1)) f

abbrev pub a_change : ElemType → Text → Text → Text → Lines → Change
a_change type name distlib syslib text = record { elem_type = type; name = name; action = Replaces distlib syslib text }

pub change_value : (current : Option Sysmod) (w : StatementWord) (own : Option Text) (rest : List Piece)
    (inline lines : Lines) (type : ElemType) (ws : List Word) (name distlib syslib : Text) → w ≡ word.Replace type
    → HasWords rest ws → HasNames own ws name distlib syslib → lines ≡ inline
    → HasValue current (these_parts w own rest inline) (SaysChange (a_change type name distlib syslib lines))
change_value current w own rest inline lines type ws name distlib syslib is h n same = (
  ws,
  h,
  record {
    type_is = ap changed_type is;
    name = n.name;
    action = subst (λ x. HasAction x ws inline (Replaces distlib syslib lines)) (sym is)
        (n.are_operands, n.has_distlib, n.has_syslib, same);
  },
)

-- Whatever a replacement says, it has names.
pub names_excluded : (w : StatementWord) (own : Option Text) (ws : List Word) (inline : Lines) (type : ElemType)
    (c : Change) → w ≡ word.Replace type → ((name distlib syslib : Text) → HasNames own ws name distlib syslib → ⊥)
    → IsChangeOf w own ws inline c → ⊥
names_excluded w own ws inline type c is none h = no_names own ws inline type c.name c.action none h.name
    (subst (λ x. HasAction x ws inline c.action) is h.action)
  where
    no_names : (own : Option Text) (ws : List Word) (inline : Lines) (type : ElemType) (name : Text) (a : Action)
        → ((name distlib syslib : Text) → HasNames own ws name distlib syslib → ⊥) → HasOwn IsName own name
        → HasAction (word.Replace type) ws inline a → ⊥
    no_names own ws inline type name (Replaces d s text) none n h =
        none name d s (record { name = n; are_operands = h.0; has_distlib = h.1; has_syslib = h.2 })
    no_names own ws inline type name (Updates text) none n h = h

pub text_fault : (current : Option Begun) (w : StatementWord) (own : Option Text) (rest : List Piece) (inline : Lines)
    (type : ElemType) (name distlib syslib : Text) (error : StatementError) → IsTextError type inline error
    → HasValue (sysmod_in current) (these_parts w own rest inline)
    (SaysChange (a_change type name distlib syslib inline))
    → IsWithin current (SaysChange (a_change type name distlib syslib inline)) inline
    → IsSaidError current (these_parts w own rest inline) error
text_fault current w own rest inline type name d s Memory e value within = tt
text_fault current w own rest inline type name d s (Fault code) e value within =
    subst (λ k. IsSaidFault current (these_parts w own rest inline) k) (sym e.0) (
      SaysChange (a_change type name d s inline),
      value,
      within,
      λ good. e.1 ((replacement_fits type name d s inline).0 good),
    )

abbrev pub an_update : ElemType → Text → Lines → Change
an_update type name text = record { elem_type = type; name = name; action = Updates text }

has_update : (w : StatementWord) (inline lines : Lines) → IsUpdateWord w → lines ≡ inline
    → HasAction w [] inline (Updates lines)
has_update word.UpdateMac inline lines is same = (refl, same)
has_update word.UpdateSrc inline lines is same = (refl, same)
has_update w inline lines is same = absurd is

pub update_value : (current : Option Sysmod) (w : StatementWord) (own : Option Text) (rest : List Piece)
    (inline lines : Lines) (type : ElemType) (name : Text) → (changed_type w ≡ Some type) × IsUpdateWord w → rest ≡ []
    → HasOwn IsName own name → lines ≡ inline
    → HasValue current (these_parts w own rest inline) (SaysChange (an_update type name lines))
update_value current w own rest inline lines type name is none n same =
    ([], none, record { type_is = is.0; name = n; action = has_update w inline lines is.1 same })

no_operands : (w : StatementWord) (ws : List Word) (inline : Lines) (a : Action) → IsUpdateWord w
    → HasAction w ws inline a → ws ≡ []
no_operands word.UpdateMac ws inline (Updates text) is h = h.0
no_operands word.UpdateSrc ws inline (Updates text) is h = h.0
no_operands word.UpdateMac ws inline (Replaces d s text) is h = absurd h
no_operands word.UpdateSrc ws inline (Replaces d s text) is h = absurd h
no_operands w ws inline a is h = absurd is

-- Whatever an update says, it has a name and no operand.
update_excluded : (w : StatementWord) (own : Option Text) (rest : List Piece) (ws : List Word) (inline : Lines)
    (c : Change) → IsUpdateWord w → ((name : Text) → HasOwn IsName own name → rest ≡ [] → ⊥) → HasWords rest ws
    → IsChangeOf w own ws inline c → ⊥
update_excluded w own rest ws inline c is none words h = none c.name h.name
    (words ∙ ap (flat_map word_pieces) (no_operands w ws inline c.action is h.action))

-- Without these, a word of updates says nothing.
pub no_update : (current : Option Sysmod) (w : StatementWord) (own : Option Text) (rest : List Piece) (inline : Lines)
    (type : ElemType) → (changed_type w ≡ Some type) × IsUpdateWord w
    → ((name : Text) → HasOwn IsName own name → rest ≡ [] → ⊥) → (s : Statement)
    → HasValue current (these_parts w own rest inline) s → ⊥
no_update current w own rest inline type is none =
    change_excludes current w own rest inline type is.0
    (λ ws c words r. update_excluded w own rest ws inline c is.1 none words r)

-- an update changes a macro or a source
pub update_to : (w : StatementWord) (type : ElemType) (name : Text) (text : Lines)
    → (changed_type w ≡ Some type) × IsUpdateWord w → IsActionOf type name (Updates text) → IsUpdate name text
update_to w Mac name text is h = h
update_to w Src name text is h = h
update_to w type name text is h = absurd h

pub update_from : (w : StatementWord) (type : ElemType) (name : Text) (text : Lines)
    → (changed_type w ≡ Some type) × IsUpdateWord w → IsUpdate name text → IsActionOf type name (Updates text)
update_from word.UpdateMac Mac name text is h = h
update_from word.UpdateSrc Src name text is h = h
update_from word.UpdateMac type name text is h = subst (λ t. IsActionOf t name (Updates text)) (same_Some Mac type is.0)
    h
update_from word.UpdateSrc type name text is h = subst (λ t. IsActionOf t name (Updates text)) (same_Some Src type is.0)
    h
update_from w type name text is h = absurd is.1

pub not_update : (name : Text) (inline lines : Lines) (fault : TextFault) → lines ≡ inline
    → IsUpdateFault name lines fault → IsUpdate name inline → ⊥
not_update name inline lines fault same f u = update_no_fault name lines fault
    (subst (λ l. IsUpdate name l) (sym same) u) f

pub update_fault : (current : Option Begun) (w : StatementWord) (own : Option Text) (rest : List Piece) (inline : Lines)
    (type : ElemType) (name : Text) (error : StatementError) → (changed_type w ≡ Some type) × IsUpdateWord w
    → IsUpdateTextError name inline error
    → HasValue (sysmod_in current) (these_parts w own rest inline) (SaysChange (an_update type name inline))
    → IsWithin current (SaysChange (an_update type name inline)) inline
    → IsSaidError current (these_parts w own rest inline) error
update_fault current w own rest inline type name Memory is e value within = tt
update_fault current w own rest inline type name (Fault code) is e value within =
    subst (λ k. IsSaidFault current (these_parts w own rest inline) k) (sym e.0)
    (SaysChange (an_update type name inline), value, within, λ good. e.1 (update_to w type name inline is good))
