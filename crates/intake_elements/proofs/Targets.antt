-- What statements change: elements of the profile, and stand-ins under hashed names.
use Rattle.std.proofs.Common.{◌≡◌, ◌≢◌, true, not, ◌||◌, ◌++◌, inl, inr, refl}
use Rattle.std.proofs.Common.{sym, ap, ◌∙◌, codes, if◌then◌else◌}
use Rattle.std.specs.List.{fold}
use Rattle.std.specs.Str.{bytes_eq}
use Rattle.std.proofs.lemmas.List.Sums.{fold-append}
use Rattle.terms.specs.declared.kinds.Kind.{Kind}
use Rattle.terms.specs.declared.kinds.ElemType.{ElemType}
use Rattle.terms.specs.declared.kinds.ElemType.TheVariants.{Mac, Src, Clist, Data, Exec, Parm, Proc}
use Rattle.terms.specs.Types.{Text, Change}
use Rattle.terms.specs.Changes.{is_replacement}
use Rattle.terms.specs.Spelling.{type_text}
use Rattle.intake_elements.specs.StandInNames.{hash_step, hash_of, stand_in_name, key_of}
use Rattle.intake_elements.specs.Elements.{IsProfileType, IsLacked, IsTarget, stand_in_type, is_update, IsChangeOf}

-- a hash that is made in parts
pub hash_parts : (word name : Text)
    → fold hash_step (fold hash_step (fold hash_step 0 word) (codes "(")) name ≡ hash_of (word ++ codes "(" ++ name)
hash_parts word name = sym (fold-append hash_step 0 (word ++ codes "(") name
    ∙ ap (λ h. fold hash_step h name) (fold-append hash_step 0 word (codes "(")))

-- a word that is none of the profile's
pub lacked : (word : Text) → word ≢ codes "MACUPD" → word ≢ codes "SRCUPD"
    → ((type : ElemType) → type_text type ≢ word) → IsLacked word
lacked word no_macupd no_srcupd no_type type (inl e) = no_type type e
lacked word no_macupd no_srcupd no_type type (inr (inl e)) = no_macupd e.0
lacked word no_macupd no_srcupd no_type type (inr (inr e)) = no_srcupd e.0

-- ---- the type that a word names

abbrev named : Text → ElemType
named word =
    if bytes_eq word (codes "MAC") || bytes_eq word (codes "MACUPD") then Mac else
    if bytes_eq word (codes "SRC") || bytes_eq word (codes "SRCUPD") then Src else
    if bytes_eq word (codes "CLIST") then Clist else
    if bytes_eq word (codes "DATA") then Data else
    if bytes_eq word (codes "EXEC") then Exec else
    if bytes_eq word (codes "PARM") then Parm else Proc

spelled : (type : ElemType) → named (type_text type) ≡ type
spelled Mac = refl
spelled Src = refl
spelled Clist = refl
spelled Data = refl
spelled Exec = refl
spelled Parm = refl
spelled Proc = refl

named_by : (word : Text) (type : ElemType) → IsProfileType word type → named word ≡ type
named_by word type (inl e) = ap named (sym e) ∙ spelled type
named_by word type (inr (inl e)) = ap named e.0 ∙ sym e.1
named_by word type (inr (inr e)) = ap named e.0 ∙ sym e.1

one_type : (word : Text) (a b : ElemType) → IsProfileType word a → IsProfileType word b → a ≡ b
one_type word a b one other = sym (named_by word a one) ∙ named_by word b other

-- ---- the number of the element that a statement changes

pub profile_key : (word name : Text) (known : ElemType) → IsProfileType word known
    → (type : ElemType) (target : Text) → IsTarget true word name type target → key_of known name ≡ key_of type target
profile_key word name known is type target (inl found) =
    ap (λ t. key_of t name) (one_type word known type is found.0) ∙ ap (key_of type) (sym found.1)
profile_key word name known is type target (inr other) = absurd (other.1 known is)

pub lacked_key : (word name : Text) → IsLacked word → (type : ElemType) (target : Text)
    → IsTarget true word name type target → key_of (stand_in_type word) (stand_in_name word name) ≡ key_of type target
lacked_key word name none type target (inl found) = absurd (none type found.0)
lacked_key word name none type target (inr other) =
    ap (λ t. key_of t (stand_in_name word name)) (sym other.2) ∙ ap (key_of type) (sym other.3)

-- ---- what a statement makes

pub lacked_change : (word name : Text) (kind : Kind) (read : Text) (type : ElemType) (change : Change) → IsLacked word
    → type ≡ stand_in_type word → read ≡ stand_in_name word name → IsChangeOf type read (is_update kind word) change
    → IsTarget true word name change.elem_type change.name
    × (is_replacement change.action ≡ not (is_update kind word))
lacked_change word name kind read type change none type_is same is =
    (inr (refl, none, is.0 ∙ type_is, is.1 ∙ same), is.2)
