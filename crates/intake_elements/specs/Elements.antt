-- What the element statements of a file change. These are the statements that bring elements in IBM z/OS SMP/E
-- Reference, "SMP/E modification control statements".
use Rattle.std.specs.Prelude.{◌≡◌, ◌⊎◌, Bool, true, false, List, [], ◌∷◌, ◌++◌, IsTrue, if◌then◌else◌, codes, ◌||◌}
use Rattle.std.specs.Prelude.{◌&&◌, not}
use Rattle.std.specs.Prelude.{ℕ, All, Contains}
use Rattle.std.specs.List.{Any}
use Rattle.std.specs.Str.{bytes_eq}
use Rattle.terms.specs.declared.kinds.Kind.{Kind}
use Rattle.terms.specs.declared.kinds.ElemType.{ElemType}
use Rattle.terms.specs.declared.kinds.ElemType.TheVariants.{Mac, Src, Data}
use Rattle.terms.specs.Types.{Text, Change, is_function_kind}
use Rattle.terms.specs.Changes.{is_replacement}
use Rattle.terms.specs.Spelling.{type_text}
use Rattle.intake_read.specs.Stated.{texts}
use Rattle.intake_read.specs.declared.items.WideElement.{WideElement}
use Rattle.intake_read.specs.declared.items.WideOperand.{WideOperand}
use Rattle.intake_read.specs.declared.items.FaultyOperand.{FaultyOperand}
use Rattle.intake_elements.specs.StandInNames.{stand_in_name, key_of}
use Rattle.intake_elements.specs.ElementTexts.{IsStatedText}

-- the type of what stands for an element that the profile lacks, by its statement's word
abbrev pub stand_in_type : Text → ElemType
stand_in_type word =
    if bytes_eq word (codes "MOD") || bytes_eq word (codes "PROGRAM") || bytes_eq word (codes "JAR")
    || bytes_eq word (codes "ZAP") || bytes_eq word (codes "JARUPD")
    then Mac else Data

-- the type of the element that a statement of this word changes, in the profile
abbrev pub IsProfileType : Text → ElemType → Type 0
IsProfileType word type =
    (type_text type ≡ word)
    ⊎ ((word ≡ codes "MACUPD") × (type ≡ Mac))
    ⊎ ((word ≡ codes "SRCUPD") × (type ≡ Src))

-- the profile has no statement of this word
abbrev pub IsLacked : Text → Type 0
IsLacked word = (type : ElemType) → IsProfileType word type → ⊥

-- The element that a statement of this word and name changes. Where stand-ins are asked for, an element that the
-- profile lacks has one, under the name that its hash gives.
abbrev pub IsTarget : Bool → Text → Text → ElemType → Text → Type 0
IsTarget decide word name type target =
    (IsProfileType word type × (target ≡ name))
    ⊎ (IsTrue decide × IsLacked word × (type ≡ stand_in_type word) × (target ≡ stand_in_name word name))

-- Whether a statement of this word in a SYSMOD of the kind updates its element. All others replace it; what a function
-- brings is whole.
abbrev pub is_update_word : Text → Bool
is_update_word word =
    bytes_eq word (codes "MACUPD") || bytes_eq word (codes "SRCUPD") || bytes_eq word (codes "ZAP")
    || bytes_eq word (codes "JARUPD")

abbrev pub is_update : Kind → Text → Bool
is_update kind word = not (is_function_kind kind) && is_update_word word

-- a replacement or an update of the element
abbrev pub IsChangeOf : ElemType → Text → Bool → Change → Type 0
IsChangeOf type name updated change =
    (change.elem_type ≡ type) × (change.name ≡ name) × (is_replacement change.action ≡ not updated)

-- An operand that decides nothing. RMID, UMID and DELETE are not among these, nor is any operand that IBM may add.
abbrev pub is_harmless_of_text : Text → Bool
is_harmless_of_text name =
    bytes_eq name (codes "SSI") || bytes_eq name (codes "ALIAS") || bytes_eq name (codes "MALIAS")
    || bytes_eq name (codes "DISTSRC") || bytes_eq name (codes "PREFIX") || bytes_eq name (codes "VERSION")

-- of modules and programs
abbrev pub is_harmless_of_module : Text → Bool
is_harmless_of_module name =
    bytes_eq name (codes "LEPARM") || bytes_eq name (codes "LMOD") || bytes_eq name (codes "CSECT")
    || bytes_eq name (codes "DALIAS") || bytes_eq name (codes "TALIAS")

-- of JARs and of files of file systems
abbrev pub is_harmless_of_file : Text → Bool
is_harmless_of_file name =
    bytes_eq name (codes "PARM") || bytes_eq name (codes "LINK") || bytes_eq name (codes "SYMLINK")
    || bytes_eq name (codes "SYMPATH") || bytes_eq name (codes "SHSCRIPT") || bytes_eq name (codes "JARPARM")
    || bytes_eq name (codes "BINARY") || bytes_eq name (codes "TEXT")

abbrev pub is_harmless : Bool → Text → Bool
is_harmless decide name =
    is_harmless_of_text name || (decide && (is_harmless_of_module name || is_harmless_of_file name))

abbrev pub IsHarmless : Bool → WideOperand → Type 0
IsHarmless decide operand = is_harmless decide operand.name.items ≡ true

-- an operand that says which modules are assembled, or where they are
abbrev pub is_module_operand : Text → Bool
is_module_operand name = bytes_eq name (codes "DISTMOD") || bytes_eq name (codes "ASSEM")

abbrev pub IsNoModuleFault : FaultyOperand → Type 0
IsNoModuleFault fault = is_module_operand fault.operand.name.items ≡ false

-- The statement can be carried without the operands that it has besides, and without those that cannot be read: these
-- are none if no stand-ins are asked for, and none that says which modules are assembled.
pub record LacksNothing (decide : Bool) (stated : WideElement) : Type 0 where
  pub harmless : All (IsHarmless decide) stated.operands.items
  pub read : decide ≡ false → stated.faulty.items ≡ []
  pub modules_read : All IsNoModuleFault stated.faulty.items

-- what the statement itself changes; no operand of it decides more, and the text is the stated one, unless a stand-in
-- may take its place
pub record IsMadeOf (decide : Bool) (kind : Kind) (stated : WideElement) (change : Change) : Type 0 where
  pub target_is : IsTarget decide stated.word.items stated.name.items change.elem_type change.name
  pub action_is : is_replacement change.action ≡ not (is_update kind stated.word.items)
  pub lacks_nothing : LacksNothing decide stated
  pub text_is : decide ≡ false → IsStatedText stated change.action

-- The modules that are assembled of an element: of a source the one of its name, whether or not DISTMOD says where that
-- one is, and those that ASSEM names.
abbrev pub is_source : Text → Bool
is_source word = bytes_eq word (codes "SRC") || bytes_eq word (codes "SRCUPD")

abbrev pub own_modules : WideElement → List Text
own_modules stated = if is_source stated.word.items then stated.name.items ∷ [] else []

abbrev pub modules_of : WideElement → List Text
modules_of stated = own_modules stated ++ texts stated.assem.items

-- the name of the stand-in of a module, which is a macro
abbrev pub module_name : Text → Text
module_name name = stand_in_name (codes "MOD") name

-- where stand-ins are asked for, a replacement of the stand-in of such a module
abbrev pub IsAssembledOf : WideElement → Change → Type 0
IsAssembledOf stated change = Any (λ m. IsChangeOf Mac (module_name m) false change) (modules_of stated)

-- The statement changes this element, where stand-ins are asked for, or is assembled to it.
abbrev pub IsTouched : WideElement → ElemType → Text → Type 0
IsTouched stated type name =
    IsTarget true stated.word.items stated.name.items type name
    ⊎ Any (λ m. (type ≡ Mac) × (name ≡ module_name m)) (modules_of stated)

-- Each element that the statement changes has its number among these.
abbrev pub AreKeysOf : WideElement → List ℕ → Type 0
AreKeysOf stated keys = (type : ElemType) (name : Text) → IsTouched stated type name → Contains keys (key_of type name)
