-- What a SYSMOD that is carried changes, by the element statements that the file has of it.
use Rattle.std.specs.Prelude.{◌≡◌, ◌⊎◌, Bool, false, List, IsTrue, All, not, Contains}
use Rattle.std.specs.List.{Any}
use Rattle.terms.specs.declared.kinds.Kind.{Kind}
use Rattle.terms.specs.declared.kinds.ElemType.{ElemType}
use Rattle.terms.specs.declared.kinds.ElemType.TheVariants.{Mac}
use Rattle.terms.specs.Types.{Text, Change, Sysmod}
use Rattle.terms.specs.Changes.{is_replacement}
use Rattle.intake_read.specs.declared.items.WideElement.{WideElement}
use Rattle.intake_elements.specs.Elements.{IsTarget, IsChangeOf, IsMadeOf, IsAssembledOf, LacksNothing, is_update}
use Rattle.intake_elements.specs.Elements.{modules_of, module_name}

-- The element is replaced, or updated. Where stand-ins are asked for, a replacement of the same SYSMOD stands for an
-- update too.
abbrev pub IsDone : Bool → ElemType → Text → Bool → Change → Type 0
IsDone decide type name updated change =
    IsChangeOf type name updated change ⊎ (IsTrue decide × IsChangeOf type name false change)

abbrev pub IsChanged : Bool → List Change → ElemType → Text → Bool → Type 0
IsChanged decide changes type name updated = Any (IsDone decide type name updated) changes

-- The element of the statement is changed as the statement says, and no operand of it decides more. Where stand-ins are
-- asked for, the modules that are assembled of it are replaced.
pub record IsElementChanged (decide : Bool) (kind : Kind) (changes : List Change) (stated : WideElement) : Type 0 where
  pub type : ElemType
  pub name : Text
  pub target_is : IsTarget decide stated.word.items stated.name.items type name
  pub changed : IsChanged decide changes type name (is_update kind stated.word.items)
  pub lacks_nothing : LacksNothing decide stated
  pub modules_changed : IsTrue decide
      → All (λ m. IsChanged decide changes Mac (module_name m) false) (modules_of stated)

-- The statement says the change.
abbrev pub IsSaidBy : Bool → Kind → WideElement → Change → Type 0
IsSaidBy decide kind stated change =
    IsMadeOf decide kind stated change ⊎ (IsTrue decide × IsAssembledOf stated change)

-- One of the statements does.
abbrev pub IsSaid : Bool → Kind → List WideElement → Change → Type 0
IsSaid decide kind stated change = Any (λ e. IsSaidBy decide kind e change) stated

-- what is changed stays so
abbrev pub Keeps : Bool → List Change → List Change → Type 0
Keeps decide old new = (type : ElemType) (name : Text) (updated : Bool) → IsChanged decide old type name updated
    → IsChanged decide new type name updated

-- A SYSMOD with what one of its statements changes besides.
pub record Grows (decide : Bool) (kind : Kind) (element : WideElement) (old new : Sysmod) : Type 0 where
  pub rest : new ≡ record old { changes = new.changes }
  pub kept : Keeps decide old.changes new.changes
  pub said : (stated : List WideElement) → Contains stated element → All (IsSaid decide kind stated) old.changes
      → All (IsSaid decide kind stated) new.changes

-- A SYSMOD to which a change is added, if that is allowed.
pub record Joins (decide : Bool) (change : Change) (old new : Sysmod) (joined : Bool) : Type 0 where
  pub rest : new ≡ record old { changes = new.changes }
  pub kept : Keeps decide old.changes new.changes
  pub there : IsTrue joined → (updated : Bool) → is_replacement change.action ≡ not updated
      → IsChanged decide new.changes change.elem_type change.name updated
  pub only : (c : Change) → Contains new.changes c → Contains old.changes c ⊎ (c ≡ change)
