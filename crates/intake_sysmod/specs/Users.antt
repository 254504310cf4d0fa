-- Which SYSMODs of the files change an element. Of a SYSMOD with more elements than one may have, those are passed over
-- that no other one changes: nothing among these files asks for them.
use Rattle.std.specs.Prelude.{◌≡◌, ◌⊎◌, ◌<◌, ℕ, Bool, List, Option, Some, IsTrue, true, All, length}
use Rattle.std.specs.List.{Any, flat_map}
use Rattle.std.specs.Ordering.{nat_cmp}
use Rattle.std.specs.BTreeMap.{BTreeMap, get}
use Rattle.terms.specs.declared.kinds.ElemType.{ElemType}
use Rattle.terms.specs.Types.{Text, Id, Change}
use Rattle.intake_read.specs.declared.items.WideElement.{WideElement}
use Rattle.intake_read.specs.declared.items.WideSysmod.{WideSysmod}
use Rattle.intake_read.specs.declared.items.WideFile.{WideFile}
use Rattle.intake_elements.specs.Elements.{IsTouched, LacksNothing}
use Rattle.intake_elements.specs.StandInNames.{key_of}
use Rattle.intake_sysmod.specs.declared.element_users.ElementUser.{ElementUser}
use Rattle.intake_sysmod.specs.declared.element_users.ElementUser.TheVariants.{Only, Several}

-- the SYSMODs of the files
abbrev pub run_of : List WideFile → List WideSysmod
run_of files = flat_map (λ f. f.sysmods.items) files

-- One of its statements changes the element.
abbrev pub Touches : WideSysmod → ElemType → Text → Type 0
Touches stated type name = Any (λ e. IsTouched e type name) stated.elements.items

-- It changes an element of this number.
abbrev pub HasKey : WideSysmod → ℕ → Type 0
HasKey stated key = (type : ElemType) × (name : Text) × Touches stated type name × (key ≡ key_of type name)

abbrev pub UserMap : Type 0
UserMap = BTreeMap ℕ ElementUser

-- The one says of a user what the other says, or that there are several.
abbrev pub Covers : ElementUser → ElementUser → Type 0
Covers new old = (new ≡ Several) ⊎ (new ≡ old)

-- The SYSMOD of this id is known to use the number.
abbrev pub IsUser : UserMap → ℕ → Text → Type 0
IsUser users key id = (user : ElementUser) × (get nat_cmp users key ≡ Some user) × Covers user (Only id)

abbrev pub UsersGrow : UserMap → UserMap → Type 0
UsersGrow old new = (key : ℕ) (id : Text) → IsUser old key id → IsUser new key id

-- It is known to use all numbers that it has.
abbrev pub IsKnown : UserMap → WideSysmod → Type 0
IsKnown users stated = (key : ℕ) → HasKey stated key → IsUser users key stated.id.items

-- A number has no users among these but the only one that is known.
abbrev pub KnowsRun : UserMap → List WideSysmod → Type 0
KnowsRun users run = (key : ℕ) (id : Id) → get nat_cmp users key ≡ Some (Only id)
    → All (λ s. HasKey s key → s.id.items ≡ id) run

-- No other SYSMOD of the run changes what the statement changes.
abbrev pub IsAlone : List WideSysmod → Text → WideElement → Type 0
IsAlone run id element = (type : ElemType) (name : Text) → IsTouched element type name
    → All (λ s. Touches s type name → s.id.items ≡ id) run

-- The element is passed over.
pub record IsPassedOver (decide : Bool) (run : List WideSysmod) (stated : WideSysmod) (element : WideElement) :
    Type 0 where
  pub asked : IsTrue decide
  pub many : 999 < length stated.elements.items
  pub lacks_nothing : LacksNothing true element
  pub alone : IsAlone run stated.id.items element
