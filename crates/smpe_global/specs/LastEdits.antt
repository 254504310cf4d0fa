-- Edits without those that a later one makes again.
use Rattle.std.specs.Prelude.{◌≡◌, ◌⊎◌, Bool, true, false, List, [], ◌∷◌, All, Contains}
use Rattle.terms.specs.Types.{Id, Global}
use Rattle.sysmods.specs.declared.edit.GlobalEdit.{GlobalEdit}
use Rattle.sysmods.specs.declared.edit.GlobalEdit.TheVariants.{ReplaceSources}
use Rattle.sysmods.specs.Edits.{EachFits, after_edits, IsOfReceive, HasWrittenForm}

-- The edit replaces the sources of the SYSMOD.
abbrev pub Replaces : Id → GlobalEdit → Type 0
Replaces x (ReplaceSources s) = s.id ≡ x
Replaces x _ = ⊥

-- One of the edits does.
abbrev pub HasLater : List GlobalEdit → Id → Type 0
HasLater [] x = ⊥
HasLater (e ∷ edits) x = Replaces x e ⊎ HasLater edits x

-- Later edits replace the sources of the SYSMODs of `later`. Those of `now` are these and the edit's own, if the edit
-- is the last of its SYSMOD. If not, a later one replaces what it replaces.
abbrev pub IsLast : GlobalEdit → List Id → List Id → Bool → Type 0
IsLast e later now true = All (λ x. Replaces x e ⊎ Contains later x) now
IsLast e later now false = (now ≡ later) × ((x : Id) × Replaces x e × Contains later x)

-- The last edits are some of the edits. They fit where these do, and make the same.
pub record MakesSame (edits last : List GlobalEdit) : Type 0 where
  pub receives : All IsOfReceive edits → All IsOfReceive last
  pub written : All HasWrittenForm edits → All HasWrittenForm last
  pub fits : (stated g : Global) → EachFits stated edits g → EachFits stated last g
  pub after : (stated g : Global) → after_edits stated last g ≡ after_edits stated edits g
