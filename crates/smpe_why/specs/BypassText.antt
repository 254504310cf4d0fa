-- BYPASS, by the text of its list.
use Rattle.std.specs.Prelude.{◌≡◌, ◌+◌, ◌-◌, ◌&&◌, ℕ, Bool, true, not, List, [], ◌∷◌, ◌++◌, Option, None, Some, codes}
use Rattle.std.specs.Prelude.{replicate, nat_lt, IsTrue, if◌then◌else◌}
use Rattle.terms.specs.Types.{Text, Bypass, Selection, Install, Accept}
use Rattle.terms.specs.Lookups.{is_nil}
use Rattle.terms.specs.Statement.{is_blank}
use Rattle.terms.specs.Commands.{IsCommandFile}

-- The text as records. One ends after each blank and each comma, and the text goes on in column 1 of the next. The
-- first of these records has so many columns already.
abbrev pub carded : ℕ → Text → List ℕ
carded column [] = replicate (80 - column) 32
carded column (b ∷ bs) =
    b ∷ (if is_blank b then replicate (80 - (column + 1)) 32 ++ carded 0 bs else carded (column + 1) bs)

-- It stays within columns 1 to 72.
abbrev pub is_carded : ℕ → Text → Bool
is_carded column [] = true
is_carded column (b ∷ bs) = nat_lt column 72 && is_carded (if is_blank b then 0 else column + 1) bs

-- an ACCEPT with this list of BYPASS
abbrev pub accept_text : Text → Text
accept_text list = codes "ACCEPT BYPASS(" ++ list ++ codes ")."

-- no operand is given that chooses anything
abbrev pub chooses_nothing : Selection → Bool
chooses_nothing s =
    not s.functions && not s.ptfs && not s.apars && not s.usermods && is_nil s.select && is_nil s.exclude
    && is_nil s.sourceid && is_nil s.forfmid && is_nil s.group && not s.groupextend

-- BYPASS is the only operand
abbrev pub only_bypasses : Install → Bool
only_bypasses i = chooses_nothing i.selection && not i.check

-- The text is the list of an ACCEPT's BYPASS: a command file of this ACCEPT has this value. (Of its members only
-- APPLYCHECK is not one of APPLY's.)
pub record TakesBypass (list : Text) (b : Bypass) : Type 0 where
  pub fits : IsTrue (is_carded 0 (accept_text list))
  pub install : Install
  pub is_file : IsCommandFile (carded 0 (accept_text list)) (Accept install ∷ [])
  pub only : IsTrue (only_bypasses install)
  pub bypass_is : install.bypass ≡ b

abbrev pub IsBypassOf : Text → Option Bypass → Type 0
IsBypassOf list (Some b) = TakesBypass list b
IsBypassOf list None = (b : Bypass) → ¬ TakesBypass list b
