-- The internal holds on an id.
use Rattle.std.specs.Prelude.{◌≡◌, false, true, List, Option, Some, None, Bool, IsTrue}
use Rattle.std.specs.List.{AllByRecursion}
use Rattle.std.specs.Map.{lookup}
use Rattle.std.specs.BTreeMap.{is_at}
use Rattle.std.specs.BTreeMap.Range.{range_contains}
use Rattle.std.specs.declared.cmp.Ordering.TheVariants.{Less}
use Rattle.std.specs.declared.ops.Bound.TheVariants.{Included, Excluded}
use Rattle.terms.specs.declared.kinds.HoldKind.TheVariants.{User}
use Rattle.terms.specs.Types.{Hold}
use Rattle.sysmods.specs.declared.key.HoldKey.{HoldKey}
use Rattle.sysmods.specs.Keys.{key_cmp, behind_kind}

-- whether a key is of the same id and not before
abbrev pub goes_on : HoldKey → HoldKey → Bool
goes_on from k = range_contains key_cmp (Included from) (Excluded (behind_kind from.id User)) k

-- the hold at the key is internal, and no hold of the id before it is
pub record IsFirstInternal (es : List (HoldKey × Hold)) (from k : HoldKey) : Type 0 where
  pub on : goes_on from k ≡ true
  pub hold : Hold
  pub stands : lookup (is_at (key_cmp k)) es ≡ Some hold
  pub internal : IsTrue hold.internal
  pub between : AllByRecursion (λ e. goes_on from e.0 ≡ true → key_cmp e.0 k ≡ Less → e.1.internal ≡ false) es

-- the key of the next internal hold, if there is one
abbrev pub IsNextInternal : List (HoldKey × Hold) → HoldKey → Option HoldKey → Type 0
IsNextInternal es from None = AllByRecursion (λ e. goes_on from e.0 ≡ true → e.1.internal ≡ false) es
IsNextInternal es from (Some k) = IsFirstInternal es from k
