-- How the received SYSMODs are kept: in a map by id, with an index.
use Rattle.std.specs.Prelude.{◌≡◌, List, [], All, find, Option}
use Rattle.std.specs.List.{AllByRecursion}
use Rattle.std.specs.List.Sorted.{IsStrictlySortedBy}
use Rattle.std.specs.Ordering.{nat_cmp}
use Rattle.std.specs.Cmp.Lexicographic.{slice_cmp}
use Rattle.std.specs.Map.{keys_of, values_of}
use Rattle.std.specs.Str.{bytes_eq}
use Rattle.terms.specs.Types.{Id, Sysmod, Global}
use Rattle.terms.specs.Global.{IsSysmod}
use Rattle.sysmods.specs.Index.{Sets, IsIndexed}

-- each SYSMOD is kept under its id
abbrev pub IsKeyed : List (Id × Sysmod) → Type 0
IsKeyed entries = AllByRecursion (λ e. e.1.id ≡ e.0) entries

pub record IsHeld (entries : List (Id × Sysmod)) (sets : Sets) : Type 0 where
  pub sorted : IsStrictlySortedBy (slice_cmp nat_cmp) (keys_of entries)
  pub keyed : IsKeyed entries
  pub formed : All IsSysmod (values_of entries)
  pub indexed : All (IsIndexed sets) (values_of entries)

-- the SYSMOD of this id
abbrev pub found : List Sysmod → Id → Option Sysmod
found xs x = find (λ s. bytes_eq s.id x) xs

-- a global zone of these SYSMODs, without holds
abbrev pub zone_of : List Sysmod → Global
zone_of xs = record { sysmods = xs; holds = [] }
