-- What the heads of zones say about each other.
use Rattle.std.specs.Prelude.{◌≡◌, ◌≢◌, List, All, AllPairs, IfSome, Some}
use Rattle.std.specs.List.{Any}
use Rattle.terms.specs.declared.kinds.ZoneKind.TheVariants.{Distribution}
use Rattle.terms.specs.Types.{Text}
use Rattle.store_zones.specs.declared.head.ZoneHead.{ZoneHead}

-- it is the distribution zone of this name and SREL
abbrev pub IsDistributionOf : Text → Text → ZoneHead → Type 0
IsDistributionOf name srel h = (h.name ≡ name) × (h.kind ≡ Distribution) × (h.srel ≡ srel)

-- the zone that it names is the distribution zone of its SREL
abbrev pub IsRelatedAmong : List ZoneHead → ZoneHead → Type 0
IsRelatedAmong heads h = IfSome h.related (λ name. Any (IsDistributionOf name h.srel) heads)

-- the second names no zone that the first names
abbrev pub HeadsAreApart : ZoneHead → ZoneHead → Type 0
HeadsAreApart a b = IfSome a.related (λ name. b.related ≢ Some name)

-- Each related zone exists, and no two zones name the same one.
pub record AreRelated (heads : List ZoneHead) : Type 0 where
  pub related : All (IsRelatedAmong heads) heads
  pub apart : AllPairs HeadsAreApart heads
