-- The table of zones, each without its entries and elements.
use Rattle.std.specs.Prelude.{◌≡◌, ◌≢◌, ℕ, List, [], ◌∷◌, IfSome, is_some, codes}
use Rattle.sqlite.specs.declared.types.Value.TheVariants as value
use Rattle.sqlite.specs.Order.{Row}
use Rattle.sqlite.specs.Values.{or_null}
use Rattle.terms.specs.Forms.{IsSrel, IsZoneName}
use Rattle.terms.specs.Spelling.{zone_kind_text}
use Rattle.terms.specs.Types.{is_target}
use Rattle.store_zones.specs.declared.head.TheConstants.{SELECT, SELECT_NAMED, INSERT}
use Rattle.store_zones.specs.declared.head.ZoneHead.{ZoneHead}

abbrev pub select_zones : List ℕ
select_zones = SELECT.now

abbrev pub select_zone : List ℕ
select_zone = SELECT_NAMED.now

abbrev pub insert_zone : List ℕ
insert_zone = INSERT.now

abbrev pub head_row : ZoneHead → Row
head_row h = value.Text h.name ∷ value.Text (zone_kind_text h.kind) ∷ value.Text h.srel ∷ or_null value.Text h.related ∷
    []

-- Only a target zone names a related zone.
pub record HasHeadForms (h : ZoneHead) : Type 0 where
  pub name : IsZoneName h.name
  pub srel : IsSrel h.srel
  pub related : IfSome h.related IsZoneName
  pub not_global : h.name ≢ codes "GLOBAL"
  pub suits : is_some h.related ≡ is_target h.kind
