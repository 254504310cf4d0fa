-- The faults of a definition, found among the heads of the existing zones.
use Rattle.std.specs.Prelude.{◌&&◌, ◌||◌, Bool, false, not, List, length, find, Option, None, Some, is_some}
use Rattle.std.specs.Prelude.{nat_le, if◌then◌else◌}
use Rattle.std.specs.List.{list_any}
use Rattle.std.specs.Option.{option_map_or}
use Rattle.std.specs.Str.{bytes_eq}
use Rattle.terms.specs.declared.kinds.ZoneKind.{ZoneKind}
use Rattle.terms.specs.declared.kinds.ZoneKind.TheVariants.{Target, Distribution}
use Rattle.terms.specs.Types.{Text, is_distribution}
use Rattle.machine.specs.State.{ZoneDefinition, global_name}
use Rattle.store_zones.specs.declared.head.ZoneHead.{ZoneHead}
use Rattle.smpe_jobs.specs.declared.zone_error.ZoneFault.{ZoneFault}
use Rattle.smpe_jobs.specs.declared.zone_error.ZoneFault.TheVariants.{NameTaken, WrongRelated, OtherSrel, TooMany}

abbrev pub head_named : List ZoneHead → Text → Option ZoneHead
head_named heads name = find (λ h. bytes_eq h.name name) heads

abbrev pub is_related_to : Text → ZoneHead → Bool
is_related_to name h = option_map_or (bytes_eq name) h.related false

abbrev pub is_distribution_head : Option ZoneHead → Bool
is_distribution_head head = option_map_or (λ h. is_distribution h.kind) head false

abbrev pub is_free_distribution : List ZoneHead → Text → Bool
is_free_distribution heads name = is_distribution_head (head_named heads name)
    && not (list_any (is_related_to name) heads)

abbrev pub has_right_related : List ZoneHead → ZoneKind → Option Text → Bool
has_right_related heads Target related = option_map_or (is_free_distribution heads) related false
has_right_related heads Distribution related = not (is_some related)

abbrev pub has_srel : Text → Option ZoneHead → Bool
has_srel srel head = option_map_or (λ h. bytes_eq h.srel srel) head false

abbrev pub has_same_srel : List ZoneHead → Text → Option Text → Bool
has_same_srel heads srel related = option_map_or (λ name. has_srel srel (head_named heads name)) related
    (not (is_some related))

abbrev pub is_name_taken : List ZoneHead → Text → Bool
is_name_taken heads name = bytes_eq name global_name || is_some (head_named heads name)

abbrev pub first_fault : List ZoneHead → ZoneDefinition → Option ZoneFault
first_fault heads d =
    if is_name_taken heads d.name then Some NameTaken
    else if not (has_right_related heads d.kind d.related) then Some WrongRelated
    else if not (has_same_srel heads d.srel d.related) then Some OtherSrel
    else if nat_le 64 (length heads) then Some TooMany
    else None
