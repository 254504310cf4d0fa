-- What is found among zones is found among their heads.
use Rattle.std.proofs.Common.{suc, ◌≡◌, ◌&&◌, ◌||◌, Bool, true, false, not, List, [], ◌∷◌, map, length, Option}
use Rattle.std.proofs.Common.{Some, None, refl, ◌∙◌, ap}
use Rattle.std.specs.Prelude.{find, option_map, is_some, if◌then◌else◌}
use Rattle.std.specs.Option.{option_map_or}
use Rattle.std.specs.List.{list_any}
use Rattle.std.specs.Str.{bytes_eq}
use Rattle.terms.specs.declared.kinds.ZoneKind.{ZoneKind}
use Rattle.terms.specs.declared.kinds.ZoneKind.TheVariants.{Target, Distribution}
use Rattle.terms.specs.Types.{Text, Zone, NamedZone, is_distribution}
use Rattle.machine.specs.State as state
use Rattle.machine.specs.State.{zone_named}
use Rattle.store_zones.specs.declared.head.ZoneHead.{ZoneHead}
use Rattle.store_zones.specs.Found.{head_of}
use Rattle.smpe_jobs.specs.Heads.{head_named, is_related_to, is_free_distribution, has_right_related, has_same_srel}

abbrev found : List NamedZone → Text → Option NamedZone
found zones name = find (λ z. bytes_eq z.name name) zones

named_head : (zones : List NamedZone) (name : Text) → head_named (map head_of zones) name ≡ option_map head_of
    (found zones name)
named_head [] name = refl
named_head (z ∷ zs) name = by (bytes_eq z.name name) (named_head zs name)
  where
    by : (b : Bool) → head_named (map head_of zs) name ≡ option_map head_of (found zs name)
        → (if b then Some (head_of z) else head_named (map head_of zs) name) ≡ option_map head_of
        (if b then Some z else found zs name)
    by true later = refl
    by false later = later

-- whether there is one
some_named : (o : Option NamedZone) → is_some (option_map head_of o) ≡ is_some (option_map (λ z. z.zone) o)
some_named None = refl
some_named (Some z) = refl

pub is_named : (zones : List NamedZone) (name : Text) → is_some (head_named (map head_of zones) name) ≡ is_some
    (zone_named zones name)
is_named zones name = ap is_some (named_head zones name) ∙ some_named (found zones name)

-- what holds of it
of_found : (f : ZoneHead → Bool) (h : Zone → Bool) → ((z : NamedZone) → f (head_of z) ≡ h z.zone)
    → (o : Option NamedZone)
    → option_map_or f (option_map head_of o) false ≡ option_map_or h (option_map (λ z. z.zone) o) false
of_found f h same None = refl
of_found f h same (Some z) = same z

of_named : (f : ZoneHead → Bool) (h : Zone → Bool) → ((z : NamedZone) → f (head_of z) ≡ h z.zone)
    → (zones : List NamedZone) (name : Text)
    → option_map_or f (head_named (map head_of zones) name) false ≡ option_map_or h (zone_named zones name) false
of_named f h same zones name = ap (λ o. option_map_or f o false) (named_head zones name)
    ∙ of_found f h same (found zones name)

any_names : (zones : List NamedZone) (name : Text) → list_any (is_related_to name) (map head_of zones)
    ≡ state.is_related zones name
any_names [] name = refl
any_names (z ∷ zs) name = ap (λ b. option_map_or (bytes_eq name) z.zone.related false || b) (any_names zs name)

free_head : (zones : List NamedZone) (name : Text) → is_free_distribution (map head_of zones) name
    ≡ state.is_free zones name
free_head zones name =
    ap (λ b. b && not (list_any (is_related_to name) (map head_of zones)))
    (of_named (λ h. is_distribution h.kind)
    (λ z. is_distribution z.kind) (λ z. refl) zones name)
    ∙ ap (λ b. option_map_or (λ z. is_distribution z.kind) (zone_named zones name) false && not
    b) (any_names zones name)

pub right_related : (zones : List NamedZone) (kind : ZoneKind) (related : Option Text)
    → has_right_related (map head_of zones) kind related ≡ state.has_right_related zones kind related
right_related zones Target None = refl
right_related zones Target (Some name) = free_head zones name
right_related zones Distribution related = refl

pub same_srel : (zones : List NamedZone) (srel : Text) (related : Option Text)
    → has_same_srel (map head_of zones) srel related ≡ state.has_same_srel zones srel related
same_srel zones srel None = refl
same_srel zones srel (Some name) = of_named (λ h. bytes_eq h.srel srel) (λ z. bytes_eq z.srel srel) (λ z. refl) zones
    name

pub as_many : (zones : List NamedZone) → length (map head_of zones) ≡ length zones
as_many [] = refl
as_many (z ∷ zs) = ap suc (as_many zs)
