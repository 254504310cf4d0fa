-- FORFMID, ++VER by ++VER.
use Rattle.std.proofs.Common.{◌≡◌, Bool, ◌&&◌, List, [], filter, Some, ap, ◌∙◌}
use Rattle.std.specs.List.{list_any, flat_map}
use Rattle.std.specs.Option.{option_map_or}
use Rattle.std.specs.Str.{bytes_eq}
use Rattle.terms.specs.Types.{Text, Id, Ver, Sysmod, Global}
use Rattle.terms.specs.Lookups.{at_most_one, is_in, meets, sysmod_of}
use Rattle.terms.specs.Choice.{vers_of}
use Rattle.select.proofs.Kept.{any_kept}

-- whether a ++VER is for the SREL and has one of these FMIDs
abbrev pub has_fmid_for : Text → List Id → Ver → Bool
has_fmid_for srel wanted v = bytes_eq v.srel srel && list_any (is_in wanted) (at_most_one v.fmid)

pub fmids_there : (g : Global) (srel : Text) (x : Id) (wanted : List Id) (s : Sysmod) → Some s ≡ sysmod_of g x
    → list_any (has_fmid_for srel wanted) s.vers ≡ meets (flat_map (λ v. at_most_one v.fmid) (vers_of g srel x)) wanted
fmids_there g srel x wanted s e =
    any_kept (λ v. bytes_eq v.srel srel) (λ v. at_most_one v.fmid) (is_in wanted) s.vers
    ∙ ap (λ o. meets (flat_map (λ v. at_most_one v.fmid) (option_map_or (λ r. filter (λ v. bytes_eq v.srel srel) r.vers)
    o [])) wanted) e
