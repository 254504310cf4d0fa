-- What two global zones say alike of a SYSMOD that is the same in both, but for its sources.
use Rattle.std.proofs.Common.{◌≡◌, ◌∙◌, false, [], is_some, find, refl, sym, ap}
use Rattle.std.specs.Prelude.{◌&&◌, ◌==◌, unwrap_or, if◌then◌else◌}
use Rattle.std.specs.Option.{option_map_or, option_and_then}
use Rattle.std.specs.Str.{bytes_eq}
use Rattle.terms.specs.declared.kinds.ElemType.{ElemType}
use Rattle.terms.specs.Types.{Text, Id, Ver, Change, Sysmod, Global, type_number, is_function_kind}
use Rattle.terms.specs.Lookups.{has_change, sysmod_of, is_function}
use Rattle.terms.specs.Choice.{Choice}
use Rattle.terms.specs.Over.{owner}
use Rattle.terms.proofs.Options.{map_or_map}
use Rattle.machine_laws.proofs.AlikeSysmods.{but_sources, AreAlike}

-- what does not see the sources
seen : {Y : Type 0} (f : Sysmod → Y) (d : Y) → ((s : Sysmod) → f (but_sources s) ≡ f s) → (g h : Global) (x : Id)
    → AreAlike g h x → option_map_or f (sysmod_of h x) d ≡ option_map_or f (sysmod_of g x) d
seen f d blind g h x alike =
    sym (map_or_map f but_sources d blind (sysmod_of h x))
    ∙ ap (λ o. option_map_or f o d) alike
    ∙ map_or_map f but_sources d blind (sysmod_of g x)

-- the elements that it changes
pub alike_change : (g h : Global) (x : Id) (type : ElemType) (name : Text) → AreAlike g h x
    → has_change h x type name ≡ has_change g x type name
alike_change g h x type name alike = ap
    (λ hs. is_some (find (λ (c : Change). (type_number c.elem_type == type_number type) && bytes_eq c.name name) hs))
    (seen (λ s. s.changes) [] (λ s. refl) g h x alike)

-- and its owner, if the same ++VER counts
pub alike_owner : (g h : Global) (was now : Choice) (x : Id) → AreAlike g h x → was x ≡ now x
    → owner h now x ≡ owner g was x
alike_owner g h was now x alike same =
    ap (λ b. if b then x else unwrap_or (option_and_then (λ (v : Ver). v.fmid) (now x)) x)
    (seen (λ s. is_function_kind s.kind) false (λ s. refl) g h x alike)
    ∙ ap (λ o. if is_function g x then x else unwrap_or (option_and_then (λ (v : Ver). v.fmid) o) x) (sym same)
