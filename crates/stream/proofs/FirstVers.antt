-- The SYSMODs of the stream, and that they make no loop.
use Rattle.std.proofs.Common.{◌≡◌, ◌∙◌, ◌-◌, true, List, [], ◌++◌, map, filter, is_some, Option, None, Some}
use Rattle.std.proofs.Common.{Contains, refl, sym, ap, subst, true≢false}
use Rattle.std.specs.Prelude.{◌↔◌, slice_get, unwrap_or}
use Rattle.std.specs.Option.{option_map_or, option_and_then}
use Rattle.std.specs.Str.{bytes_eq}
use Rattle.terms.proofs.ListMembers.{none_in, in_map, in_flat, in_filter, filter_in}
use Rattle.terms.proofs.Leads.{reaches_more}
use Rattle.terms.proofs.Places.{contains_at}
use Rattle.terms.proofs.Searches.{find_gives}
use Rattle.terms.proofs.TextOrder.{same_from}
use Rattle.terms.specs.Types.{Text, Id, Ver, Sysmod, Global}
use Rattle.terms.specs.Lookups.{at_most_one, sysmod_of}
use Rattle.terms.specs.Choice.{Choice, vers_of}
use Rattle.terms.specs.Over.{IsOver, names}
use Rattle.terms.specs.Global.{named, names_for, HasLoop}
use Rattle.terms.specs.Stream.{IsInStream, ver_for}
use Rattle.sysmods.specs.declared.ver_choice.VerChoice.{VerChoice}
use Rattle.sysmods.specs.declared.ver_choice.Pick.{Pick}
use Rattle.sysmods.specs.Choices.{number_in, picked, choice}

module _ (vers : VerChoice) where
  -- a SYSMOD of the stream is received
  pub received : (x : Id) → IsInStream (choice vers) x → Contains (map (λ s. s.id) vers.global.now.sysmods) x
  received x there = by (sysmod_of vers.global.now x) refl
    where
      by : (o : Option Sysmod) → sysmod_of vers.global.now x ≡ o → Contains (map (λ s. s.id) vers.global.now.sysmods) x
      by None at = absurd (true≢false (sym there ∙ ap
          (λ o. is_some (slice_get (option_map_or (λ (s : Sysmod). filter (λ v. bytes_eq v.srel vers.srel) s.vers) o [])
          (number_in vers x - 1))) at))
      by (Some s) at =
          let gives = find_gives (λ (r : Sysmod). bytes_eq r.id x) vers.global.now.sysmods s at in
          subst (Contains (map (λ s. s.id) vers.global.now.sysmods)) (same_from s.id x gives.0)
          (in_map (λ (r : Sysmod). r.id) vers.global.now.sysmods s gives.1)

  abbrev named_in : Option Ver → List Id
  named_in o = option_map_or (λ v. v.pre) o [] ++ option_map_or (λ v. v.sup) o []
      ++ at_most_one (option_and_then (λ v. v.fmid) o)

  -- what names anything is in the stream
  pub names_in_stream : (x z : Id) → Contains (names (choice vers) x) z → IsInStream (choice vers) x
  names_in_stream x z = by (choice vers x)
    where
      by : (o : Option Ver) → Contains (named_in o) z → is_some o ≡ true
      by None is = absurd (none_in z is)
      by (Some v) is = refl

  names_among : (x z : Id) → Contains (names (choice vers) x) z
      → Contains (names_for vers.global.now vers.srel x) z
  names_among x z = by (choice vers x) refl
    where
      by : (o : Option Ver) → choice vers x ≡ o → Contains (named_in o) z
          → Contains (names_for vers.global.now vers.srel x) z
      by None at is = absurd (none_in z is)
      by (Some v) at is =
          in_flat named (vers_of vers.global.now vers.srel x) v z
          (contains_at (vers_of vers.global.now vers.srel x) (number_in vers x - 1) v at) is

  pub no_loop : ¬ HasLoop vers.global.now → (x : Id) → ¬ IsOver (choice vers) x x
  no_loop none x loop = none (
    vers.srel,
    x,
    reaches_more (names (choice vers)) (names_for vers.global.now vers.srel)
        names_among x x loop,
  )

-- what the choice looks at, one by one
abbrev by_picks : Global → Text → List Pick → List Pick → Choice
by_picks g srel kept fitting x =
    slice_get (vers_of g srel x) (unwrap_or (picked kept x) (unwrap_or (picked fitting x) 1) - 1)

-- without picks the first one counts
pub first_counts : (vers : VerChoice) (g : Global) (srel : Text) → vers.global.now ≡ g → vers.srel ≡ srel
    → vers.kept ≡ [] → vers.fitting ≡ [] → choice vers ≡ ver_for g srel
first_counts vers g srel zone level kept fitting = λ i. by_picks (zone i) (level i) (kept i) (fitting i)

-- the SYSMODs of the stream, out of all that are received
pub stream_members : (vers : VerChoice) (ids : List Id)
    → ids ≡ filter (λ x. is_some (choice vers x)) (map (λ s. s.id) vers.global.now.sysmods)
    → (x : Id) → Contains ids x ↔ IsInStream (choice vers) x
stream_members vers ids made x = (
  λ is. (filter_in (λ x. is_some (choice vers x)) (map (λ s. s.id) vers.global.now.sysmods) x
      (subst (λ l. Contains l x) made is)).1,
  λ there. subst (λ l. Contains l x) (sym made) (in_filter (λ x. is_some (choice vers x))
      (map (λ s. s.id) vers.global.now.sysmods) x (received vers x there) there),
)
