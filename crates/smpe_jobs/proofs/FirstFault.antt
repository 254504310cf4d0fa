-- The first fault among the heads is that of the machine's definition.
use Rattle.std.proofs.Common.{◌≡◌, ◌||◌, Bool, true, false, not, [], map, length, Option, Some, None, refl, sym, ◌∙◌}
use Rattle.std.proofs.Common.{ap}
use Rattle.std.specs.Prelude.{is_some, nat_le, if◌then◌else◌, Result, Ok, Err}
use Rattle.std.specs.Str.{bytes_eq}
use Rattle.terms.specs.Types.{a_zone}
use Rattle.machine.specs.State as state
use Rattle.machine.specs.State.{State, ZoneDefinition, define_zone, with_zone, global_name, zone_named}
use Rattle.store_zones.specs.Found.{head_of}
use Rattle.smpe_jobs.specs.declared.zone_error.ZoneFault.{ZoneFault}
use Rattle.smpe_jobs.specs.declared.zone_error.ZoneFault.TheVariants.{NameTaken, WrongRelated, OtherSrel, TooMany}
use Rattle.smpe_jobs.specs.ZoneDefinitions.{fault_of}
use Rattle.smpe_jobs.specs.Heads.{first_fault, is_name_taken, has_right_related, has_same_srel}
use Rattle.smpe_jobs.proofs.HeadLookups.{is_named, right_related, same_srel, as_many}

-- the state with the zone, or the fault
abbrev answer : State → Option ZoneFault → Result State state.ZoneFault
answer new None = Ok new
answer new (Some why) = Err (fault_of why)

abbrev first_of : Bool → Bool → Bool → Bool → Option ZoneFault
first_of a b c e = if a then Some NameTaken else if not b then Some WrongRelated else if not c then Some OtherSrel else
    if e then Some TooMany else None

told_so : (a b c e : Bool) (new : State)
    → (if a then Err state.NameTaken else if not b then Err state.WrongRelated else if not c then Err state.OtherSrel
    else if e then Err state.TooMany else Ok new)
    ≡ answer new (first_of a b c e)
told_so true b c e new = refl
told_so false false c e new = refl
told_so false true false e new = refl
told_so false true true true new = refl
told_so false true true false new = refl

same_tests : (a1 a2 b1 b2 c1 c2 e1 e2 : Bool) → a1 ≡ a2 → b1 ≡ b2 → c1 ≡ c2 → e1 ≡ e2
    → first_of a1 b1 c1 e1 ≡ first_of a2 b2 c2 e2
same_tests a1 a2 b1 b2 c1 c2 e1 e2 a b c e =
    ap (λ x. first_of x b1 c1 e1) a ∙ ap (λ x. first_of a2 x c1 e1) b ∙ ap (λ x. first_of a2 b2 x e1) c
    ∙ ap (λ x. first_of a2 b2 c2 x) e

defines : (s : State) (d : ZoneDefinition) → define_zone s d ≡ answer
    (with_zone s d.name (a_zone d.kind d.srel d.related [] [])) (first_fault (map head_of s.zones) d)
unfolding define_zone
defines s d =
    told_so (bytes_eq d.name global_name || is_some (zone_named s.zones d.name))
    (state.has_right_related s.zones d.kind d.related) (state.has_same_srel s.zones d.srel d.related)
    (nat_le 64 (length s.zones)) (with_zone s d.name (a_zone d.kind d.srel d.related [] []))
    ∙ ap (answer (with_zone s d.name (a_zone d.kind d.srel d.related [] [])))
    (sym (same_tests (is_name_taken (map head_of s.zones) d.name)
    (bytes_eq d.name global_name || is_some (zone_named s.zones d.name))
    (has_right_related (map head_of s.zones) d.kind d.related) (state.has_right_related s.zones d.kind d.related)
    (has_same_srel (map head_of s.zones) d.srel d.related) (state.has_same_srel s.zones d.srel d.related)
    (nat_le 64 (length (map head_of s.zones))) (nat_le 64 (length s.zones))
    (ap (λ b. bytes_eq d.name global_name || b) (is_named s.zones d.name)) (right_related s.zones d.kind d.related)
    (same_srel s.zones d.srel d.related) (ap (nat_le 64) (as_many s.zones))))

module _ (s : State) (d : ZoneDefinition) where
  pub refuses : (why : ZoneFault) → first_fault (map head_of s.zones) d ≡ Some why
      → define_zone s d ≡ Err (fault_of why)
  refuses why is = defines s d ∙ ap (answer (with_zone s d.name (a_zone d.kind d.srel d.related [] []))) is

  pub accepts : first_fault (map head_of s.zones) d ≡ None → define_zone s d ≡ Ok
      (with_zone s d.name (a_zone d.kind d.srel d.related [] []))
  accepts is = defines s d ∙ ap (answer (with_zone s d.name (a_zone d.kind d.srel d.related [] []))) is
