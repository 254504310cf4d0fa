-- What SYSMODs state, from one global zone to another.
use Rattle.std.proofs.Common.{◌≡◌, ◌∙◌, Bool, true, false, List, [], ◌∷◌, find, fold, cond, refl, ap, Some}
use Rattle.std.proofs.Common.{if◌then◌else◌}
use Rattle.std.specs.Option.{option_map}
use Rattle.std.specs.Prelude.{is_some}
use Rattle.std.specs.Str.{bytes_eq}
use Rattle.terms.specs.Types.{Text, Id, Hold, Sysmod, Global}
use Rattle.terms.specs.Global.{hold, with_source, assign, with_sysmod, received}
use Rattle.terms.specs.Lookups.{sysmod_of, is_received}
use Rattle.terms.proofs.GlobalLookups.{assigned, sysmod_of_assign, sysmod_of_with_sysmod}
use Rattle.terms.proofs.TextOrder.{same_from, same_itself}
use Rattle.sysmods.specs.Edits.{StatesThose}

-- where the SYSMODs are the same
pub states_same : (g new : Global) → new.sysmods ≡ g.sysmods → StatesThose new g
states_same g new same x s at = (s.sources, ap (find (λ (r : Sysmod). bytes_eq r.id x)) same ∙ at)

-- from one to the next
pub states_then : (g middle new : Global) → StatesThose middle g → StatesThose new middle → StatesThose new g
states_then g middle new first more x s at =
    let found = first x s at in
    more x (record s { sources = found.0 }) found.1

-- where one gains a source
pub states_assigned : (source : Text) (g : Global) (x : Id) → StatesThose (assign g source x) g
states_assigned source g x y s at = by (bytes_eq s.id x) refl
  where
    was : sysmod_of (assign g source x) y ≡ Some (assigned source x s)
    was = sysmod_of_assign g source x y ∙ ap (option_map (assigned source x)) at

    by : (b : Bool) → bytes_eq s.id x ≡ b
        → (sources : List Text) × (sysmod_of (assign g source x) y ≡ Some (record s { sources = sources }))
    by true e =
        let given = with_source source s in
        (given.sources, was ∙ ap (λ b. Some (if b then given else s)) e)
    by false e = (s.sources, was ∙ ap (λ b. Some (if b then with_source source s else s)) e)

-- holds change no SYSMOD
held_sysmods : (g : Global) (hs : List Hold) → (fold hold g hs).sysmods ≡ g.sysmods
held_sysmods g [] = refl
held_sysmods g (h ∷ hs) = held_sysmods (hold g h) hs

module _ (g : Global) (s : Sysmod) where
  there : (x : Id) → sysmod_of (received g s) x
      ≡ cond (bytes_eq s.id x) (Some (record s { holds = [] })) (sysmod_of g x)
  there x = ap (find (λ (r : Sysmod). bytes_eq r.id x)) (held_sysmods (with_sysmod g s) s.holds)
      ∙ sysmod_of_with_sysmod g s x

  -- the SYSMOD that is received
  pub received_there : sysmod_of (received g s) s.id ≡ Some (record s { holds = [] })
  received_there = there s.id ∙ ap (λ b. cond b (Some (record s { holds = [] })) (sysmod_of g s.id)) (same_itself s.id)

  -- where one is received that was not
  pub states_received : is_received g s.id ≡ false → StatesThose (received g s) g
  states_received new x r at = by (bytes_eq s.id x) refl
    where
      by : (b : Bool) → bytes_eq s.id x ≡ b
          → (sources : List Text) × (sysmod_of (received g s) x ≡ Some (record r { sources = sources }))
      by true e =
          let none : is_some (sysmod_of g x) ≡ false = rw (← same_from s.id x e) new in
          absurd (let wrong = rw at at none in cc)
      by false e =
          (r.sources, there x ∙ ap (λ b. cond b (Some (record s { holds = [] })) (sysmod_of g x)) e ∙ at)
