-- Where a loop can be after one more SYSMOD is received: only through that one, in a ++VER of its own.
use Rattle.std.proofs.Common.{◌≡◌, ◌≢◌, ◌⊎◌, inl, inr, Bool, true, false, List, [], ◌∷◌, filter, cond, refl, sym, ap}
use Rattle.std.proofs.Common.{◌∙◌, subst, Option, None, Some, All, Contains, arith}
use Rattle.std.specs.List.{flat_map}
use Rattle.std.specs.Option.{option_map_or}
use Rattle.std.specs.Str.{bytes_eq}
use Rattle.std.proofs.lemmas.List.Elements.{All-head, All-tail, Contains-append_cases, Contains-append_left}
use Rattle.std.proofs.lemmas.List.Elements.{Contains-append_right}
use Rattle.terms.specs.Types.{Text, Id, Ver, Sysmod, Global}
use Rattle.terms.specs.Lookups.{sysmod_of}
use Rattle.terms.specs.Over.{Reaches}
use Rattle.terms.specs.Global.{named, names_for, HasLoop, with_sysmod}
use Rattle.terms.proofs.Leads.{loop_through, last_step}
use Rattle.terms.proofs.TextOrder.{same_or_not, same_from, same_itself}
use Rattle.terms.proofs.GlobalLookups.{sysmod_of_with_sysmod}
use Rattle.std.proofs.Common.{◌++◌}
use Rattle.terms.specs.Lookups.{at_most_one}
use Rattle.terms.specs.Choice.{Choice, pre_of, sup_of, fmid_of}
use Rattle.terms.specs.Over.{names}

-- all ++VERs of a received SYSMOD
abbrev pub all_vers : Global → Id → List Ver
all_vers g x = option_map_or (λ s. s.vers) (sysmod_of g x) []

-- the ++VERs of a list for one SREL
abbrev pub for_srel : Text → List Ver → List Ver
for_srel srel vs = filter (λ v. bytes_eq v.srel srel) vs

-- what some of the ++VERs name all of them name
pub named_by_all : (srel : Text) (vs : List Ver) (z : Id) → Contains (flat_map named (for_srel srel vs)) z
    → Contains (flat_map named vs) z
named_by_all srel [] z here = here
named_by_all srel (v ∷ vs) z here = by (named_by_all srel vs z) (bytes_eq v.srel srel) refl
  where
    by : (Contains (flat_map named (for_srel srel vs)) z → Contains (flat_map named vs) z) → (b : Bool)
        → bytes_eq v.srel srel ≡ b → Contains (flat_map named (v ∷ vs)) z
    by again true e = part (Contains-append_cases (named v) (flat_map named (for_srel srel vs)) z
        (subst (λ b. Contains (flat_map named (cond b (v ∷ for_srel srel vs) (for_srel srel vs))) z) e here))
      where
        part : Contains (named v) z ⊎ Contains (flat_map named (for_srel srel vs)) z
            → Contains (flat_map named (v ∷ vs)) z
        part (inl first) = Contains-append_left (named v) (flat_map named vs) z first
        part (inr rest) = Contains-append_right (named v) (flat_map named vs) z (again rest)
    by again false e = Contains-append_right (named v) (flat_map named vs) z
        (again (subst (λ b. Contains (flat_map named (cond b (v ∷ for_srel srel vs) (for_srel srel vs))) z) e here))

-- Where those for an SREL name something, there is one.
some_ver : (P : Ver → Type 0) (srel : Text) (vs : List Ver) (z : Id) → Contains (flat_map named (for_srel srel vs)) z
    → All P vs → (v : Ver) × P v × (v.srel ≡ srel)
some_ver P srel [] z here all = absurd (omega (arith, here.1))
some_ver P srel (v ∷ vs) z here all = by (some_ver P srel vs z) (bytes_eq v.srel srel) refl
  where
    by : (Contains (flat_map named (for_srel srel vs)) z → All P vs → (v : Ver) × P v × (v.srel ≡ srel)) → (b : Bool)
        → bytes_eq v.srel srel ≡ b → (v : Ver) × P v × (v.srel ≡ srel)
    by again true e = (v, All-head P v vs all, same_from v.srel srel e)
    by again false e = again (subst (λ b. Contains (flat_map named (cond b (v ∷ for_srel srel vs) (for_srel srel vs)))
        z) e here) (All-tail P v vs all)

-- a list that leads somewhere begins with something named
first_named : (next : Id → List Id) (x z : Id) → Reaches next x z → (y : Id) × Contains (next x) y
first_named next x z ([], named) = (z, named)
first_named next x z (y ∷ ys, leads) = (y, leads.0)

module _ (g : Global) (s : Sysmod) where
  -- other SYSMODs name what they named
  pub names_others : (srel : Text) (y : Id) → y ≢ s.id → names_for (with_sysmod g s) srel y ≡ names_for g srel y
  names_others srel y other = by (bytes_eq s.id y) refl
    where
      from : Option Sysmod → List Id
      from o = flat_map named (option_map_or (λ r. for_srel srel r.vers) o [])

      by : (b : Bool) → bytes_eq s.id y ≡ b → names_for (with_sysmod g s) srel y ≡ names_for g srel y
      by true e = absurd (other (sym (same_from s.id y e)))
      by false e = ap from (sysmod_of_with_sysmod g s y ∙ ap
          (λ b. cond b (Some (record s { holds = [] })) (sysmod_of g y)) e)

  pub names_own : (srel : Text) → names_for (with_sysmod g s) srel s.id ≡ flat_map named (for_srel srel s.vers)
  names_own srel =
      ap (λ o. flat_map named (option_map_or (λ r. for_srel srel r.vers) o []))
      (sysmod_of_with_sysmod g s s.id ∙ ap (λ b. cond b (Some (record s { holds = [] })) (sysmod_of g s.id))
      (same_itself s.id))

  -- it leads to itself in the ++VERs of this SREL
  abbrev pub LeadsBack : Text → Type 0
  LeadsBack srel = Reaches (names_for (with_sysmod g s) srel) s.id s.id

  leads_back : ¬ HasLoop g → (srel : Text) (x : Id) → Reaches (names_for (with_sysmod g s) srel) x x → LeadsBack srel
  leads_back none srel x loop =
      loop_through (names_for g srel) (names_for (with_sysmod g s) srel) s.id (names_others srel)
      (λ y was. none (srel, y, was)) x loop

  -- So a search from it in each of its ++VERs finds each loop.
  pub no_loop_from_search : ¬ HasLoop g → All (λ v. ¬ LeadsBack v.srel) s.vers → ¬ HasLoop (with_sysmod g s)
  no_loop_from_search none searched (srel, x, loop) =
      let back : LeadsBack srel = leads_back none srel x loop in
      let first = first_named (names_for (with_sysmod g s) srel) s.id s.id back in
      let own = some_ver (λ v. ¬ LeadsBack v.srel) srel s.vers first.0
      (subst (λ xs. Contains xs first.0) (names_own srel) first.1) searched in
      own.1 (subst LeadsBack (sym own.2) back)

  -- and there is none where nothing names it
  pub no_loop_unnamed : ¬ HasLoop g → ((y : Id) → ¬ Contains (flat_map named (all_vers g y)) s.id)
      → ¬ Contains (flat_map named s.vers) s.id → ¬ HasLoop (with_sysmod g s)
  no_loop_unnamed none others own (srel, x, loop) = by (last_step (names_for (with_sysmod g s) srel) s.id s.id
      (leads_back none srel x loop))
    where
      unnamed : (y : Id) → Contains (names_for (with_sysmod g s) srel y) s.id → ⊥
      unnamed y here = at (same_or_not y s.id)
        where
          at : (y ≡ s.id) ⊎ (y ≢ s.id) → ⊥
          at (inl same) = own (named_by_all srel s.vers s.id
              (subst (λ xs. Contains xs s.id) (ap (names_for (with_sysmod g s) srel) same ∙ names_own srel) here))
          at (inr other) = others y (by_all (sysmod_of g y) (subst (λ xs. Contains xs s.id) (names_others srel y other)
              here))
            where
              by_all : (o : Option Sysmod) → Contains (flat_map named (option_map_or (λ r. for_srel srel r.vers) o []))
                  s.id → Contains (flat_map named (option_map_or (λ r. r.vers) o [])) s.id
              by_all None named = named
              by_all (Some r) named = named_by_all srel r.vers s.id named

      by : Contains (names_for (with_sysmod g s) srel s.id) s.id
          ⊎ ((y : Id) × Reaches (names_for (with_sysmod g s) srel) s.id y
          × Contains (names_for (with_sysmod g s) srel y) s.id) → ⊥
      by (inl direct) = unnamed s.id direct
      by (inr (y, to, last)) = unnamed y last

-- what one supersedes it names
pub sup_named : (c : Choice) (x z : Id) → Contains (sup_of c x) z → Contains (names c x) z
sup_named c x z is =
    Contains-append_left (pre_of c x ++ sup_of c x) (at_most_one (fmid_of c x)) z
    (Contains-append_right (pre_of c x) (sup_of c x) z is)
