-- What ++VERs that count for one SREL say, in a global zone: they make no loop, and supersede no function.
use Rattle.std.proofs.Common.{◌≡◌, ◌∙◌, ◌-◌, Bool, true, false, not, List, [], ◌++◌, map, filter, Option, None, Some}
use Rattle.std.proofs.Common.{All, Contains, IsTrue, inl, inr, refl, sym, ap, subst, true≢false}
use Rattle.std.specs.Prelude.{◌&&◌}
use Rattle.std.specs.List.{list_any, flat_map}
use Rattle.std.specs.Option.{option_map_or, option_and_then}
use Rattle.std.specs.Str.{bytes_eq}
use Rattle.std.proofs.lemmas.List.Elements.{Contains-append_left, Contains-append_right}
use Rattle.std.proofs.lemmas.List.Elements.{All-contains}
use Rattle.terms.proofs.Booleans.{neither}
use Rattle.terms.proofs.ListMembers.{here, none_in, in_map, filter_in, in_flat}
use Rattle.terms.proofs.Places.{contains_at}
use Rattle.terms.proofs.Searches.{find_gives, All_find, none_passes}
use Rattle.terms.proofs.TextOrder.{same_from}
use Rattle.terms.specs.Types.{Text, Id, IfReq, Ver, Sysmod, Global, Zone}
use Rattle.terms.specs.Lookups.{at_most_one, sysmod_of, is_received, is_function}
use Rattle.terms.specs.Choice.{Choice, vers_of, place, counting, fmid_of, sup_of, del_of}
use Rattle.terms.specs.Choice.{ifs_of}
use Rattle.sysmods.specs.declared.ver_choice.VerChoice.{VerChoice}
use Rattle.sysmods.specs.Choices.{number_in, choice}
use Rattle.terms.specs.Over.{IsOver, Reaches, Supersedes, names}
use Rattle.terms.specs.Global.{IsGlobal, named, names_for, HasLoop, is_service, named_functions, fits_roles, RolesFit}
use Rattle.terms.proofs.Leads.{reaches_more, last_step}
use Rattle.terms.proofs.Loops.{sup_named}

-- The ++VERs that count are among those for one SREL.
abbrev pub AreFor : Global → Text → Choice → Type 0
AreFor g srel c = (x : Id) (v : Ver) → c x ≡ Some v → Contains (vers_of g srel x) v

-- those that a value looks up are
pub looked_up : (vers : VerChoice) → AreFor vers.global.now vers.srel (choice vers)
looked_up vers x v found = contains_at (vers_of vers.global.now vers.srel x) (number_in vers x - 1) v found

-- and those that count in a zone
pub counting_for : (g : Global) (zone : Zone) (cands : List Id) → AreFor g zone.srel (counting g zone cands)
counting_for g zone cands x v found = contains_at (vers_of g zone.srel x) (place g zone cands x) v found

module _ (g : Global) (srel : Text) (c : Choice) (are : AreFor g srel c) where
  -- the ++VER that counts is one of a received SYSMOD
  record Chosen (x : Id) (v : Ver) : Type 0 where
    sysmod : Sysmod
    received : sysmod_of g x ≡ Some sysmod
    among : Contains (filter (λ v. bytes_eq v.srel srel) sysmod.vers) v

  chosen : (x : Id) (v : Ver) → c x ≡ Some v → Chosen x v
  chosen x v at = by (sysmod_of g x) refl (are x v at)
    where
      by : (o : Option Sysmod) → sysmod_of g x ≡ o
          → Contains (option_map_or (λ s. filter (λ v. bytes_eq v.srel srel) s.vers) o []) v → Chosen x v
      by None at among = absurd (none_in v among)
      by (Some s) at among = record { sysmod = s; received = at; among = among }

  -- what names anything has a ++VER that does
  named_by : {X : Type 0} (list : Ver → List X) (x : Id) (z : X) → Contains (option_map_or list (c x) []) z
      → (v : Ver) × Chosen x v × Contains (list v) z
  named_by {X} list x z = by (c x) refl
    where
      by : (o : Option Ver) → c x ≡ o → Contains (option_map_or list o []) z
          → (v : Ver) × Chosen x v × Contains (list v) z
      by None at is = absurd (none_in z is)
      by (Some v) at is = (v, chosen x v at, is)

  fmid_by : (x f : Id) → fmid_of c x ≡ Some f → (v : Ver) × Chosen x v × (v.fmid ≡ Some f)
  fmid_by x f = by (c x) refl
    where
      by : (o : Option Ver) → c x ≡ o → option_and_then (λ v. v.fmid) o ≡ Some f
          → (v : Ver) × Chosen x v × (v.fmid ≡ Some f)
      by None at is = absurd (cc is)
      by (Some v) at is = (v, chosen x v at, is)

  -- What names anything is received, and names it for the SREL.
  names_by : (x z : Id) → Contains (names c x) z → (v : Ver) × Chosen x v × Contains (named v) z
  names_by x z = by (c x) refl
    where
      by : (o : Option Ver) → c x ≡ o
          → Contains (option_map_or (λ v. v.pre) o [] ++ option_map_or (λ v. v.sup) o []
          ++ at_most_one (option_and_then (λ v. v.fmid) o)) z
          → (v : Ver) × Chosen x v × Contains (named v) z
      by None at is = absurd (none_in z is)
      by (Some v) at is = (v, chosen x v at, is)

  pub names_received : (x z : Id) → Contains (names c x) z → Contains (map (λ s. s.id) g.sysmods) x
  names_received x z is =
      let from = (names_by x z is).1 in
      let gives = find_gives (λ s. bytes_eq s.id x) g.sysmods from.sysmod from.received in
      subst (Contains (map (λ s. s.id) g.sysmods)) (same_from from.sysmod.id x gives.0)
      (in_map (λ s. s.id) g.sysmods from.sysmod gives.1)

  names_among : (x z : Id) → Contains (names c x) z → Contains (names_for g srel x) z
  names_among x z is =
      let v = (names_by x z is).0 in
      let from = (names_by x z is).1 in
      subst (λ o. Contains (flat_map named (option_map_or (λ s. filter (λ v. bytes_eq v.srel srel) s.vers) o [])) z)
      (sym from.received)
      (in_flat named (filter (λ v. bytes_eq v.srel srel) from.sysmod.vers) v z from.among (names_by x z is).2)

  pub names_no_loop : ¬ HasLoop g → (x : Id) → ¬ Reaches (names c) x x
  names_no_loop none x loop =
      none (srel, x, reaches_more (names c) (names_for g srel) names_among x x loop)

  -- so none supersedes itself
  pub never_itself : ¬ HasLoop g → (x : Id) → ¬ Supersedes c x x
  never_itself none x loop =
      names_no_loop none x (reaches_more (sup_of c) (names c) (λ y z h. sup_named c y z h) x x loop)

  -- Roles fit.
  module _ (roles : RolesFit g) where
    chosen_fits : (x : Id) (v : Ver) → Chosen x v
        → (list_any (is_function g) v.sup ≡ false) × (list_any (is_service g) (named_functions v) ≡ false)
    chosen_fits x v from =
        let each = All_find (λ s. All (λ v. IsTrue (fits_roles g v)) s.vers) (λ s. bytes_eq s.id x) g.sysmods
        from.sysmod roles from.received in
        let fits = All-contains (λ v. IsTrue (fits_roles g v)) from.sysmod.vers v each
        (filter_in (λ v. bytes_eq v.srel srel) from.sysmod.vers v from.among).0 in
        neither (list_any (is_function g) v.sup) (list_any (is_service g) (named_functions v)) fits

    -- What a ++VER names as a function is one, if it is received.
    function_named : (x f : Id) (v : Ver) → Chosen x v → Contains (named_functions v) f → IsTrue (is_received g f)
        → IsTrue (is_function g f)
    function_named x f v from names received = by (is_function g f) (sym (ap (λ b. b && not (is_function g f)) received)
        ∙ none_passes (is_service g) (named_functions v) f (chosen_fits x v from).1 names)
      where
        by : (b : Bool) → not b ≡ false → b ≡ true
        by true is = refl
        by false is = absurd (true≢false is)

    -- So are a received FMID, what DELETE names, and the functions of ++IFs.
    pub fmid_function : (x f : Id) → fmid_of c x ≡ Some f → IsTrue (is_received g f)
        → IsTrue (is_function g f)
    fmid_function x f at received =
        let by = fmid_by x f at in
        function_named x f by.0 by.1
        (Contains-append_left (by.0.del ++ at_most_one by.0.fmid) (map (λ i. i.function) by.0.ifs) f
        (Contains-append_right by.0.del (at_most_one by.0.fmid) f
        (subst (λ o. Contains (at_most_one o) f) (sym by.2) (here f [])))) received

    pub deleted_function : (x f : Id) → Contains (del_of c x) f → IsTrue (is_received g f) → IsTrue (is_function g f)
    deleted_function x f deletes received =
        let by = named_by (λ v. v.del) x f deletes in
        function_named x f by.0 by.1
        (Contains-append_left (by.0.del ++ at_most_one by.0.fmid) (map (λ i. i.function) by.0.ifs) f
        (Contains-append_left by.0.del (at_most_one by.0.fmid) f by.2)) received

    pub if_function : (x : Id) (i : IfReq) → Contains (ifs_of c x) i → IsTrue (is_received g i.function)
        → IsTrue (is_function g i.function)
    if_function x i has received =
        let by = named_by (λ v. v.ifs) x i has in
        function_named x i.function by.0 by.1
        (Contains-append_right (by.0.del ++ at_most_one by.0.fmid) (map (λ i. i.function) by.0.ifs) i.function
        (in_map (λ (i : IfReq). i.function) by.0.ifs i by.2)) received

    -- nothing supersedes a received function
    pub function_first : (f : Id) → IsTrue (is_function g f) → (y : Id) → ¬ Supersedes c y f
    function_first f function y over = elim (last_step (sup_of c) y f over) [
      | inl direct ↦ named_never y direct
      | inr last ↦ named_never last.0 last.2
    ]
      where
        named_never : (z : Id) → Contains (sup_of c z) f → ⊥
        named_never z names =
            let by = named_by (λ v. v.sup) z f names in
            true≢false (sym function ∙ none_passes (is_function g) by.0.sup f (chosen_fits z by.0 by.1).0 by.2)

-- nothing is over itself by those that a value looks up
pub not_over_itself : (vers : VerChoice) → IsGlobal vers.global.now → (x : Id) → ¬ IsOver (choice vers) x x
not_over_itself vers is = names_no_loop vers.global.now vers.srel (choice vers) (looked_up vers) is.no_loop
