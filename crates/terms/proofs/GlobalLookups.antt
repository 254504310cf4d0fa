-- What is found in the global zone after a change of it.
use Rattle.std.proofs.Common.{◌≡◌, Bool, true, false, not, [], ◌∷◌, ◌++◌, filter, find, cond, refl, sym, ap, ◌∙◌, None}
use Rattle.std.proofs.Common.{Some, true≢false, if◌then◌else◌}
use Rattle.std.specs.declared.cmp.Ordering.{Ordering}
use Rattle.std.specs.declared.cmp.Ordering.TheVariants.{Less, Equal, Greater}
use Rattle.std.specs.Ordering.{is_lt, is_eq, nat_cmp, ordering_reverse}
use Rattle.std.specs.Cmp.Lexicographic.{slice_cmp}
use Rattle.std.specs.Option.{option_map, option_or}
use Rattle.std.specs.Str.{bytes_eq}
use Rattle.std.proofs.lemmas.Map.Text.{is_eq-slice_cmp}
use Rattle.std.proofs.lemmas.Cmp.{nat_list_cmp_total, tied_itself}
use Rattle.std.proofs.lemmas.List.Folds.{find-append}
use Rattle.terms.proofs.TextOrder.{same_from, same_back}
use Rattle.terms.proofs.Options.{option_or-none}
use Rattle.terms.proofs.Searches.{find_filter_all, find_filter_none, find_map}
use Rattle.terms.specs.Types.{Text, Id, Sysmod, Global}
use Rattle.terms.specs.Lookups.{sysmod_of}
use Rattle.terms.specs.Global.{with_sysmod, without_sysmod, assign, with_source}
use Rattle.std.proofs.Common.{Option, IsTrue, Contains, map, subst}
use Rattle.std.specs.Option.{option_map_or}
use Rattle.std.proofs.lemmas.Bool.{and_parts}
use Rattle.terms.proofs.ListMembers.{in_map}
use Rattle.terms.proofs.Searches.{find_gives}
use Rattle.terms.specs.Types.{Zone}
use Rattle.terms.specs.Lookups.{is_nil}
use Rattle.terms.specs.Choice.{vers_of}
use Rattle.terms.specs.Candidates.{is_installable}

cmp_itself : (x : Id) → slice_cmp nat_cmp x x ≡ Equal
cmp_itself x = tied_itself nat_list_cmp_total x

apart : (x y : Id) → bytes_eq x y ≡ false → slice_cmp nat_cmp x y ≡ Equal → ⊥
apart x y other e = true≢false (sym (ap is_eq e) ∙ is_eq-slice_cmp x y ∙ other)

-- among the SYSMODs with one more
pub sysmod_of_with_sysmod : (g : Global) (s : Sysmod) (y : Id)
    → sysmod_of (with_sysmod g s) y ≡ cond (bytes_eq s.id y) (Some (record s { holds = [] })) (sysmod_of g y)
sysmod_of_with_sysmod g s y = parts ∙ by (bytes_eq s.id y) (slice_cmp nat_cmp y s.id) refl refl
  where
    p : Sysmod → Bool
    p r = bytes_eq r.id y

    now : Sysmod
    now = record s { holds = [] }

    ahead : Sysmod → Bool
    ahead r = is_lt (slice_cmp nat_cmp r.id s.id)

    behind : Sysmod → Bool
    behind r = is_lt (slice_cmp nat_cmp s.id r.id)

    parts : sysmod_of (with_sysmod g s) y ≡ option_or (option_or (find p (filter ahead g.sysmods))
        (cond (bytes_eq s.id y) (Some now) None)) (find p (filter behind g.sysmods))
    parts =
        find-append p (filter ahead g.sysmods ++ now ∷ []) (filter behind g.sysmods)
        ∙ ap (λ o. option_or o (find p (filter behind g.sysmods))) (find-append p (filter ahead g.sysmods) (now ∷ []))

    -- what is found at y is before and behind s as y is
    ahead_is : (c : Ordering) → slice_cmp nat_cmp y s.id ≡ c → (r : Sysmod) → p r ≡ true → ahead r ≡ is_lt c
    ahead_is c f r here = ap (λ x. is_lt (slice_cmp nat_cmp x s.id)) (same_from r.id y here) ∙ ap is_lt f

    behind_is : (c : Ordering) → slice_cmp nat_cmp y s.id ≡ c → (r : Sysmod) → p r ≡ true
        → behind r ≡ is_lt (ordering_reverse c)
    behind_is c f r here =
        ap (λ x. is_lt (slice_cmp nat_cmp s.id x)) (same_from r.id y here)
        ∙ ap is_lt (nat_list_cmp_total.antisymm s.id y ∙ ap ordering_reverse f)

    by : (b : Bool) (c : Ordering) → bytes_eq s.id y ≡ b → slice_cmp nat_cmp y s.id ≡ c
        → option_or (option_or (find p (filter ahead g.sysmods)) (cond (bytes_eq s.id y) (Some now) None))
        (find p (filter behind g.sysmods))
        ≡ cond (bytes_eq s.id y) (Some now) (sysmod_of g y)
    by true c e f =
        let same : slice_cmp nat_cmp y s.id ≡ Equal = ap (λ x. slice_cmp nat_cmp y x) (same_from s.id y e)
        ∙ cmp_itself y in
        rw (find_filter_none p ahead (ahead_is Equal same) g.sysmods, e) refl
    by false Less e f =
        rw (
          find_filter_all p ahead (ahead_is Less f) g.sysmods,
          find_filter_none p behind (behind_is Less f) g.sysmods,
          e,
        )
        (option_or-none (option_or (sysmod_of g y) None) ∙ option_or-none (sysmod_of g y))
    by false Equal e f = absurd (apart s.id y e (nat_list_cmp_total.antisymm s.id y ∙ ap ordering_reverse f))
    by false Greater e f =
        rw (
          find_filter_none p ahead (ahead_is Greater f) g.sysmods,
          find_filter_all p behind (behind_is Greater f) g.sysmods,
          e,
        ) refl

-- among the SYSMODs without one
pub sysmod_of_without_sysmod : (g : Global) (x y : Id) → sysmod_of (without_sysmod g x) y ≡ cond (bytes_eq x y) None
    (sysmod_of g y)
sysmod_of_without_sysmod g x y = by (bytes_eq x y) refl
  where
    p : Sysmod → Bool
    p r = bytes_eq r.id y

    q : Sysmod → Bool
    q r = not (bytes_eq r.id x)

    q_is : (b : Bool) → bytes_eq x y ≡ b → (r : Sysmod) → p r ≡ true → q r ≡ not b
    q_is b e r here = ap (λ z. not (bytes_eq z x)) (same_from r.id y here) ∙ ap not (same_back y x ∙ e)

    by : (b : Bool) → bytes_eq x y ≡ b → find p (filter q g.sysmods) ≡ cond (bytes_eq x y) None (sysmod_of g y)
    by true e = rw e (find_filter_none p q (q_is true e) g.sysmods)
    by false e = rw e (find_filter_all p q (q_is false e) g.sysmods)

-- what ++ASSIGN does to one SYSMOD
abbrev pub assigned : Text → Id → Sysmod → Sysmod
assigned source x s = if bytes_eq s.id x then with_source source s else s

-- a source is seen nowhere else
pub assigned_same : {Y : Type 0} (f : Sysmod → Y) (source : Text) (x : Id)
    → ((s : Sysmod) → f (with_source source s) ≡ f s) → (s : Sysmod) → f (assigned source x s) ≡ f s
assigned_same f source x same s = by (bytes_eq s.id x) refl
  where
    by : (b : Bool) → bytes_eq s.id x ≡ b → f (assigned source x s) ≡ f s
    by true e = rw e (same s)
    by false e = rw e refl

pub sysmod_of_assign : (g : Global) (source : Text) (x y : Id)
    → sysmod_of (assign g source x) y ≡ option_map (assigned source x) (sysmod_of g y)
sysmod_of_assign g source x y =
    find_map (λ s. bytes_eq s.id y) (assigned source x) (assigned_same (λ s. bytes_eq s.id y) source x (λ s. refl))
    g.sysmods

-- what has a ++VER is received, and so what is installable
pub ver_received : (g : Global) (srel : Text) (x : Id) → IsTrue (not (is_nil (vers_of g srel x)))
    → Contains (map (λ s. s.id) g.sysmods) x
ver_received g srel x some = by (sysmod_of g x) refl
  where
    by : (s : Option Sysmod) → sysmod_of g x ≡ s → Contains (map (λ s. s.id) g.sysmods) x
    by None at = absurd (true≢false (sym some ∙ ap (λ s.
        not (is_nil (option_map_or (λ s. filter (λ v. bytes_eq v.srel srel) s.vers) s []))) at))
    by (Some s) at =
        let found = find_gives (λ s. bytes_eq s.id x) g.sysmods s at in
        subst (Contains (map (λ s. s.id) g.sysmods)) (same_from s.id x found.0)
        (in_map (λ s. s.id) g.sysmods s found.1)

pub installable_received : (g : Global) (zone : Zone) (x : Id) → IsTrue (is_installable g zone x)
    → Contains (map (λ s. s.id) g.sysmods) x
installable_received g zone x ok = ver_received g zone.srel x (and_parts _ _ (and_parts _ _ ok).0).0
