-- Where each SYSMOD has one ++VER for an SREL at most.
use Rattle.std.proofs.Common.{◌≡◌, ◌≤◌, ◌-◌, Bool, true, false, List, [], ◌∷◌, length, filter, All, get_or}
use Rattle.std.proofs.Common.{refl, sym, ap, ◌∙◌}
use Rattle.std.proofs.Common.{Option, None, Some, arith, true≢false}
use Rattle.std.specs.Prelude.{position, unwrap_or}
use Rattle.std.specs.Option.{option_map_or}
use Rattle.std.specs.Ordering.{is_lt, nat_cmp}
use Rattle.std.specs.Cmp.Lexicographic.{slice_cmp}
use Rattle.std.specs.Str.{bytes_eq}
use Rattle.std.proofs.lemmas.Bool.{false_from_ne_true}
use Rattle.std.proofs.lemmas.List.Elements.{All-contains}
use Rattle.std.proofs.lemmas.Cmp.{nat_list_cmp_total, tied_itself}
use Rattle.terms.proofs.Pairs.{AllPairs_first, AllPairs_rest}
use Rattle.terms.proofs.Searches.{filter_none, find_gives}
use Rattle.terms.proofs.TextOrder.{same_from}
use Rattle.terms.specs.Types.{Text, Id, Ver, Sysmod, Global, Zone, Applied}
use Rattle.terms.specs.Rising.{Rises}
use Rattle.terms.specs.Lookups.{is_in, sysmod_of, applied_of}
use Rattle.terms.specs.Choice.{vers_of, fits, place}
use Rattle.terms.proofs.Searches.{first_of_one}

-- behind a ++VER for the SREL there is no other one
none_behind : (srel : Text) (v : Ver) (vs : List Ver) → bytes_eq v.srel srel ≡ true
    → All (λ w. is_lt (slice_cmp nat_cmp v.srel w.srel) ≡ true) vs → All (λ w. bytes_eq w.srel srel ≡ false) vs
none_behind srel v vs here rising = λ i d below.
    let w = get_or vs i d in
    false_from_ne_true (bytes_eq w.srel srel) (λ there.
    let same : v.srel ≡ w.srel = same_from v.srel srel here ∙ sym (same_from w.srel srel there) in
    true≢false (sym (rising i d below)
    ∙ ap (λ t. is_lt (slice_cmp nat_cmp v.srel t)) (sym same)
    ∙ ap is_lt (tied_itself nat_list_cmp_total v.srel)))

pub one_of : (srel : Text) (vs : List Ver) → Rises (slice_cmp nat_cmp) (λ v. v.srel) vs
    → length (filter (λ v. bytes_eq v.srel srel) vs) ≤ 1
one_of srel [] rises = omega arith
one_of srel (v ∷ vs) rises = by (one_of srel vs (AllPairs_rest R v vs rises)) (bytes_eq v.srel srel) refl
  where
    R : Ver → Ver → Type 0
    R a b = is_lt (slice_cmp nat_cmp a.srel b.srel) ≡ true

    by : length (filter (λ v. bytes_eq v.srel srel) vs) ≤ 1 → (b : Bool) → bytes_eq v.srel srel ≡ b
        → length (filter (λ v. bytes_eq v.srel srel) (v ∷ vs)) ≤ 1
    by rest true e =
        let none : filter (λ v. bytes_eq v.srel srel) vs ≡ [] =
        filter_none (λ v. bytes_eq v.srel srel) vs (none_behind srel v vs e (AllPairs_first R v vs rises)) in
        rw (e, none) (omega arith)
    by rest false e = rw e rest

-- the ++VERs of each received SYSMOD rise by SREL, none twice
abbrev pub HasSingleVers : Global → Type 0
HasSingleVers g = All (λ s. Rises (slice_cmp nat_cmp) (λ v. v.srel) s.vers) g.sysmods

pub one_ver : (g : Global) (srel : Text) (x : Id) → HasSingleVers g → length (vers_of g srel x) ≤ 1
one_ver g srel x single = by (sysmod_of g x) refl
  where
    by : (o : Option Sysmod) → sysmod_of g x ≡ o
        → length (option_map_or (λ s. filter (λ v. bytes_eq v.srel srel) s.vers) o []) ≤ 1
    by None e = omega arith
    by (Some s) e =
        let there = (find_gives (λ s. bytes_eq s.id x) g.sysmods s e).1 in
        one_of srel s.vers (All-contains (λ s. Rises (slice_cmp nat_cmp) (λ v. v.srel) s.vers) g.sysmods s single there)

-- and of what is not applied the first counts
pub first_place : (g : Global) (zone : Zone) (cands : List Id) (x : Id) → HasSingleVers g → applied_of zone x ≡ None
    → place g zone cands x ≡ 0
first_place g zone cands x single off =
    ap (λ o. option_map_or (λ (a : Applied). a.number - 1) o
    (unwrap_or (position (fits zone (is_in cands)) (vers_of g zone.srel x)) 0)) off
    ∙ first_of_one (fits zone (is_in cands)) (vers_of g zone.srel x) (one_ver g zone.srel x single)
