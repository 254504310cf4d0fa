-- A zone stays closed under another global zone that has what is applied as it was, but for its sources, and under
-- another choice by which the same counts for what is applied.
use Rattle.std.proofs.Common.{◌≡◌, ℕ, zero, suc, ◌+◌, true, false, List, [], ◌∷◌, length, Option, None, Some, All}
use Rattle.std.proofs.Common.{Contains, IsTrue, IsFalse, IsSome, IsNone, IfSome, is_some, filter, find, get_or}
use Rattle.std.proofs.Common.{unwrap_or, refl, sym, ◌∙◌, ap, subst, add-one}
use Rattle.std.specs.Prelude.{option_map, ◌&&◌, ◌==◌, ◌-◌, not, position, slice_get, if◌then◌else◌}
use Rattle.std.specs.Option.{option_map_or, option_and_then}
use Rattle.std.specs.Str.{bytes_eq}
use Rattle.std.proofs.lemmas.List.Elements.{All-nil, All-cons, All-head, All-contains, All-contains_itself}
use Rattle.terms.proofs.ListMembers.{here, there}
use Rattle.terms.proofs.Options.{is_some_map, map_or_map}
use Rattle.terms.specs.Types.{Id, Ver, Change, Sysmod, Global, Element, Zone, type_number, is_function_kind}
use Rattle.terms.specs.Lookups.{is_applied, is_supplied, applied_ids, sysmod_of, is_received, is_function, changes_of}
use Rattle.terms.specs.Lookups.{is_in, applied_of, delby_of}
use Rattle.terms.specs.Choice.{Choice, fits, counting, fmid_of}
use Rattle.terms.specs.Over.{chain_from}
use Rattle.terms.specs.Changes.{is_replacement}
use Rattle.terms.specs.Needs.{binding_ids}
use Rattle.terms.specs.Closed.{IsSupported, IsAtPeace, IsOwned, IsClosedZone}
use Rattle.terms.proofs.Applied.{in_applied_ids}

abbrev pub but_sources : Sysmod → Sysmod
but_sources s = record s { sources = [] }

-- The SYSMOD of this id is the same in both, but for its sources.
abbrev pub AreAlike : Global → Global → Id → Type 0
AreAlike g h x = option_map but_sources (sysmod_of h x) ≡ option_map but_sources (sysmod_of g x)

-- what does not see the sources
seen : {Y : Type 0} (f : Sysmod → Y) (d : Y) → ((s : Sysmod) → f (but_sources s) ≡ f s) → (g h : Global) (x : Id)
    → AreAlike g h x → option_map_or f (sysmod_of h x) d ≡ option_map_or f (sysmod_of g x) d
seen f d blind g h x alike =
    sym (map_or_map f but_sources d blind (sysmod_of h x))
    ∙ ap (λ o. option_map_or f o d) alike
    ∙ map_or_map f but_sources d blind (sysmod_of g x)

pub alike_received : (g h : Global) (x : Id) → AreAlike g h x → is_received h x ≡ is_received g x
alike_received g h x alike =
    sym (is_some_map but_sources (sysmod_of h x)) ∙ ap is_some alike ∙ is_some_map but_sources (sysmod_of g x)

alike_function : (g h : Global) (x : Id) → AreAlike g h x → is_function h x ≡ is_function g x
alike_function = seen (λ s. is_function_kind s.kind) false (λ s. refl)

alike_changes : (g h : Global) (x : Id) → AreAlike g h x → changes_of h x ≡ changes_of g x
alike_changes = seen (λ s. s.changes) [] (λ s. refl)

-- the place of the one that counts, among these
abbrev place_in : Zone → List Id → Id → List Ver → ℕ
place_in zone cands x vs =
    option_map_or (λ a. a.number - 1) (applied_of zone x) (unwrap_or (position (fits zone (is_in cands)) vs) 0)

pub alike_choice : (g h : Global) (zone : Zone) (x : Id) → AreAlike g h x → counting h zone [] x ≡ counting g zone [] x
alike_choice g h zone x alike = ap (λ vs. slice_get vs (place_in zone [] x vs))
    (seen (λ s. filter (λ v. bytes_eq v.srel zone.srel) s.vers) [] (λ s. refl) g h x alike)

-- a SYSMOD whose ++VER counts is received
pub chosen_received : (g : Global) (zone : Zone) (cands : List Id) (x : Id) → IsSome (counting g zone cands x)
    → IsTrue (is_received g x)
chosen_received g zone cands x some = by (sysmod_of g x) refl
  where
    by : (o : Option Sysmod) → sysmod_of g x ≡ o → is_some o ≡ true
    by None at = sym (ap (λ o. is_some (slice_get (among o) (place_in zone cands x (among o)))) at) ∙ some
      where
        among : Option Sysmod → List Ver
        among o = option_map_or (λ s. filter (λ v. bytes_eq v.srel zone.srel) s.vers) o []
    by (Some s) at = refl

module _ (g h : Global) (was now : Choice) (zone : Zone) (closed : IsClosedZone g was zone)
    (alike : (x : Id) → Contains (applied_ids zone) x → AreAlike g h x)
    (same : (x : Id) → Contains (applied_ids zone) x → was x ≡ now x) where
  still_supported : (x : Id) → Contains (applied_ids zone) x → IsSupported now zone x
  still_supported x there =
      let s = All-contains (IsSupported was zone) (applied_ids zone) x closed.supported there in
      let at = same x there in
      record {
        received = subst IsSome at s.received;
        fmid = subst (λ o. IfSome (option_and_then (λ (v : Ver). v.fmid) o) (λ f. IsTrue (is_applied zone f))) at
            s.fmid;
        requisites = subst (λ o. All (λ z. IsTrue (is_supplied zone z)) (binding_ids (λ y. o) zone (is_applied zone) x))
            at s.requisites;
      }

  -- What is applied has no DELBY, and its FMID is applied, to the end of the chain.
  no_delby : (x : Id) → Contains (applied_ids zone) x → IsNone (delby_of zone x)
  no_delby x there =
      let peace = All-contains (IsAtPeace g was zone) (applied_ids zone) x closed.at_peace there in
      first (length g.sysmods) peace.chain
    where
      first : (n : ℕ) → All (λ y. IsNone (delby_of zone y)) (chain_from (n + 1) was (Some x)) → IsNone (delby_of zone x)
      first n all = All-head (λ y. IsNone (delby_of zone y)) x (chain_from n was (fmid_of was x))
          (subst (λ m. All (λ y. IsNone (delby_of zone y)) (chain_from m was (Some x))) (add-one n) all)

  chain_free : (n : ℕ) (x : Id) → Contains (applied_ids zone) x
      → All (λ y. IsNone (delby_of zone y)) (chain_from n now (Some x))
  chain_free zero x there = All-nil (λ y. IsNone (delby_of zone y))
  chain_free (suc n) x there =
      All-cons (λ y. IsNone (delby_of zone y)) x (chain_from n now (fmid_of now x)) (no_delby x there)
      (by (fmid_of now x) (still_supported x there).fmid (chain_free n))
    where
      by : (o : Option Id) → IfSome o (λ f. IsTrue (is_applied zone f))
          → ((y : Id) → Contains (applied_ids zone) y → All (λ y. IsNone (delby_of zone y)) (chain_from n now (Some y)))
          → All (λ y. IsNone (delby_of zone y)) (chain_from n now o)
      by None on again = none n
        where
          none : (n : ℕ) → All (λ y. IsNone (delby_of zone y)) (chain_from n now None)
          none zero = All-nil (λ y. IsNone (delby_of zone y))
          none (suc n) = All-nil (λ y. IsNone (delby_of zone y))
      by (Some f) on again = again f (in_applied_ids zone f on)

  still_at_peace : (x : Id) → Contains (applied_ids zone) x → IsAtPeace h now zone x
  still_at_peace x there =
      let peace = All-contains (IsAtPeace g was zone) (applied_ids zone) x closed.at_peace there in
      record {
        npre = λ function. subst
            (λ o. All (λ y. IsFalse (is_applied zone y)) (option_map_or (λ (v : Ver). v.npre) o []))
            (same x there) (peace.npre (sym (alike_function g h x (alike x there)) ∙ function));
        chain = chain_free (length h.sysmods + 1) x there;
      }

  still_owned : (e : Element) → IsOwned g was zone e → IsOwned h now zone e
  still_owned e o =
      let ids = e.fmid ∷ e.rmid ∷ e.umids in
      let on : (x : Id) → Contains ids x → Contains (applied_ids zone) x =
      λ x there. in_applied_ids zone x (All-contains (λ x. IsTrue (is_applied zone x)) ids x o.applied there) in
      let changes : (x : Id) → Contains ids x → changes_of g x ≡ changes_of h x =
      λ x there. sym (alike_changes g h x (alike x (on x there))) in
      let found : List Change → Option Change =
      λ hs. find (λ (c : Change). (type_number c.elem_type == type_number e.elem_type) && bytes_eq c.name e.name) hs in
      record {
        applied = o.applied;
        rmid = subst (λ hs. IsTrue (option_map_or (λ (c : Change). is_replacement c.action) (found hs) false))
            (changes e.rmid (there e.fmid (e.rmid ∷ e.umids) e.rmid (here e.rmid e.umids))) o.rmid;
        umids = λ k d below.
            let x = get_or e.umids k d in
            let within = there e.fmid (e.rmid ∷ e.umids) x (there e.rmid e.umids x
            (All-contains_itself e.umids k d below)) in
            subst (λ hs. IsTrue (option_map_or (λ (c : Change). not (is_replacement c.action)) (found hs) false))
            (changes x within) (o.umids k d below);
        owner = λ k d below.
            let x = get_or ids k d in
            let within = on x (All-contains_itself ids k d below) in
            subst (λ b. (if b then x else unwrap_or (fmid_of now x) x) ≡ e.fmid)
            (sym (alike_function g h x (alike x within)))
            (subst
            (λ v. (if is_function g x then x else unwrap_or (option_and_then (λ (v : Ver). v.fmid) v) x) ≡ e.fmid)
            (same x within) (o.owner k d below));
        text = o.text;
      }

  pub closed_alike : IsClosedZone h now zone
  closed_alike = record {
    supported = λ k d below. still_supported (get_or (applied_ids zone) k d)
        (All-contains_itself (applied_ids zone) k d below);
    at_peace = λ k d below. still_at_peace (get_or (applied_ids zone) k d)
        (All-contains_itself (applied_ids zone) k d below);
    supby = closed.supby;
    elements = λ k d below. still_owned (get_or zone.elements k d) (closed.elements k d below);
  }

-- under the ++VERs that count in the zone
pub still_closed : (g h : Global) (zone : Zone) → IsClosedZone g (counting g zone []) zone
    → ((x : Id) → Contains (applied_ids zone) x → AreAlike g h x) → IsClosedZone h (counting h zone []) zone
still_closed g h zone closed alike =
    closed_alike g h (counting g zone []) (counting h zone []) zone closed alike
    (λ x there. sym (alike_choice g h zone x (alike x there)))

-- under one global zone, by another choice
pub closed_by : (g : Global) (was now : Choice) (zone : Zone) → IsClosedZone g was zone
    → ((x : Id) → Contains (applied_ids zone) x → was x ≡ now x) → IsClosedZone g now zone
closed_by g was now zone closed same = closed_alike g g was now zone closed (λ x there. refl) same

-- A zone whose applied SYSMODs are received, as they are where it is closed.
pub applied_received : (g : Global) (zone : Zone) (cands : List Id) → IsClosedZone g (counting g zone cands) zone
    → (x : Id) → Contains (applied_ids zone) x → IsTrue (is_received g x)
applied_received g zone cands closed x there =
    chosen_received g zone cands x
    (All-contains (IsSupported (counting g zone cands) zone) (applied_ids zone) x closed.supported there).received
