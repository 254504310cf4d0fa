-- What the steps reach is GROUP's list.
use Rattle.std.proofs.Common.{◌≡◌, inl, inr, Bool, not, List, [], ◌∷◌, ◌++◌, map, filter}
use Rattle.std.proofs.Common.{sym, ap, ap₂, subst, Contains, IsTrue, true≢false}
use Rattle.std.specs.Prelude.{◌↔◌, ◌&&◌, IsFalse}
use Rattle.std.specs.List.{flat_map, list_any, list_all}
use Rattle.std.proofs.lemmas.Bool.{and_parts, and_from, not-true}
use Rattle.std.proofs.lemmas.List.Elements.{Contains-append_left, Contains-append_right, Contains-append_cases}
use Rattle.std.proofs.lemmas.List.Folds.{Any-from_list_any, list_any-from_Any}
use Rattle.terms.proofs.ListMembers.{here, here_or, none_in, in_map, map_in, in_filter, filter_in, in_flat, flat_in}
use Rattle.terms.proofs.Searches.{all_pass, passes_all}
use Rattle.terms.proofs.TextOrder.{same_or_not}
use Rattle.terms.specs.declared.codes.NeedKind.{NeedKind}
use Rattle.terms.specs.declared.codes.NeedKind.TheVariants.{Elem, Dep}
use Rattle.terms.specs.Types.{Id, Change, RestoreGroup}
use Rattle.terms.specs.Lookups.{IsZone, is_applied, is_supplied, applied_ids, changes_of, has_change}
use Rattle.terms.specs.Restore.{Restoring, NeedsDep, NeedsElem, NeedsInRestore}
use Rattle.terms.specs.Restore.{IsClosedList, IsListed}
use Rattle.terms.proofs.Ids.{is_in_from_Contains, Contains_from_is_in}
use Rattle.terms.proofs.Applied.{applied_are}
use Rattle.terms.proofs.ChangedElements.{change_found, change_has}
use Rattle.undo.specs.declared.nodes.Node.{Node}
use Rattle.undo.specs.declared.nodes.Node.TheVariants.{Sysmod, Element}
use Rattle.undo.specs.Dependences.{dependences_of}
use Rattle.undo.specs.Scopes.{unaccepted}
use Rattle.undo.specs.Steps.{Step, AreClosed, IsReached, all_steps, is_start, element_at}
use Rattle.undo.specs.Steps.{to_element, from_element, from_all, to_elements, from_elements, from_groups}
use Rattle.undo.specs.ByNumbers.{AreReached}
use Rattle.undo.proofs.Needing.{depends_from, depends_to, member_applied, within}

-- what one step asks of a set
abbrev Follows : (Node → Bool) → Step → Type 0
Follows set s = ((m : Node) → Contains s.these m → IsTrue (set m)) → IsTrue (set s.that)

-- all of a list of one
of_one : (set : Node → Bool) (n : Node) → IsTrue (set n) → (m : Node) → Contains (n ∷ []) m → IsTrue (set m)
of_one set n on m h = elim (here_or n [] m h) [
  | inl same ↦ subst (λ v. IsTrue (set v)) same on
  | inr later ↦ absurd (none_in m later)
]

abbrev all_of : Id → List Id → Step
all_of y ids = record { these = map Sysmod ids; that = Sysmod y }

step_in : (y : Id) (ids : List Id) (x : Id) → Contains ids x → Contains (from_all y ids) (all_of y ids)
step_in y [] x h = absurd (none_in x h)
step_in y (i ∷ ids) x h = here (all_of y (i ∷ ids)) []

step_from : (y : Id) (ids : List Id) (s : Step) → Contains (from_all y ids) s
    → (p : Id) × Contains ids p × (all_of y ids ≡ s)
step_from y [] s h = absurd (none_in s h)
step_from y (i ∷ ids) s h = elim (here_or (all_of y (i ∷ ids)) [] s h) [
  | inl same ↦ (i, here i ids, same)
  | inr later ↦ absurd (none_in s later)
]

module _ (r : Restoring) (is_zone : IsZone r.zone) (ids : List Id) where
  abbrev firsts : List Step
  firsts = flat_map (to_elements r) (applied_ids r.zone)

  abbrev seconds : List Step
  seconds = flat_map (from_elements r) (unaccepted r)

  abbrev thirds : List Step
  thirds = flat_map (from_groups r) (applied_ids r.zone)

  first_in : (y : Id) (h : Change) → IsTrue (is_applied r.zone y) → Contains (changes_of r.global y) h
      → Contains (all_steps r) (to_element y h)
  first_in y h applied of =
      let s = to_element y h in
      Contains-append_left (firsts ++ seconds) thirds s
      (Contains-append_left firsts seconds s
      (in_flat (to_elements r) (applied_ids r.zone) y s ((applied_are r.zone is_zone y).1 applied)
      (in_map (to_element y) (changes_of r.global y) h of)))

  second_in : (y : Id) (h : Change) → IsTrue (is_applied r.zone y) → IsFalse (is_supplied r.accepted y)
      → Contains (changes_of r.global y) h → Contains (all_steps r) (from_element y h)
  second_in y h applied off of =
      let s = from_element y h in
      Contains-append_left (firsts ++ seconds) thirds s
      (Contains-append_right firsts seconds s
      (in_flat (from_elements r) (unaccepted r) y s
      (in_filter (λ v. not (is_supplied r.accepted v)) (applied_ids r.zone) y
      ((applied_are r.zone is_zone y).1 applied) (ap not off))
      (in_map (from_element y) (changes_of r.global y) h of)))

  third_in : (y x : Id) (group : List Id) → IsTrue (is_applied r.zone y) → Contains (dependences_of r y) group
      → Contains group x → Contains (all_steps r) (all_of y group)
  third_in y x group applied there own =
      let s = all_of y group in
      Contains-append_right (firsts ++ seconds) thirds s
      (in_flat (from_groups r) (applied_ids r.zone) y s ((applied_are r.zone is_zone y).1 applied)
      (in_flat (from_all y) (dependences_of r y) group s there (step_in y group x own)))

  -- ---- the SYSMODs of a closed set are a closed list

  module _ (set : Node → Bool) (closed : AreClosed ids (all_steps r) set) where
    abbrev listed : Id → Bool
    listed x = set (Sysmod x)

    by_elem : (x y : Id) → IsTrue (listed x) → IsTrue (is_applied r.zone x) → NeedsElem r x y → IsTrue (listed y)
    by_elem x y on applied n =
        let s = n.shared in
        let h = s.1 in
        let there = closed.grown (to_element x h) (first_in x h applied (s.0, s.2, s.3)) (of_one set (Sysmod x) on) in
        let found = change_found r.global y h.elem_type h.name s.4 in
        closed.grown (from_element y found.0) (second_in y found.0 n.applied n.not_accepted found.1)
        (of_one set (element_at found.0)
        (subst (λ v. IsTrue (set v)) (sym (ap₂ Element found.2 found.3)) there))

    by_dep : (x y : Id) → IsTrue (listed x) → IsTrue (is_applied r.zone x) → NeedsDep r listed x y → IsTrue (listed y)
    by_dep x y on applied n =
        let groups = dependences_of r y in
        let w = flat_in (λ group. group) (filter (list_all listed) groups) x
        (depends_to r is_zone listed x y applied on n.depends) in
        let kept = filter_in (list_all listed) groups w.0 w.1 in
        closed.grown (all_of y w.0) (third_in y x w.0 n.applied kept.0 w.2)
        (λ m h.
        let p = map_in Sysmod w.0 m h in
        subst (λ v. IsTrue (set v)) p.2 (passes_all listed w.0 p.0 kept.1 p.1))

    needed : (x y : Id) (kind : NeedKind) → IsTrue (listed x) → NeedsInRestore r listed x kind y → IsTrue (listed y)
    needed x y Elem on need = by_elem x y on need.0 need.1
    needed x y Dep on need = by_dep x y on need.0 need.1
    needed x y _ on need = absurd need

    list_closed : IsClosedList r ids listed
    list_closed = record {
      start = λ x h. closed.start (Sysmod x) (is_in_from_Contains ids x h);
      grown = needed;
    }

  -- ---- a closed list, with the elements that its applied SYSMODs change, is a closed set

  abbrev with_elements : (Id → Bool) → Node → Bool
  with_elements listed (Sysmod x) = listed x
  with_elements listed (Element type name) =
      list_any (λ x. listed x && has_change r.global x type name) (applied_ids r.zone)

  module _ (listed : Id → Bool) (closed : IsClosedList r ids listed) where
    abbrev set : Node → Bool
    set = with_elements listed

    started : (n : Node) → IsTrue (is_start ids n) → IsTrue (set n)
    started (Sysmod x) on = closed.start x (Contains_from_is_in ids x on)
    started (Element type name) on = absurd (true≢false (sym on))

    by_first : (y : Id) (h : Change) → IsTrue (is_applied r.zone y) → Contains (changes_of r.global y) h
        → Follows set (to_element y h)
    by_first y h applied of all =
        let among = (applied_are r.zone is_zone y).1 applied in
        list_any-from_Any (λ x. listed x && has_change r.global x h.elem_type h.name) (applied_ids r.zone) (
          among.0,
          y,
          among.1,
          among.2,
          and_from (listed y) (has_change r.global y h.elem_type h.name)
              (all (Sysmod y) (here (Sysmod y) [])) (change_has r.global y h of),
        )

    by_second : (y : Id) (h : Change) → IsTrue (is_applied r.zone y) → IsFalse (is_supplied r.accepted y)
        → Contains (changes_of r.global y) h → Follows set (from_element y h)
    by_second y h applied off of all =
        let a = Any-from_list_any (λ x. listed x && has_change r.global x h.elem_type h.name) (applied_ids r.zone)
        (all (element_at h) (here (element_at h) [])) in
        let x = a.1 in
        let parts = and_parts (listed x) (has_change r.global x h.elem_type h.name) a.4 in
        elim (same_or_not y x) [
          | inl same ↦ subst (λ v. IsTrue (listed v)) (sym same) parts.0
          | inr other ↦ (
              let found = change_found r.global x h.elem_type h.name parts.1 in
              let k = found.0 in
              let has = subst (λ v. IsTrue (has_change r.global y k.elem_type v)) (sym found.3)
              (subst (λ t. IsTrue (has_change r.global y t h.name)) (sym found.2) (change_has r.global y h of)) in
              closed.grown x y Elem parts.0 (
                (applied_are r.zone is_zone x).0 (a.0, a.2, a.3),
                record {
                  other = other;
                  applied = applied;
                  not_accepted = off;
                  shared = (found.1.0, k, found.1.1, found.1.2, has);
                },
              ))
        ]

    by_third : (y p : Id) (group : List Id) → IsTrue (is_applied r.zone y) → Contains (dependences_of r y) group
        → Contains group p → Follows set (all_of y group)
    by_third y p group applied there own all =
        let each : (q : Id) → Contains group q → IsTrue (listed q) =
        λ q h. all (Sysmod q) (in_map Sysmod group q h) in
        elim (same_or_not y p) [
          | inl same ↦ subst (λ v. IsTrue (listed v)) (sym same) (each p own)
          | inr other ↦ closed.grown p y Dep (each p own) (
            member_applied r is_zone listed p y group there own,
            record {
              other = other;
              applied = applied;
              depends = depends_from r is_zone listed p y
                  (within r is_zone listed p y group there (all_pass listed group each) own);
            },
          )
        ]

    followed : (s : Step) → Contains (all_steps r) s → Follows set s
    followed s h = elim (Contains-append_cases (firsts ++ seconds) thirds s h) [
      | inr three ↦ (
          let m = flat_in (from_groups r) (applied_ids r.zone) s three in
          let n = flat_in (from_all m.0) (dependences_of r m.0) s m.2 in
          let p = step_from m.0 n.0 s n.2 in
          subst (Follows set) p.2
          (by_third m.0 p.0 n.0 ((applied_are r.zone is_zone m.0).0 m.1) n.1 p.1))
      | inl front ↦ elim (Contains-append_cases firsts seconds s front) [
        | inl one ↦ (
            let m = flat_in (to_elements r) (applied_ids r.zone) s one in
            let v = map_in (to_element m.0) (changes_of r.global m.0) s m.2 in
            subst (Follows set) v.2 (by_first m.0 v.0 ((applied_are r.zone is_zone m.0).0 m.1) v.1))
        | inr two ↦ (
            let m = flat_in (from_elements r) (unaccepted r) s two in
            let kept = filter_in (λ y. not (is_supplied r.accepted y)) (applied_ids r.zone) m.0 m.1 in
            let v = map_in (from_element m.0) (changes_of r.global m.0) s m.2 in
            subst (Follows set) v.2 (by_second m.0 v.0 ((applied_are r.zone is_zone m.0).0 kept.0)
            (not-true (is_supplied r.accepted m.0) kept.1) v.1))
      ]
    ]

    set_closed : AreClosed ids (all_steps r) set
    set_closed = record { start = started; grown = followed }

  -- both say the same
  pub reached_listed : (x : Id) → IsReached ids (all_steps r) (Sysmod x) ↔ IsListed r (RestoreGroup ids) x
  reached_listed x = (
    λ reached listed closed. reached (with_elements listed) (set_closed listed closed),
    λ is set closed. is (λ y. set (Sysmod y)) (list_closed set closed),
  )

-- the list is what the steps reach
pub listed_from : (r : Restoring) → IsZone r.zone → (ids found : List Id) → AreReached ids (all_steps r) found
    → (x : Id) → Contains found x ↔ IsListed r (RestoreGroup ids) x
listed_from r is_zone ids found are = λ x. (
  λ h. (reached_listed r is_zone ids x).0 ((are x).0 h),
  λ h. (are x).1 ((reached_listed r is_zone ids x).1 h),
)
