-- What candidates need, by the pairs.
use Rattle.std.proofs.Common.{◌≡◌, ◌≢◌, inl, inr, Bool, true, false, not, List, ◌++◌, map, filter}
use Rattle.std.proofs.Common.{refl, sym, ap, subst, Contains, IsTrue, get_or, true≢false}
use Rattle.std.specs.Prelude.{◌↔◌, All, AllPairs, Any, IsFalse}
use Rattle.std.specs.List.{flat_map}
use Rattle.std.specs.Str.{bytes_eq}
use Rattle.std.proofs.lemmas.Bool.{and_parts, not-true}
use Rattle.std.proofs.lemmas.List.Elements.{Contains-append_left, Contains-append_right, Contains-append_cases}
use Rattle.std.proofs.lemmas.List.Elements.{All-contains, All-map}
use Rattle.terms.proofs.ListMembers.{in_map, map_in, in_filter, filter_in, in_flat, flat_in}
use Rattle.terms.proofs.Pairs.{AllPairs_join, pairs_map}
use Rattle.terms.proofs.TextOrder.{same_itself, other_text}
use Rattle.terms.specs.declared.codes.NeedKind.{NeedKind}
use Rattle.terms.specs.declared.codes.NeedKind.TheVariants.{Fmid, Pre, Req, Ifreq, HoldError, Orphan, Elem, Dep}
use Rattle.terms.specs.Types.{Id}
use Rattle.terms.specs.Lookups.{IsZone, is_in, is_applied, is_supplied, applied_ids, change_key, changes_of, has_change}
use Rattle.terms.specs.Restore.{Restoring, NeedsDep, NeedsInRestore}
use Rattle.terms.proofs.Ids.{is_in_from_Contains, Contains_from_is_in}
use Rattle.terms.proofs.Applied.{applied_are}
use Rattle.judge_system.specs.declared.stated.RequisiteOf.{RequisiteOf}
use Rattle.undo.specs.Dependences.{dependents}
use Rattle.sorted.specs.ElementKeys.{key_cmp}
use Rattle.sorted.specs.MultiMap.{listed}
use Rattle.undo.specs.Elements.{Changers, AreChangers, changed_keys, sharers, beside}
use Rattle.undo.specs.Pairs.{is_own, AreOwn}
use Rattle.undo.specs.Needed.{pair_need, HaveElem, HaveDep, AreNeeds}
use Rattle.terms.proofs.ChangedElements.{changes_to}
use Rattle.undo.proofs.Changed.{changes_from}
use Rattle.undo.proofs.Needing.{dependents_are}

abbrev Pair : Type 0
Pair = Id × Id

-- ---- elements

module _ (r : Restoring) (is_zone : IsZone r.zone) (others : List Id)
    (are_others : others ≡ filter (λ y. not (is_supplied r.accepted y)) (applied_ids r.zone)) (all : Changers)
    (are : AreChangers r.global others all) where
  other_is : (y : Id) → Contains others y ↔ (IsTrue (is_applied r.zone y) × IsFalse (is_supplied r.accepted y))
  other_is y = (
    λ h.
        let f = filter_in (λ y. not (is_supplied r.accepted y)) (applied_ids r.zone) y
        (subst (λ l. Contains l y) are_others h) in
        ((applied_are r.zone is_zone y).0 f.0, not-true (is_supplied r.accepted y) f.1),
    λ both. subst (λ l. Contains l y) (sym are_others) (in_filter (λ y. not (is_supplied r.accepted y))
        (applied_ids r.zone) y ((applied_are r.zone is_zone y).1 both.0) (ap not both.1)),
  )

  sharer_is : (x y : Id) → Contains (sharers r.global all x) y
      ↔ (IsTrue (is_applied r.zone y) × IsFalse (is_supplied r.accepted y)
      × Any (λ h. IsTrue (has_change r.global y h.elem_type h.name)) (changes_of r.global x))
  sharer_is x y = (
    λ there.
        let m = flat_in (λ h. listed key_cmp all (change_key h)) (changes_of r.global x) y there in
        let c = (are (change_key m.0) y).0 m.2 in
        let o = (other_is y).0 (subst (Contains others) (sym c.2.1) c.1) in (
          o.0,
          o.1,
          (
            m.1.0,
            m.0,
            m.1.1,
            m.1.2,
            changes_from r.global y (change_key m.0)
                (subst (λ v. Contains (changed_keys r.global v) (change_key m.0)) (sym c.2.1) c.2.0),
          ),
        ),
    λ p.
        let s = p.2 in
        let h = s.1 in
        in_flat (λ v. listed key_cmp all (change_key v)) (changes_of r.global x) h y (s.0, s.2, s.3)
        ((are (change_key h) y).1 (
          y,
          (other_is y).1 (p.0, p.1),
          (changes_to r.global y h.elem_type h.name s.4, refl),
        )),
  )

  pub have_elem_holds : (cands : List Id) (pairs : List Pair) → pairs ≡ flat_map (beside r.global all) cands
      → HaveElem r cands pairs
  have_elem_holds cands pairs made x y other = (
    λ there.
        let m = flat_in (beside r.global all) cands (x, y) (subst (λ l. Contains {X = Pair} l (x, y)) made there) in
        let v = map_in (λ (w : Id). (m.0, w)) (sharers r.global all m.0) (x, y) m.2 in
        let first : m.0 ≡ x = ap (λ (p : Pair). p.0) v.2 in
        let second : v.0 ≡ y = ap (λ (p : Pair). p.1) v.2 in
        let is = (sharer_is x y).0 (subst (λ w. Contains (sharers r.global all w) y) first
        (subst (Contains (sharers r.global all m.0)) second v.1)) in (
          subst (Contains cands) first m.1,
          record { other = other; applied = is.0; not_accepted = is.1; shared = is.2 },
        ),
    λ both.
        let n = both.1 in
        subst (λ l. Contains {X = Pair} l (x, y)) (sym made) (in_flat (beside r.global all) cands x (x, y) both.0
        (in_map (λ (w : Id). (x, w)) (sharers r.global all x) y
        ((sharer_is x y).1 (n.applied, n.not_accepted, n.shared)))),
  )

-- ---- both kinds

pub have_dep_holds : (r : Restoring) → IsZone r.zone → (cands : List Id)
    → All (λ x. IsTrue (is_applied r.zone x)) cands
    → (pairs : List Pair) → pairs ≡ flat_map (dependents r (is_in cands)) (applied_ids r.zone) → HaveDep r cands pairs
have_dep_holds r is_zone cands applied pairs made x y other own =
    subst (λ l. Contains {X = Pair} l (x, y) ↔ NeedsDep r (is_in cands) x y) (sym made)
    (dependents_are r is_zone (is_in cands) x y other
    (All-contains (λ v. IsTrue (is_applied r.zone v)) cands x applied own) (is_in_from_Contains cands x own))

own_parts : (cands : List Id) (x y : Id) → IsTrue (is_own cands (x, y)) → Contains cands x × (y ≢ x)
own_parts cands x y own =
    let parts = and_parts (is_in cands x) (not (bytes_eq x y)) own in (
      Contains_from_is_in cands x parts.0,
      λ same. absurd (cc (
        not-true (bytes_eq x y) parts.1,
        subst (λ v. bytes_eq x v ≡ true) (sym same)
            (same_itself x),
      )),
    )

own_whole : (cands : List Id) (x y : Id) → Contains cands x → y ≢ x → IsTrue (is_own cands (x, y))
own_whole cands x y there other =
    rw (is_in_from_Contains cands x there, other_text x y (λ same. other (sym same))) refl

module _ (r : Restoring) (cands : List Id) (applied : All (λ x. IsTrue (is_applied r.zone x)) cands)
    (elem dep own_elem own_dep : List Pair)
    (have_elem : HaveElem r cands elem) (have_dep : HaveDep r cands dep) (of_elem : AreOwn cands elem own_elem)
    (of_dep : AreOwn cands dep own_dep) where
  on : (x : Id) → Contains cands x → IsTrue (is_applied r.zone x)
  on x there = All-contains (λ v. IsTrue (is_applied r.zone v)) cands x applied there

  elem_is : (x y : Id) → Contains {X = Pair} own_elem (x, y)
      ↔ (Contains cands x × NeedsInRestore r (is_in cands) x Elem y)
  elem_is x y = (
    λ h.
        let m = (of_elem.members (x, y)).0 h in
        let p = own_parts cands x y m.1 in
        (p.0, (on x p.0, ((have_elem x y p.1).0 m.0).1)),
    λ n. (of_elem.members (x, y)).1
        ((have_elem x y n.1.1.other).1 (n.0, n.1.1), own_whole cands x y n.0 n.1.1.other),
  )

  dep_is : (x y : Id) → Contains {X = Pair} own_dep (x, y) ↔ (Contains cands x × NeedsInRestore r (is_in cands) x Dep y)
  dep_is x y = (
    λ h.
        let m = (of_dep.members (x, y)).0 h in
        let p = own_parts cands x y m.1 in
        (p.0, (on x p.0, (have_dep x y p.1 p.0).0 m.0)),
    λ n. (of_dep.members (x, y)).1
        ((have_dep x y n.1.1.other n.0).1 n.1.1, own_whole cands x y n.0 n.1.1.other),
  )

  abbrev both : List RequisiteOf
  both = map (pair_need Elem) own_elem ++ map (pair_need Dep) own_dep

  needs_from : (x : Id) (kind : NeedKind) (y : Id) → Contains both (pair_need kind (x, y))
      → Contains cands x × NeedsInRestore r (is_in cands) x kind y
  needs_from x kind y h =
      elim (Contains-append_cases (map (pair_need Elem) own_elem) (map (pair_need Dep) own_dep) (pair_need kind (x, y))
      h) [
        | inl front ↦
            let m = map_in (pair_need Elem) own_elem (pair_need kind (x, y)) front in
            let pair : m.0 ≡ (x, y) = ap (λ (w : RequisiteOf). (w.of, w.id)) m.2 in
            subst (λ k. Contains cands x × NeedsInRestore r (is_in cands) x k y) (ap (λ (w : RequisiteOf). w.kind) m.2)
            ((elem_is x y).0 (subst (Contains own_elem) pair m.1))
        | inr back ↦
            let m = map_in (pair_need Dep) own_dep (pair_need kind (x, y)) back in
            let pair : m.0 ≡ (x, y) = ap (λ (w : RequisiteOf). (w.of, w.id)) m.2 in
            subst (λ k. Contains cands x × NeedsInRestore r (is_in cands) x k y) (ap (λ (w : RequisiteOf). w.kind) m.2)
            ((dep_is x y).0 (subst (Contains own_dep) pair m.1))
      ]

  needs_to : (x : Id) (kind : NeedKind) (y : Id) → Contains cands x → NeedsInRestore r (is_in cands) x kind y
      → Contains both (pair_need kind (x, y))
  needs_to x Elem y there n =
      Contains-append_left (map (pair_need Elem) own_elem) (map (pair_need Dep) own_dep) (pair_need Elem (x, y))
      (in_map (pair_need Elem) own_elem (x, y) ((elem_is x y).1 (there, n)))
  needs_to x Dep y there n =
      Contains-append_right (map (pair_need Elem) own_elem) (map (pair_need Dep) own_dep) (pair_need Dep (x, y))
      (in_map (pair_need Dep) own_dep (x, y) ((dep_is x y).1 (there, n)))
  needs_to x Fmid y there n = absurd n
  needs_to x Pre y there n = absurd n
  needs_to x Req y there n = absurd n
  needs_to x Ifreq y there n = absurd n
  needs_to x HoldError y there n = absurd n
  needs_to x Orphan y there n = absurd n

  once_each : (kind : NeedKind) (pairs : List Pair) → AllPairs (λ p q. p ≢ q) pairs
      → AllPairs (λ v w. v ≢ w) (map (pair_need kind) pairs)
  once_each kind pairs once =
      pairs_map (λ p q. p ≢ q) (λ v w. v ≢ w) (pair_need kind)
      (λ p q apart same. apart (ap (λ (w : RequisiteOf). (w.of, w.id)) same)) pairs once

  pub are_needs : (needs : List RequisiteOf) → needs ≡ both → AreNeeds r cands needs
  are_needs needs made = subst (AreNeeds r cands) (sym made) (record {
    members = λ x kind y. (needs_from x kind y, λ n. needs_to x kind y n.0 n.1);
    once = AllPairs_join (λ v w. v ≢ w) (map (pair_need Elem) own_elem) (map (pair_need Dep) own_dep)
        (once_each Elem own_elem of_elem.once) (once_each Dep own_dep of_dep.once)
        (All-map (λ v. All (λ w. v ≢ w) (map (pair_need Dep) own_dep)) (pair_need Elem) own_elem
        (λ i d below. All-map (λ w. pair_need Elem (get_or own_elem i d) ≢ w) (pair_need Dep) own_dep
        (λ j e within. apart (get_or own_elem i d) (get_or own_dep j e))));
  })
    where
      number : NeedKind → Bool
      number Elem = true
      number _ = false

      apart : (p q : Pair) → pair_need Elem p ≢ pair_need Dep q
      apart p q same = absurd (true≢false (ap (λ (w : RequisiteOf). number w.kind) same))
