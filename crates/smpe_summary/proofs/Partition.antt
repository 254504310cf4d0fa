-- Each id of the package has one group.
use Rattle.std.proofs.Common.{◌≡◌, ◌∙◌, ◌⊎◌, inl, inr, Bool, true, false, List, [], ◌∷◌, Option, None, Some}
use Rattle.std.proofs.Common.{Contains, map, refl, sym, ap, subst, true≢false}
use Rattle.std.specs.Prelude.{IsTrue, if◌then◌else◌}
use Rattle.std.specs.List.{flat_map}
use Rattle.std.proofs.lemmas.List.Elements.{Contains-append_left, Contains-append_right, Contains-append_cases}
use Rattle.terms.proofs.ListMembers.{here, here_or, none_in, map_in, flat_in, in_flat}
use Rattle.terms.proofs.Ids.{is_in_from_Contains, Contains_from_is_in}
use Rattle.terms.specs.Types.{Id, Selection}
use Rattle.terms.specs.Lookups.{is_in, at_most_one}
use Rattle.machine.specs.Outcome.{Place, Status, Received, Already, RefusedId, Assigned, Unknown, Held, Replaced}
use Rattle.machine.specs.Outcome.{Released, Rejected, Applied, Accepted, Superseded, Failed, Deleted, Missing, NoVer}
use Rattle.machine.specs.Outcome.{Restored, NotApplied, Line, StatusLine, NothingLine, SysmodLine, HoldLine, EntryLine}
use Rattle.machine.specs.Outcome.{ElementLine, TextLine, ErrsysmodLine}
use Rattle.machine.specs.Receiving.{place_of}
use Rattle.machine.specs.Installing.{Decision, AreInstallLines}
use Rattle.smpe_summary.specs.declared.values.Group.{Group}
use Rattle.smpe_summary.specs.declared.values.Member.{Member}
use Rattle.smpe_summary.specs.Asked.{Asked, is_candidate, id_where, ids_where}
use Rattle.smpe_summary.specs.Sets.{IsSetOf}
use Rattle.smpe_summary.specs.Groups.{a_member, status_group, line_member, zone_group, other_member, members_of}
use Rattle.smpe_summary.specs.Laws.{EachHasOneGroup}

-- ---- lines

-- the line of the id has this status
abbrev HasLine : List Line → Id → Status → Type 0
HasLine lines x s = (p : Place) × Contains lines (StatusLine x p s)

abbrev IsUnique : List Line → Type 0
IsUnique lines = (x : Id) (s t : Status) → HasLine lines x s → HasLine lines x t → s ≡ t

-- lines made of ids, one for each
same_status : (d : Decision) (sel : Selection) (lines : List Line) (h : AreInstallLines d sel lines) (x : Id) (s : Status)
    → HasLine lines x s → h.status x ≡ s
same_status d sel lines h x s has =
    let at = map_in (λ y. StatusLine y (place_of d.setting.global y) (h.status y)) h.ids (StatusLine x has.0 s)
    (subst (λ l. Contains l (StatusLine x has.0 s)) h.lines_are has.1) in
    of at.0 at.2
  where
    of : (y : Id) → StatusLine y (place_of d.setting.global y) (h.status y) ≡ StatusLine x has.0 s → h.status x ≡ s
    of y e = let id : y ≡ x = cc in let status : h.status y ≡ s = cc in ap h.status (sym id) ∙ status

unique : (d : Decision) (sel : Selection) (lines : List Line) → AreInstallLines d sel lines → IsUnique lines
unique d sel lines h x s t first second =
    sym (same_status d sel lines h x s first) ∙ same_status d sel lines h x t second

-- the ids of candidates
from_id : (l : Line) (x : Id) → Contains (id_where is_candidate l) x
    → (p : Place) × (s : Status) × (l ≡ StatusLine x p s) × IsTrue (is_candidate s)
from_id (StatusLine y p s) x h = by (is_candidate s) refl h
  where
    by : (b : Bool) → is_candidate s ≡ b → Contains (if b then y ∷ [] else []) x
        → (q : Place) × (t : Status) × (StatusLine y p s ≡ StatusLine x q t) × IsTrue (is_candidate t)
    by true e at = elim (here_or y [] x at) [
      | inl is ↦ (p, s, ap (λ z. StatusLine z p s) is, e)
      | inr none ↦ absurd (none_in x none)
    ]
    by false e at = absurd (none_in x at)
from_id NothingLine x h = absurd (none_in x h)
from_id (SysmodLine y kind sources) x h = absurd (none_in x h)
from_id (HoldLine y kind reason internal) x h = absurd (none_in x h)
from_id (EntryLine kind entry) x h = absurd (none_in x h)
from_id (ElementLine row) x h = absurd (none_in x h)
from_id (TextLine r) x h = absurd (none_in x h)
from_id (ErrsysmodLine y reason resolvers) x h = absurd (none_in x h)

candidate_line : (lines : List Line) (x : Id) → Contains (ids_where is_candidate lines) x
    → (s : Status) × HasLine lines x s × IsTrue (is_candidate s)
candidate_line lines x h =
    let at = flat_in (id_where is_candidate) lines x h in
    let from = from_id at.0 x at.2 in
    (from.1, (from.0, subst (Contains lines) from.2 at.1), from.3)

line_candidate : (lines : List Line) (x : Id) (s : Status) → HasLine lines x s → IsTrue (is_candidate s)
    → Contains (ids_where is_candidate lines) x
line_candidate lines x s has e =
    in_flat (id_where is_candidate) lines (StatusLine x has.0 s) x has.1 (rw e (here x []))

-- ---- groups

module _ (a : Asked) (supers : Id → List Id) where
  group_of : (x : Id) (s : Status) → IsTrue (is_candidate s) → (g : Group) × (status_group a supers x s ≡ Some g)
  group_of x Received e = absurd (true≢false (sym e))
  group_of x Already e = absurd (true≢false (sym e))
  group_of x (RefusedId why) e = absurd (true≢false (sym e))
  group_of x (Assigned source) e = absurd (true≢false (sym e))
  group_of x Unknown e = absurd (true≢false (sym e))
  group_of x (Held reason) e = absurd (true≢false (sym e))
  group_of x (Replaced reason) e = absurd (true≢false (sym e))
  group_of x (Released reason) e = absurd (true≢false (sym e))
  group_of x Rejected e = absurd (true≢false (sym e))
  group_of x Applied e = (_, refl)
  group_of x Accepted e = (_, refl)
  group_of x Superseded e = (_, refl)
  group_of x (Failed why) e = (_, refl)
  group_of x Deleted e = absurd (true≢false (sym e))
  group_of x Missing e = absurd (true≢false (sym e))
  group_of x NoVer e = absurd (true≢false (sym e))
  group_of x Restored e = absurd (true≢false (sym e))
  group_of x NotApplied e = absurd (true≢false (sym e))

  of_group : (x : Id) (s : Status) (g : Group) → status_group a supers x s ≡ Some g → IsTrue (is_candidate s)
  of_group x Received g e = cc e
  of_group x Already g e = cc e
  of_group x (RefusedId why) g e = cc e
  of_group x (Assigned source) g e = cc e
  of_group x Unknown g e = cc e
  of_group x (Held reason) g e = cc e
  of_group x (Replaced reason) g e = cc e
  of_group x (Released reason) g e = cc e
  of_group x Rejected g e = cc e
  of_group x Applied g e = refl
  of_group x Accepted g e = refl
  of_group x Superseded g e = refl
  of_group x (Failed why) g e = refl
  of_group x Deleted g e = cc e
  of_group x Missing g e = cc e
  of_group x NoVer g e = cc e
  of_group x Restored g e = cc e
  of_group x NotApplied g e = cc e

  -- what a line's member says
  abbrev IsFrom : Line → Member → Type 0
  IsFrom l m = (p : Place) × (s : Status) × (l ≡ StatusLine m.id p s) × Contains a.members m.id
      × (status_group a supers m.id s ≡ Some m.group)

  from_line : (l : Line) (m : Member) → Contains (line_member a supers l) m → IsFrom l m
  from_line (StatusLine x p s) m h = by (is_in a.members x) refl (status_group a supers x s) refl h
    where
      by : (b : Bool) → is_in a.members x ≡ b → (o : Option Group) → status_group a supers x s ≡ o
          → Contains (if b then map (a_member x) (at_most_one o) else []) m → IsFrom (StatusLine x p s) m
      by true e (Some g) f at = elim (here_or (a_member x g) [] m at) [
        | inl is ↦ subst (IsFrom (StatusLine x p s)) is (p, s, refl, Contains_from_is_in a.members x e, f)
        | inr none ↦ absurd (none_in m none)
      ]
      by true e None f at = absurd (none_in m at)
      by false e o f at = absurd (none_in m at)
  from_line NothingLine m h = absurd (none_in m h)
  from_line (SysmodLine y kind sources) m h = absurd (none_in m h)
  from_line (HoldLine y kind reason internal) m h = absurd (none_in m h)
  from_line (EntryLine kind entry) m h = absurd (none_in m h)
  from_line (ElementLine row) m h = absurd (none_in m h)
  from_line (TextLine r) m h = absurd (none_in m h)
  from_line (ErrsysmodLine y reason resolvers) m h = absurd (none_in m h)

  -- a line's member
  into_line : (x : Id) (p : Place) (s : Status) (g : Group) → Contains a.members x → status_group a supers x s ≡ Some g
      → Contains (line_member a supers (StatusLine x p s)) (a_member x g)
  into_line x p s g known e = rw (is_in_from_Contains a.members x known, e) (here (a_member x g) [])

  module _ (cands : List Id) where
    -- what a member of one that is no candidate says
    abbrev IsOther : Member → Type 0
    IsOther m = Contains a.members m.id × (is_in cands m.id ≡ false) × (m.group ≡ zone_group a m.id)

    from_other : (x : Id) (m : Member) → Contains a.members x → Contains (other_member a cands x) m → IsOther m
    from_other x m known h = by (is_in cands x) refl h
      where
        by : (b : Bool) → is_in cands x ≡ b → Contains (if b then [] else a_member x (zone_group a x) ∷ []) m → IsOther m
        by true e at = absurd (none_in m at)
        by false e at = elim (here_or (a_member x (zone_group a x)) [] m at) [
          | inl is ↦ subst IsOther is (known, e, refl)
          | inr none ↦ absurd (none_in m none)
        ]

    into_other : (x : Id) → is_in cands x ≡ false → Contains (other_member a cands x) (a_member x (zone_group a x))
    into_other x e = rw e (here (a_member x (zone_group a x)) [])

    -- a member is that of a line, or of one that is no candidate
    abbrev OfLine : Member → Type 0
    OfLine m = (s : Status) × HasLine a.lines m.id s × Contains a.members m.id
        × (status_group a supers m.id s ≡ Some m.group)

    of_member : (m : Member) → Contains (members_of a supers cands) m → OfLine m ⊎ IsOther m
    of_member m h = elim (Contains-append_cases (flat_map (line_member a supers) a.lines)
        (flat_map (other_member a cands) a.members) m h) [
          | inl first ↦
              let at = flat_in (line_member a supers) a.lines m first in
              let from = from_line at.0 m at.2 in
              inl (from.1, (from.0, subst (Contains a.lines) from.2 at.1), from.3, from.4)
          | inr second ↦
              let at = flat_in (other_member a cands) a.members m second in
              inr (from_other at.0 m at.1 at.2)
        ]

    module _ (are : IsSetOf cands (ids_where is_candidate a.lines)) where
      -- one that has a line of a candidate is a candidate
      is_taken : (m : Member) → OfLine m → is_in cands m.id ≡ true
      is_taken m of =
          is_in_from_Contains cands m.id ((are.members m.id).1 (line_candidate a.lines m.id of.0 of.1
          (of_group m.id of.0 m.group of.3)))

      has_member : (x : Id) → Contains a.members x
          → (m : Member) × Contains (members_of a supers cands) m × (m.id ≡ x)
      has_member x known = by (is_in cands x) refl
        where
          by : (b : Bool) → is_in cands x ≡ b → (m : Member) × Contains (members_of a supers cands) m × (m.id ≡ x)
          by true e =
              let line = candidate_line a.lines x ((are.members x).0 (Contains_from_is_in cands x e)) in
              let g = group_of x line.0 line.2 in (
                a_member x g.0,
                Contains-append_left (flat_map (line_member a supers) a.lines)
                    (flat_map (other_member a cands) a.members) (a_member x g.0)
                    (in_flat (line_member a supers) a.lines (StatusLine x line.1.0 line.0) (a_member x g.0) line.1.1
                    (into_line x line.1.0 line.0 g.0 known g.1)),
                refl,
              )
          by false e = (
            a_member x (zone_group a x),
            Contains-append_right (flat_map (line_member a supers) a.lines)
                (flat_map (other_member a cands) a.members) (a_member x (zone_group a x))
                (in_flat (other_member a cands) a.members x (a_member x (zone_group a x)) known (into_other x e)),
            refl,
          )

      is_known : (m : Member) → Contains (members_of a supers cands) m → Contains a.members m.id
      is_known m h = elim (of_member m h) [ inl of ↦ of.2 | inr other ↦ other.0 ]

      some_same : (x y : Group) → Some x ≡ Some y → x ≡ y
      some_same x y e = cc e

      same_group : IsUnique a.lines → (m n : Member) → Contains (members_of a supers cands) m
          → Contains (members_of a supers cands) n → m.id ≡ n.id → m.group ≡ n.group
      same_group only m n at_m at_n same = by (of_member m at_m) (of_member n at_n)
        where
          by : OfLine m ⊎ IsOther m → OfLine n ⊎ IsOther n → m.group ≡ n.group
          by (inl of) (inl on) =
              let status : of.0 ≡ on.0 =
              only n.id of.0 on.0 (subst (λ x. HasLine a.lines x of.0) same of.1) on.1 in
              some_same m.group n.group (sym of.3 ∙ ap (λ x. status_group a supers x of.0) same
              ∙ ap (status_group a supers n.id) status ∙ on.3)
          by (inl of) (inr on) =
              absurd (true≢false (sym (is_taken m of) ∙ ap (is_in cands) same ∙ on.1))
          by (inr of) (inl on) =
              absurd (true≢false (sym (is_taken n on) ∙ ap (is_in cands) (sym same) ∙ of.1))
          by (inr of) (inr on) = of.2 ∙ ap (zone_group a) same ∙ sym on.2

pub each_has_one_group : EachHasOneGroup
each_has_one_group a d sel supers cands lines are = record {
  all = has_member a supers cands are;
  only = is_known a supers cands are;
  one = same_group a supers cands are (unique d sel a.lines lines);
}
