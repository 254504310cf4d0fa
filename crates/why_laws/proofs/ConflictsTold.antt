-- The conflicts that are told of a failed test witness it, and each test that other candidates decide has one.
use Rattle.std.proofs.Common.{◌≡◌, ◌≢◌, ◌∙◌, inl, inr, Bool, true, false, not, List, [], ◌∷◌, ◌++◌, Option, None}
use Rattle.std.proofs.Common.{Some, Contains, IsTrue, refl, sym, ap, subst, subst₂, true≢false}
use Rattle.std.specs.Prelude.{◌↔◌, if◌then◌else◌}
use Rattle.std.specs.List.{flat_map}
use Rattle.std.specs.Str.{bytes_eq}
use Rattle.std.proofs.lemmas.Bool.{not-true, not_from_false}
use Rattle.std.proofs.lemmas.List.Elements.{Contains-append_left, Contains-append_right, Contains-append_cases}
use Rattle.terms.specs.declared.codes.Test.{Test}
use Rattle.terms.specs.declared.codes.Test.TheVariants.{ChainDeleted, InClash}
use Rattle.terms.specs.Types.{Id}
use Rattle.terms.specs.Lookups.{is_in, changes_of, has_change}
use Rattle.terms.specs.Choice.{npre_of, del_of}
use Rattle.terms.specs.Over.{chain}
use Rattle.terms.specs.Tests.{Setting, FailsAlone, PassesAlone, IsChainDeleted, ShareElement, MayNotShare}
use Rattle.terms.specs.Tests.{Clash, IsInClash, Fails}
use Rattle.terms.proofs.ChangedElements.{change_found, change_has}
use Rattle.terms.proofs.Ids.{is_in_from_Contains, Contains_from_is_in}
use Rattle.terms.proofs.ListMembers.{here, here_or, none_in, in_filter, filter_in, in_flat, flat_in}
use Rattle.terms.proofs.Searches.{some_passes, passes_some, passes_all, all_pass}
use Rattle.terms.proofs.TextOrder.{same_itself, other_text}
use Rattle.machine.specs.Outcome.{Status, Applied, Accepted, Superseded, Failed, Line, StatusLine, Place}
use Rattle.why_verdict.specs.declared.conflict.Apart.{Apart}
use Rattle.why_verdict.specs.declared.conflict.Conflict.{Conflict}
use Rattle.why_verdict.specs.declared.conflict.Conflict.TheVariants.{Deletes, Forbids, ForbiddenBy, Shares}
use Rattle.why_verdict.specs.declared.conflict.Partner.{Partner}
use Rattle.why_verdict.specs.declared.conflict.SharedElement.{SharedElement}
use Rattle.why_verdict.specs.Conflicts.{by_delete, by_clash, by_others, is_chain_deleted, is_in_clash, passes_alone}
use Rattle.why_verdict.specs.Conflicts.{id_where, ids_where, others, deleters, clashing, deletion_of, deletions_by}
use Rattle.why_verdict.specs.Conflicts.{IsApart, IsPartner, share_of, shares, clashes_with, AreConflicts}
use Rattle.why_verdict.specs.Verdict.{conflict_reason, is_candidate}
use Rattle.why_laws.specs.Witnesses.{IsDeletion, IsRival, IsClash, ConflictWitnesses, NamesTests, AreLinesOf}
use Rattle.why_laws.proofs.FactsSay.{beside_in, in_beside}
use Rattle.why_laws.proofs.Printed.{cons_some, if_in, in_if}

-- ---- the tests that other candidates decide

delete_test : (t : Test) → by_delete t ≡ true → t ≡ ChainDeleted
delete_test ChainDeleted is = refl
delete_test t is = absurd (true≢false (sym is))

clash_test : (t : Test) → by_clash t ≡ true → t ≡ InClash
clash_test InClash is = refl
clash_test t is = absurd (true≢false (sym is))

-- no test by others looks only at the candidate
others_alone : (s : Setting) (y : Id) (t : Test) → by_others t ≡ true → ¬ FailsAlone s y t
others_alone s y ChainDeleted is fails = fails
others_alone s y InClash is fails = fails
others_alone s y t is fails = true≢false (sym is)

fails_too : (s : Setting) (y : Id) (t : Test) → FailsAlone s y t → Fails s y t
fails_too s y ChainDeleted fails = absurd fails
fails_too s y InClash fails = absurd fails
fails_too s y t fails = fails

by_others_only : (s : Setting) (y : Id) (t : Test) → Fails s y t → ((t : Test) → ¬ FailsAlone s y t)
    → by_others t ≡ true
by_others_only s y ChainDeleted fails alone = refl
by_others_only s y InClash fails alone = refl
by_others_only s y t fails alone = absurd (alone t fails)

in_one : (b : Bool) (k : Conflict) → b ≡ true → Contains (if b then k ∷ [] else []) k
in_one true k is = here k []
in_one false k is = absurd (true≢false (sym is))

-- ---- the ids of lines

line_with : (is : Status → Bool) (y : Id) (l : Line) → Contains (id_where is l) y
    → (place : Place) × (status : Status) × (l ≡ StatusLine y place status) × (is status ≡ true)
line_with is y (StatusLine x place status) at =
    let both = if_in (is status) (x ∷ []) y at in
    elim (here_or x [] y both.1) [
      | inl same ↦ (place, status, ap (λ z. StatusLine z place status) same, both.0)
      | inr later ↦ absurd (none_in y later)
    ]
line_with is y l at = absurd (none_in y at)

-- an id is among those of a status if it has a line with such a status
id_in : (is : Status → Bool) (lines : List Line) (y : Id) (place : Place) (status : Status)
    → Contains lines (StatusLine y place status) → is status ≡ true → Contains (ids_where is lines) y
id_in is lines y place status there holds =
    in_flat (id_where is) lines (StatusLine y place status) y there (in_if (is status) (y ∷ []) y holds (here y []))

in_id : (is : Status → Bool) (lines : List Line) (y : Id) → Contains (ids_where is lines) y
    → (place : Place) × (status : Status) × Contains lines (StatusLine y place status) × (is status ≡ true)
in_id is lines y at =
    let from = flat_in (id_where is) lines y at in
    let it = line_with is y from.0 from.2 in
    (it.0, it.1, subst (Contains lines) it.2 from.1, it.3)

other_in : (x : Id) (ids : List Id) (y : Id) → Contains (others x ids) y → Contains ids y × (x ≢ y)
other_in x ids y is =
    let both = filter_in (λ y. not (bytes_eq x y)) ids y is in (
      both.0,
      λ same. true≢false (sym (subst (λ z. bytes_eq x z ≡ true) same (same_itself x))
          ∙ not-true (bytes_eq x y) both.1),
    )

in_other : (x : Id) (ids : List Id) (y : Id) → Contains ids y → x ≢ y → Contains (others x ids) y
in_other x ids y is apart =
    in_filter (λ y. not (bytes_eq x y)) ids y is (not_from_false (bytes_eq x y) (other_text x y apart))

-- ---- what a status says

-- a status, if it is that of a candidate, names the tests that y fails
abbrev Tells : Setting → Id → Status → Type 0
Tells s y status = IsTrue (is_candidate status) → Contains s.cands y × NamesTests s y status

module _ (s : Setting) (y : Id) where
  deleted_from : (status : Status) → Tells s y status → is_chain_deleted status ≡ true → IsChainDeleted s y
  deleted_from (Failed f) tells is =
      let t = some_passes by_delete f.tests is in
      ((tells refl).1 ChainDeleted).0 (subst (Contains f.tests) (delete_test t.0 t.2) t.1)
  deleted_from status tells is = absurd (true≢false (sym is))

  from_deleted : (status : Status) → IsTrue (is_candidate status) → NamesTests s y status → IsChainDeleted s y
      → is_chain_deleted status ≡ true
  from_deleted (Failed f) is names fails =
      passes_some by_delete f.tests ChainDeleted ((names ChainDeleted).1 fails) refl
  from_deleted status is names fails = absurd (names ChainDeleted fails)

  clash_from : (status : Status) → Tells s y status → is_in_clash status ≡ true → IsInClash s y
  clash_from (Failed f) tells is =
      let t = some_passes by_clash f.tests is in
      ((tells refl).1 InClash).0 (subst (Contains f.tests) (clash_test t.0 t.2) t.1)
  clash_from status tells is = absurd (true≢false (sym is))

  from_clash : (status : Status) → IsTrue (is_candidate status) → NamesTests s y status → IsInClash s y
      → is_in_clash status ≡ true
  from_clash (Failed f) is names fails = passes_some by_clash f.tests InClash ((names InClash).1 fails) refl
  from_clash status is names fails = absurd (names InClash fails)

  none_alone : Contains s.cands y × ((t : Test) → ¬ Fails s y t) → PassesAlone s y
  none_alone tells = (tells.0, λ t fails. tells.1 t (fails_too s y t fails))

  alone_from : (status : Status) → Tells s y status → passes_alone status ≡ true → PassesAlone s y
  alone_from (Failed f) tells is =
      let it = tells refl in (
        it.0,
        λ t fails. others_alone s y t (passes_all by_others f.tests t is ((it.1 t).1 (fails_too s y t fails))) fails,
      )
  alone_from Applied tells is = none_alone (tells refl)
  alone_from Accepted tells is = none_alone (tells refl)
  alone_from Superseded tells is = none_alone (tells refl)
  alone_from status tells is = absurd (true≢false (sym is))

  from_alone : (status : Status) → IsTrue (is_candidate status) → NamesTests s y status → PassesAlone s y
      → passes_alone status ≡ true
  from_alone (Failed f) is names alone =
      all_pass by_others f.tests (λ t within. by_others_only s y t ((names t).0 within) alone.1)
  from_alone status is names alone = is

-- ---- what the lines of an install say

module _ (s : Setting) (lines : List Line) (are : AreLinesOf s lines) where
  -- a property of candidates that their statuses show
  module _ (is : Status → Bool) (P : Id → Type 0)
      (from : (y : Id) (status : Status) → Tells s y status → is status ≡ true → P y)
      (back : (y : Id) (status : Status) → IsTrue (is_candidate status) → NamesTests s y status → P y
      → is status ≡ true)
      (cand : (y : Id) → P y → Contains s.cands y) where
    shown : (y : Id) → Contains (ids_where is lines) y ↔ P y
    shown y = (
      λ at. let it = in_id is lines y at in from y it.1 (are.each y it.0 it.1 it.2) it.3,
      λ has.
          let it = are.all y (cand y has) in
          id_in is lines y it.0 it.1 it.2 (back y it.1 it.3 (are.each y it.0 it.1 it.2 it.3).1 has),
    )

  deleted_shown : (y : Id) → Contains (ids_where is_chain_deleted lines) y ↔ IsChainDeleted s y
  deleted_shown = shown is_chain_deleted (IsChainDeleted s) (deleted_from s) (from_deleted s) (λ y fails. fails.0.0)

  clash_shown : (y : Id) → Contains (ids_where is_in_clash lines) y ↔ IsInClash s y
  clash_shown = shown is_in_clash (IsInClash s) (clash_from s) (from_clash s) (λ y fails. fails.0.0.0)

  alone_shown : (y : Id) → Contains (ids_where passes_alone lines) y ↔ PassesAlone s y
  alone_shown = shown passes_alone (PassesAlone s) (alone_from s) (from_alone s) (λ y alone. alone.0)

  module _ (x : Id) where
    deleter_in : (y : Id) → Contains (deleters lines x) y → (x ≢ y) × PassesAlone s y
    deleter_in y at =
        let it = if_in (is_in (ids_where is_chain_deleted lines) x) (others x (ids_where passes_alone lines)) y at in
        let both = other_in x (ids_where passes_alone lines) y it.1 in
        (both.1, (alone_shown y).0 both.0)

    in_deleter : IsChainDeleted s x → (y : Id) → x ≢ y → PassesAlone s y → Contains (deleters lines x) y
    in_deleter fails y apart alone =
        in_if (is_in (ids_where is_chain_deleted lines) x) (others x (ids_where passes_alone lines)) y
        (is_in_from_Contains (ids_where is_chain_deleted lines) x ((deleted_shown x).1 fails))
        (in_other x (ids_where passes_alone lines) y ((alone_shown y).1 alone) apart)

    clashing_in : (y : Id) → Contains (clashing lines x) y → IsRival s x y
    clashing_in y at =
        let it = if_in (is_in (ids_where is_in_clash lines) x) (others x (ids_where is_in_clash lines)) y at in
        let both = other_in x (ids_where is_in_clash lines) y it.1 in
        (both.1, ((clash_shown y).0 both.0).0)

    in_clashing : IsInClash s x → (y : Id) → x ≢ y → IsInClash s y → Contains (clashing lines x) y
    in_clashing fails y apart too =
        in_if (is_in (ids_where is_in_clash lines) x) (others x (ids_where is_in_clash lines)) y
        (is_in_from_Contains (ids_where is_in_clash lines) x ((clash_shown x).1 fails))
        (in_other x (ids_where is_in_clash lines) y ((clash_shown y).1 too) apart)

    -- ---- what each conflict says

    abbrev SaysConflict : Conflict → Type 0
    SaysConflict (Deletes y z) = IsDeletion s x (Deletes y z)
    SaysConflict (Forbids y) = IsClash s x (Forbids y)
    SaysConflict (ForbiddenBy y) = IsClash s x (ForbiddenBy y)
    SaysConflict (Shares e) = IsClash s x (Shares e)

    deletion_says : (y : Id) → Contains (deleters lines x) y → (k : Conflict) → Contains (deletions_by s x y) k
        → SaysConflict k
    deletion_says y deletes k is =
        let from = flat_in (deletion_of s x y) (del_of s.choice y) k is in
        let z = from.0 in
        let rival = deleter_in y deletes in
        by z from.1 rival (is_in (chain s.global s.choice x) z) refl from.2
      where
        by : (z : Id) → Contains (del_of s.choice y) z → (x ≢ y) × PassesAlone s y → (b : Bool)
            → is_in (chain s.global s.choice x) z ≡ b → Contains (if b then Deletes y z ∷ [] else []) k → SaysConflict k
        by z names rival true within at = elim (here_or (Deletes y z) [] k at) [
          | inl same ↦ subst SaysConflict same
              (rival.0, rival.1, names, Contains_from_is_in (chain s.global s.choice x) z within)
          | inr later ↦ absurd (none_in k later)
        ]
        by z names rival false within at = absurd (none_in k at)

    -- one conflict that depends on a test
    one_if : (b : Bool) (c k : Conflict) → Contains (if b then c ∷ [] else []) k → (b ≡ true → SaysConflict c)
        → SaysConflict k
    one_if true c k at says = elim (here_or c [] k at) [
      | inl same ↦ subst SaysConflict same (says refl)
      | inr later ↦ absurd (none_in k later)
    ]
    one_if false c k at says = absurd (none_in k at)

    shares_say : (y : Id) → IsRival s x y → (apart : Option Apart) → IsApart s x y apart → (k : Conflict)
        → Contains (shares s x y apart) k → SaysConflict k
    shares_say y rival None apart k at = absurd (none_in k at)
    shares_say y rival (Some how) apart k at =
        let from = flat_in (share_of s.global y how) (changes_of s.global x) k at in
        let h = from.0 in
        one_if (has_change s.global y h.elem_type h.name)
        (Shares (record { with = y; elem_type = h.elem_type; name = h.name; apart = how })) k from.2
        (λ changes. (rival, change_has s.global x h from.1, changes, apart))

    clash_says : (p : Partner) → IsRival s x p.id → IsApart s x p.id p.apart → (k : Conflict)
        → Contains (clashes_with s x p) k → SaysConflict k
    clash_says p rival apart k is =
        let forbids : List Conflict = if is_in (npre_of s.choice x) p.id then Forbids p.id ∷ [] else [] in
        let forbidden : List Conflict = if is_in (npre_of s.choice p.id) x then ForbiddenBy p.id ∷ [] else [] in
        elim (Contains-append_cases (forbids ++ forbidden) (shares s x p.id p.apart) k is) [
          | inl front ↦ elim (Contains-append_cases forbids forbidden k front) [
            | inl first ↦ one_if (is_in (npre_of s.choice x) p.id) (Forbids p.id) k first
                (λ named. (rival, Contains_from_is_in (npre_of s.choice x) p.id named))
            | inr second ↦ one_if (is_in (npre_of s.choice p.id) x) (ForbiddenBy p.id) k second
                (λ named. (rival, Contains_from_is_in (npre_of s.choice p.id) x named))
          ]
          | inr later ↦ shares_say p.id rival p.apart apart k later
        ]

    module _ (conflicts : List Conflict) (all : AreConflicts s lines x conflicts) where
      abbrev by_deletion : List Conflict
      by_deletion = flat_map (deletions_by s x) (deleters lines x)

      abbrev by_partners : List Conflict
      by_partners = flat_map (clashes_with s x) all.partners

      conflict_says : (k : Conflict) → Contains conflicts k → SaysConflict k
      conflict_says k is =
          elim (Contains-append_cases by_deletion by_partners k (subst (λ l. Contains l k) all.conflicts_are is)) [
            | inl first ↦
                let from = flat_in (deletions_by s x) (deleters lines x) k first in
                deletion_says from.0 from.1 k from.2
            | inr later ↦
                let from = flat_in (clashes_with s x) all.partners k later in
                let p = from.0 in
                let it = in_beside (λ n y p. IsPartner s x y p) (clashing lines x) all.partners all.are_partners p
                from.1 in
                let rival = subst (IsRival s x) (sym it.3.0) (clashing_in it.0 it.2) in
                let apart = subst (λ y. IsApart s x y p.apart) (sym it.3.0) it.3.1 in
                clash_says p rival apart k from.2
          ]

      -- what is told witnesses the test
      pub witnesses_by : (t : Test) (k : Conflict) → Contains conflicts k → conflict_reason t k ≢ []
          → ConflictWitnesses s x t k
      witnesses_by t k is some = by t k (conflict_says k is) some
        where
          by : (t : Test) (k : Conflict) → SaysConflict k → conflict_reason t k ≢ [] → ConflictWitnesses s x t k
          by ChainDeleted (Deletes y z) says some = says
          by ChainDeleted (Forbids y) says some = absurd (some refl)
          by ChainDeleted (ForbiddenBy y) says some = absurd (some refl)
          by ChainDeleted (Shares e) says some = absurd (some refl)
          by InClash (Deletes y z) says some = absurd (some refl)
          by InClash (Forbids y) says some = says
          by InClash (ForbiddenBy y) says some = says
          by InClash (Shares e) says some = says
          by t (Deletes y z) says some = absurd (some refl)
          by t (Forbids y) says some = absurd (some refl)
          by t (ForbiddenBy y) says some = absurd (some refl)
          by t (Shares e) says some = absurd (some refl)

      -- ---- what there is

      -- a conflict that is told of the test
      abbrev pub IsToldBy : Test → Type 0
      IsToldBy t = (k : Conflict) × Contains conflicts k × (conflict_reason t k ≢ [])

      pub deletion_told_by : IsChainDeleted s x → (y z : Id) → x ≢ y → PassesAlone s y → Contains (del_of s.choice y) z
          → Contains (chain s.global s.choice x) z → IsToldBy ChainDeleted
      deletion_told_by fails y z apart alone names within = (
        Deletes y z,
        subst (λ l. Contains l (Deletes y z)) (sym all.conflicts_are)
            (Contains-append_left by_deletion by_partners (Deletes y z)
            (in_flat (deletions_by s x) (deleters lines x) y (Deletes y z) (in_deleter fails y apart alone)
            (in_flat (deletion_of s x y) (del_of s.choice y) z (Deletes y z) names
            (in_one (is_in (chain s.global s.choice x) z) (Deletes y z)
            (is_in_from_Contains (chain s.global s.choice x) z within))))),
        cons_some 32 _,
      )

      -- a conflict with a partner
      partner_told : (p : Partner) → Contains all.partners p → (k : Conflict) → Contains (clashes_with s x p) k
          → conflict_reason InClash k ≢ [] → IsToldBy InClash
      partner_told p is k within some = (
        k,
        subst (λ l. Contains l k) (sym all.conflicts_are) (Contains-append_right by_deletion by_partners k
            (in_flat (clashes_with s x) all.partners p k is within)),
        some,
      )

      -- an element that they may not share
      shared_told : (p : Partner) → Contains all.partners p → (y : Id) → p.id ≡ y → IsApart s x y p.apart
          → ShareElement s.global x y → MayNotShare s x y → IsToldBy InClash
      shared_told p is y same apart (type, name, has, too) may =
          let it = by p.apart apart in
          partner_told p is it.0 (Contains-append_right _ (shares s x p.id p.apart) it.0 it.1) it.2
        where
          by : (how : Option Apart) → IsApart s x y how
              → (k : Conflict) × Contains (shares s x p.id how) k × (conflict_reason InClash k ≢ [])
          by None (owners, ordered) = absurd (elim may [
            | inl other ↦ other owners
            | inr unordered ↦ elim ordered [ inl over ↦ unordered.0 over | inr under ↦ unordered.1 under ]
          ])
          by (Some how) apart =
              let h = change_found s.global x type name has in
              let e : SharedElement = record { with = p.id; elem_type = h.0.elem_type; name = h.0.name; apart = how } in
              let changes : IsTrue (has_change s.global p.id h.0.elem_type h.0.name) =
              subst (λ w. IsTrue (has_change s.global w h.0.elem_type h.0.name)) (sym same)
              (subst₂ (λ t n. IsTrue (has_change s.global y t n)) (sym h.2) (sym h.3) too) in (
                Shares e,
                in_flat (share_of s.global p.id how) (changes_of s.global x) h.0 (Shares e) h.1
                    (in_one (has_change s.global p.id h.0.elem_type h.0.name) (Shares e) changes),
                cons_some 32 _,
              )

      clash_told_by : (p : Partner) → Contains all.partners p → (y : Id) → p.id ≡ y → IsApart s x y p.apart
          → Clash s x y → IsToldBy InClash
      clash_told_by p is y same apart (inl names) =
          partner_told p is (Forbids p.id) (Contains-append_left _ (shares s x p.id p.apart) _
          (Contains-append_left _ _ _ (in_one (is_in (npre_of s.choice x) p.id) (Forbids p.id)
          (is_in_from_Contains (npre_of s.choice x) p.id (subst (Contains (npre_of s.choice x)) (sym same) names)))))
          (cons_some 32 _)
      clash_told_by p is y same apart (inr (inl named)) =
          partner_told p is (ForbiddenBy p.id) (Contains-append_left _ (shares s x p.id p.apart) _
          (Contains-append_right _ _ _ (in_one (is_in (npre_of s.choice p.id) x) (ForbiddenBy p.id)
          (is_in_from_Contains (npre_of s.choice p.id) x
          (subst (λ w. Contains (npre_of s.choice w) x) (sym same) named)))))
          (cons_some 32 _)
      clash_told_by p is y same apart (inr (inr both)) = shared_told p is y same apart both.0 both.1

      pub clash_told : IsInClash s x → IsToldBy InClash
      clash_told fails =
          let y = fails.1.0 in
          let too : IsInClash s y = (fails.1.1, (x, fails.0, λ same. fails.1.2 (sym same), turned y fails.1.3)) in
          let it = beside_in (λ n y p. IsPartner s x y p) (clashing lines x) all.partners all.are_partners y
          (in_clashing fails y fails.1.2 too) in
          clash_told_by it.0 it.2 y it.3.0 it.3.1 fails.1.3
        where
          turned : (y : Id) → Clash s x y → Clash s y x
          turned y (inl names) = inr (inl names)
          turned y (inr (inl named)) = inl named
          turned y (inr (inr ((type, name, has, too), may))) = inr (inr ((type, name, too, has), apart may))
            where
              apart : MayNotShare s x y → MayNotShare s y x
              apart (inl other) = inl (λ same. other (sym same))
              apart (inr unordered) = inr (unordered.1, unordered.0)
