-- What an APPLY or ACCEPT decides, from what its parts answer, and that the lines are those of the decision.
use Rattle.std.proofs.Common.{◌≡◌, ◌≢◌, ◌+◌, inl, inr, Bool, true, false, not, List, [], ◌∷◌, ◌++◌, Option, Some}
use Rattle.std.proofs.Common.{IsTrue, filter, map, refl, sym, ap, ◌∙◌, subst, true≢false}
use Rattle.std.specs.Prelude.{◌↔◌, All, Contains, IsPermutation, if◌then◌else◌}
use Rattle.std.proofs.lemmas.Bool.{not-true}
use Rattle.std.proofs.lemmas.List.{map-append, map-id}
use Rattle.std.proofs.lemmas.List.Elements.{All-contains, Contains-get_or, Contains-append_left, Contains-append_right}
use Rattle.std.proofs.lemmas.List.Elements.{Contains-append_cases}
use Rattle.std.proofs.lemmas.List.Kept.{AllPairs-filter}
use Rattle.std.proofs.lemmas.List.Sorted.{IsPermutation-map, IsPermutation-sym, Contains-permutation}
use Rattle.terms.specs.declared.not_chosen.NotChosen.{NotChosen}
use Rattle.terms.specs.Types.{Text, Id, Global, Zone, Bypass, Selection}
use Rattle.terms.specs.Lookups.{IsRising, is_in}
use Rattle.terms.specs.Choice.{place, counting}
use Rattle.terms.specs.Candidates.{AreCandidates, is_installable, not_chosen}
use Rattle.terms.specs.Tests.{Setting}
use Rattle.terms.specs.Needs.{bypassed_ids}
use Rattle.terms.specs.Judged.{setting, install_judging}
use Rattle.terms.proofs.Apart.{AreApart}
use Rattle.terms.proofs.ListMembers.{map_in, in_map, filter_in, in_filter}
use Rattle.terms.proofs.Pairs.{AllPairs_join}
use Rattle.terms.proofs.Ids.{is_in_from_Contains, Contains_from_is_in, apart_from_rising}
use Rattle.machine.specs.Outcome.{Status, Superseded, Failure, Failed, Line}
use Rattle.machine.specs.Installing.{Decision, IsDecision, IsFailure, HasStatus, IsInstalled, IsSuperseded}
use Rattle.machine.specs.Installing.{IsFailed, IsNotChosen}
use Rattle.machine.specs.Installing.{AreInstallLines, installed_status, not_chosen_status}
use Rattle.terms.specs.Install.{TakesEffect}
use Rattle.smpe_service.specs.Decided.{IsDecided}
use Rattle.smpe_service.specs.Statuses.{kept_status, kept_statuses, failed_statuses, left_out_statuses}
use Rattle.smpe_service.specs.Statuses.{all_statuses, AreById}
use Rattle.smpe_service.proofs.ById.{rises_by_id}
use Rattle.smpe_service.proofs.Bypassed.{kept_cand}
use Rattle.smpe_service.proofs.InstallLines.{are_install_lines}

-- lists without doubles that share nothing have none together
apart_both : {X : Type 0} (xs ys : List X) → AreApart xs → AreApart ys → ((x : X) → Contains xs x → Contains ys x → ⊥)
    → AreApart (xs ++ ys)
apart_both xs ys front back off =
    AllPairs_join (λ a b. a ≢ b) xs ys front back (λ i d below. λ j e within same.
    off _ (subst (Contains xs) same (Contains-get_or xs i d below)) (Contains-get_or ys j e within))

-- the ids of what is made of a list
ids_of : {X V : Type 0} (id : X → Id) (value : X → V) (xs : List X)
    → map (λ (p : Id × V). p.0) (map (λ x. (id x, value x)) xs) ≡ map id xs
ids_of id value [] = refl
ids_of id value (x ∷ xs) = ap (λ ys. id x ∷ ys) (ids_of id value xs)

-- what may be installed and is left out is excluded or not named, and has no reason
no_reason : (g : Global) (zone : Zone) (sel : Selection) (x : Id) (why : NotChosen) → is_installable g zone x ≡ true
    → not_chosen g zone sel x ≡ Some why → ⊥
unfolding not_chosen
no_reason g zone sel x why ok is = by (is_in (sel.select ++ sel.group) x) (is_in sel.exclude x) refl refl
  where
    by : (named excluded : Bool) → is_in (sel.select ++ sel.group) x ≡ named → is_in sel.exclude x ≡ excluded → ⊥
    by false excluded n e = let none = rw n at is in absurd cc
    by true true n e = let none = rw (n, e) at is in absurd cc
    by true false n e = let none = rw (n, e, ok) at is in absurd cc

module _ (g : Global) (zone : Zone) (related : Option Zone) (sel : Selection) (bypass : Bypass) (date : Text)
    (cands kept : List Id) (failed : List (Id × Failure))
    (are : AreCandidates g zone sel cands)
    (ok : All (λ x. IsTrue (is_installable g zone x)) cands)
    (decided : IsDecided (setting g zone related cands bypass) kept failed) where
  abbrev s : Setting
  s = setting g zone related cands bypass

  cand : (x : Id) → Contains kept x → Contains cands x
  cand = kept_cand s kept failed decided

  installable : (x : Id) → Contains cands x → IsTrue (is_installable g zone x)
  installable x h = All-contains (λ y. IsTrue (is_installable g zone y)) cands x ok h

  -- with the pairs of a kept id and a bypassed requisite of it
  abbrev pub decision : List (Id × Id) → Decision
  decision bypassed = record {
    setting = setting g zone related cands bypass;
    survivors = decided.survivors;
    kept = kept;
    installing = record {
      global = g;
      choice = counting g zone cands;
      number = λ x. place g zone cands x + 1;
      zone = zone;
      kept = kept;
      bypassed = bypassed;
      date = date;
    };
  }

  pub decides : (bypassed : List (Id × Id))
      → ((x z : Id) → Contains bypassed (x, z) ↔ (Contains kept x × Contains (bypassed_ids s x) z))
      → IsDecision g zone related sel bypass date (decision bypassed)
  decides bypassed are_bypassed = record {
    cands = cands;
    candidates = are;
    setting = refl;
    survivors = decided.are_survivors;
    kept = record {
      survivors = decided.survivors;
      are_survivors = decided.are_survivors;
      rising = decided.are_decided.rising;
      members = decided.are_decided.members;
    };
    bypassed = bypassed;
    are_bypassed = are_bypassed;
    installing = refl;
  }

  abbrev failed_ids : List Id
  failed_ids = filter (λ x. not (is_in kept x)) cands

  not_kept : (x : Id) → Contains failed_ids x → ¬ Contains kept x
  not_kept x h k =
      let off = not-true (is_in kept x) (filter_in (λ y. not (is_in kept y)) cands x h).1 in
      true≢false (sym (is_in_from_Contains kept x k) ∙ off)

  or_kept : (x : Id) → Contains cands x → (¬ Contains kept x) → Contains failed_ids x
  or_kept x h off = in_filter (λ y. not (is_in kept y)) cands x h (by (is_in kept x) refl)
    where
      by : (b : Bool) → is_in kept x ≡ b → not (is_in kept x) ≡ true
      by true e = absurd (off (Contains_from_is_in kept x e))
      by false e = ap not e

  module _ (bypassed : List (Id × Id)) (effective : List Id)
      (in_effect : (x : Id) → Contains effective x ↔ TakesEffect (decision bypassed).installing x)
      (left_out : List (Id × NotChosen)) (rising : IsRising (map (λ f. f.0) left_out))
      (members : (x : Id) (why : NotChosen) → Contains left_out (x, why) ↔ (not_chosen g zone sel x ≡ Some why)) where
    abbrev all : List (Id × Status)
    all = all_statuses zone.kind effective kept failed left_out

    abbrev left_ids : List Id
    left_ids = map (λ f. f.0) left_out

    all_ids : map (λ p. p.0) all ≡ kept ++ failed_ids ++ left_ids
    all_ids =
        let front : List (Id × Status) = kept_statuses zone.kind effective kept in
        let middle : List (Id × Status) = failed_statuses failed in
        let back : List (Id × Status) = left_out_statuses left_out in
        let id : Id × Status → Id = λ p. p.0 in
        let a : map id front ≡ kept = ids_of (λ (x : Id). x) (kept_status zone.kind effective) kept ∙ map-id kept in
        let b : map id middle ≡ failed_ids =
        ids_of (λ (f : Id × Failure). f.0) (λ f. Failed f.1) failed ∙ decided.are_decided.ids in
        let c : map id back ≡ left_ids = ids_of (λ (f : Id × NotChosen). f.0) (λ f. not_chosen_status f.1) left_out in
        map-append id (front ++ middle) back
        ∙ ap (λ xs. xs ++ map id back) (map-append id front middle)
        ∙ ap (λ xs. xs ++ map id middle ++ map id back) a
        ∙ ap (λ xs. kept ++ xs ++ map id back) b
        ∙ ap (λ xs. kept ++ failed_ids ++ xs) c

    apart_from_left : (x : Id) → Contains (kept ++ failed_ids) x → Contains left_ids x → ⊥
    apart_from_left x h out =
        let m = map_in (λ (f : Id × NotChosen). f.0) left_out x out in
        let why : not_chosen g zone sel x ≡ Some m.0.1 = ap (not_chosen g zone sel) (sym m.2)
        ∙ (members m.0.0 m.0.1).0 m.1 in
        no_reason g zone sel x m.0.1 (installable x (elim (Contains-append_cases kept failed_ids x h) [
          | inl k ↦ cand x k
          | inr f ↦ (filter_in (λ y. not (is_in kept y)) cands x f).0
        ])) why

    all_apart : AreApart (map (λ p. p.0) all)
    all_apart =
        subst AreApart (sym all_ids)
        (apart_both (kept ++ failed_ids) left_ids
        (apart_both kept failed_ids (apart_from_rising kept decided.are_decided.rising)
        (AllPairs-filter (λ a b. a ≢ b) (λ x. not (is_in kept x)) cands (apart_from_rising cands are.rising))
        (λ x k f. not_kept x f k))
        (apart_from_rising left_ids rising) apart_from_left)

    -- each status is one of the id
    has_status : (p : Id × Status) → Contains all p → HasStatus (decision bypassed) sel p.0 p.1
    has_status p h =
        elim (Contains-append_cases (kept_statuses zone.kind effective kept ++ failed_statuses failed)
        (left_out_statuses left_out) p h) [
          | inl first ↦
              elim (Contains-append_cases (kept_statuses zone.kind effective kept) (failed_statuses failed) p first)
              [ inl k ↦ of_kept k | inr f ↦ of_failed f ]
          | inr out ↦ of_left out
        ]
      where
        of_kept : Contains (kept_statuses zone.kind effective kept) p → HasStatus (decision bypassed) sel p.0 p.1
        of_kept k =
            let m = map_in (λ (x : Id). (x, kept_status zone.kind effective x)) kept p k in
            subst (λ q. HasStatus (decision bypassed) sel q.0 q.1) m.2 (by m.0 m.1 (is_in effective m.0) refl)
          where
            by : (x : Id) → Contains kept x → (b : Bool) → is_in effective x ≡ b
                → HasStatus (decision bypassed) sel x (kept_status zone.kind effective x)
            by x in_kept true e =
                let here = (in_effect x).0 (Contains_from_is_in effective x e) in
                subst (λ b. HasStatus (decision bypassed) sel x (if b then installed_status zone.kind else Superseded))
                (sym e) (IsInstalled here)
            by x in_kept false e =
                let off : ¬ TakesEffect (decision bypassed).installing x =
                λ takes. true≢false (sym (is_in_from_Contains effective x ((in_effect x).1 takes)) ∙ e) in
                subst (λ b. HasStatus (decision bypassed) sel x (if b then installed_status zone.kind else Superseded))
                (sym e) (IsSuperseded in_kept off)

        of_failed : Contains (failed_statuses failed) p → HasStatus (decision bypassed) sel p.0 p.1
        of_failed f =
            let m = map_in (λ (f : Id × Failure). (f.0, Failed f.1)) failed p f in
            let id : Contains failed_ids m.0.0 = subst (λ xs. Contains xs m.0.0) decided.are_decided.ids
            (in_map (λ (f : Id × Failure). f.0) failed m.0 m.1) in
            let why = All-contains (λ f. IsFailure (install_judging s decided.survivors) kept f.0 f.1) failed m.0
            decided.are_decided.failures m.1 in
            subst (λ q. HasStatus (decision bypassed) sel q.0 q.1) m.2 (IsFailed m.0.1
            (filter_in (λ y. not (is_in kept y)) cands m.0.0 id).0 (not_kept m.0.0 id) why)

        of_left : Contains (left_out_statuses left_out) p → HasStatus (decision bypassed) sel p.0 p.1
        of_left out =
            let m = map_in (λ (f : Id × NotChosen). (f.0, not_chosen_status f.1)) left_out p out in
            subst (λ q. HasStatus (decision bypassed) sel q.0 q.1) m.2 (IsNotChosen m.0.1 ((members m.0.0 m.0.1).0 m.1))

    -- each id with a status is there
    listed : (x : Id) {st : Status} → HasStatus (decision bypassed) sel x st
        → Contains (kept ++ failed_ids ++ left_ids) x
    listed x (IsInstalled i) = Contains-append_left (kept ++ failed_ids) left_ids x
        (Contains-append_left kept failed_ids x i.kept)
    listed x (IsSuperseded k _) = Contains-append_left (kept ++ failed_ids) left_ids x
        (Contains-append_left kept failed_ids x k)
    listed x (IsFailed f c off _) = Contains-append_left (kept ++ failed_ids) left_ids x
        (Contains-append_right kept failed_ids x (or_kept x c off))
    listed x (IsNotChosen why is) =
        Contains-append_right (kept ++ failed_ids) left_ids x
        (in_map (λ (f : Id × NotChosen). f.0) left_out (x, why) ((members x why).1 is))

    pub install_lines : (lines : List Line) → AreById g all lines → AreInstallLines (decision bypassed) sel lines
    install_lines lines made =
        let same : IsPermutation (map (λ p. p.0) all) (map (λ p. p.0) made.found) =
        IsPermutation-map (λ p. p.0) all made.found made.by_id.same in
        are_install_lines (decision bypassed) sel made.found lines
        (rises_by_id all made.found made.by_id.same made.by_id.sorted all_apart) made.lines_are
        (λ p h. has_status p (Contains-permutation made.found all p (IsPermutation-sym all made.found made.by_id.same)
        h))
        (λ x st h. Contains-permutation (map (λ p. p.0) all) (map (λ p. p.0) made.found) x same
        (subst (λ xs. Contains xs x) (sym all_ids) (listed x h)))
