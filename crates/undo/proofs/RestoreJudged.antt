-- What is said of the candidates of a RESTORE is so by its tests and needs.
use Rattle.std.proofs.Common.{◌≡◌, inl, inr, Bool, false, List, [], Contains, IsTrue, refl, sym, ◌∙◌, subst, true≢false}
use Rattle.std.proofs.Common.{◌∷◌, ap, ap₂, not, arith, filter, get_or}
use Rattle.std.specs.Prelude.{◌↔◌, ◌&&◌, ◌||◌}
use Rattle.std.specs.List.{list_any}
use Rattle.std.proofs.lemmas.Cmp.{nat_list_cmp_total}
use Rattle.std.proofs.lemmas.List.Elements.{Contains-get_or}
use Rattle.std.proofs.lemmas.List.Kept.{AllPairs-filter}
use Rattle.terms.proofs.RisingAlike.{rises_only}
use Rattle.terms.proofs.Applied.{applied_are}
use Rattle.terms.proofs.Booleans.{same_truth}
use Rattle.terms.proofs.Ids.{Contains_from_is_in, is_in_from_Contains}
use Rattle.terms.proofs.ListMembers.{filter_in, here, in_filter, none_in, there}
use Rattle.terms.specs.declared.codes.NeedKind.{NeedKind}
use Rattle.terms.specs.declared.codes.NeedKind.TheVariants.{Fmid, Pre, Req, Ifreq, HoldError, Orphan, Elem, Dep}
use Rattle.terms.specs.declared.codes.Test.{Test}
use Rattle.terms.specs.Types.{Id, Zone}
use Rattle.terms.specs.Lookups.{IsRising, IsZone, applied_ids, is_applied, is_before, is_in, supplies}
use Rattle.terms.specs.Needs.{Serves, takes_superseder}
use Rattle.terms.specs.Restore.{Restoring, NeedsInRestore, FailsRestore, MayBeRestored, is_supplied_outside}
use Rattle.terms.specs.Restore.{restore_candidates}
use Rattle.judge_system.specs.declared.stated.RequisiteOf.{RequisiteOf}
use Rattle.judge_system.specs.Said.{AreTests}
use Rattle.judge_system.specs.Judged.{AreJudged}
use Rattle.undo.specs.RestoreTests.{fails_test}
use Rattle.undo.specs.Needed.{AreNeeds}
use Rattle.undo.proofs.Testing.{fails_is}

-- the applied ones of a list that rises, in order
pub applied_are_cands : (zone : Zone) (ids left cands : List Id) → left ≡ filter (is_applied zone) ids → IsRising ids
    → IsRising cands → ((x : Id) → Contains cands x ↔ Contains left x) → cands ≡ filter (is_applied zone) ids
applied_are_cands zone ids left cands is rising after same =
    rises_only nat_list_cmp_total (λ x. x) cands left after
    (subst IsRising (sym is) (AllPairs-filter (λ x y. IsTrue (is_before x y)) (is_applied zone) ids rising))
    (λ x. (same x).0) (λ x. (same x).1)
    ∙ is

-- no superseder serves a need of RESTORE
alone : (r : Restoring) (listed : Id → Bool) (x : Id) (kind : NeedKind) (z : Id) → NeedsInRestore r listed x kind z
    → takes_superseder kind ≡ false
alone r listed x Elem z n = refl
alone r listed x Dep z n = refl
alone r listed x Fmid z n = absurd n
alone r listed x Pre z n = absurd n
alone r listed x Req z n = absurd n
alone r listed x Ifreq z n = absurd n
alone r listed x HoldError z n = absurd n
alone r listed x Orphan z n = absurd n

-- ---- a RESTORE sees of its list the candidates alone

any_alike : {X : Type 0} (p q : X → Bool) (xs : List X) → ((x : X) → Contains xs x → p x ≡ q x)
    → list_any p xs ≡ list_any q xs
any_alike p q [] alike = refl
any_alike p q (x ∷ xs) alike =
    ap₂ (λ a b. a || b) (alike x (here x xs)) (any_alike p q xs (λ y h. alike y (there x xs y h)))

needs_by : (r : Restoring) (a b : Id → Bool)
    → ((z : Id) → is_supplied_outside r a z ≡ is_supplied_outside r b z)
    → (x : Id) (kind : NeedKind) (y : Id) → NeedsInRestore r a x kind y → NeedsInRestore r b x kind y
needs_by r a b alike x Elem y n = n
needs_by r a b alike x Dep y n = (
  n.0,
  record {
    other = n.1.other;
    applied = n.1.applied;
    depends = elim n.1.depends [
      | inl function ↦ inl function
      | inr some ↦ inr (some.0, some.1, some.2, some.3, (some.4.0, sym (alike some.1) ∙ some.4.1))
    ];
  },
)
needs_by r a b alike x Fmid y n = n
needs_by r a b alike x Pre y n = n
needs_by r a b alike x Req y n = n
needs_by r a b alike x Ifreq y n = n
needs_by r a b alike x HoldError y n = n
needs_by r a b alike x Orphan y n = n

module _ (r : Restoring) (is_zone : IsZone r.zone) (ids cands : List Id) (are : cands ≡ restore_candidates r ids) where
  listed_alike : (p : Id) → IsTrue (is_applied r.zone p) → is_in cands p ≡ is_in ids p
  listed_alike p on =
      same_truth (is_in cands p) (is_in ids p)
      (λ h. is_in_from_Contains ids p (filter_in (is_applied r.zone) ids p
      (subst (λ l. Contains l p) are (Contains_from_is_in cands p h))).0)
      (λ h. is_in_from_Contains cands p (subst (λ l. Contains l p) (sym are)
      (in_filter (is_applied r.zone) ids p (Contains_from_is_in ids p h) on)))

  outside_alike : (z : Id) → is_supplied_outside r (is_in cands) z ≡ is_supplied_outside r (is_in ids) z
  outside_alike z =
      any_alike (λ p. not (is_in cands p) && supplies r.zone p z) (λ p. not (is_in ids p) && supplies r.zone p z)
      (applied_ids r.zone)
      (λ p h. ap (λ b. not b && supplies r.zone p z) (listed_alike p ((applied_are r.zone is_zone p).0 h)))

  pub needs_alike : (x : Id) (kind : NeedKind) (y : Id)
      → NeedsInRestore r (is_in cands) x kind y ↔ NeedsInRestore r (is_in ids) x kind y
  needs_alike x kind y = (
    needs_by r (is_in cands) (is_in ids) outside_alike x kind y,
    needs_by r (is_in ids) (is_in cands) (λ z. sym (outside_alike z)) x kind y,
  )

-- whatever list they are the candidates of
pub are_judged : (r : Restoring) → IsZone r.zone → (ids cands : List Id) → cands ≡ restore_candidates r ids
    → (rows : List (List Test)) → AreTests (fails_test r) cands rows → (needs : List RequisiteOf)
    → AreNeeds r cands needs
    → AreJudged (FailsRestore r) (MayBeRestored r ids) (NeedsInRestore r (is_in ids)) (Serves r.choice) cands rows
    needs []
are_judged r is_zone ids cands are rows tested needs w = record {
  fails = fails_test r;
  tests_are = tested;
  of = λ k d below.
      let v = get_or needs k d in
      ((w.members v.of v.kind v.id).0 (Contains-get_or needs k d below)).0;
  once = w.once;
  by = λ k d below. absurd (omega (arith, below));
  said = record {
    fails = λ x t own. fails_is r x t;
    eligible = λ x. (
      λ may. (subst (λ l. Contains l x) (sym are) may.cand, may.passes),
      λ both. record { cand = subst (λ l. Contains l x) are both.0; passes = both.1 },
    );
    needs = λ x z kind own. (
      λ h. (needs_alike r is_zone ids cands are x kind z).0 ((w.members x kind z).0 h).1,
      λ need. (w.members x kind z).1 (own, (needs_alike r is_zone ids cands are x kind z).1 need),
    );
    serves = λ x y z kind own need there. (
      λ by. elim by [ inl same ↦ inl same | inr over ↦ absurd (none_in (y, z) over.1) ],
      λ by. elim by [
        | inl same ↦ inl same
        | inr over ↦ absurd (true≢false (sym over.0 ∙ alone r (is_in ids) x kind z need))
      ],
    );
  };
}
