-- The tests that candidates fail.
use Rattle.std.proofs.Common.{◌≡◌, Bool, true, false, List, [], ◌∷◌, Option, Some, None, refl, ap, sym, not, IsTrue}
use Rattle.std.proofs.Common.{true≢false}
use Rattle.std.specs.Prelude.{◌↔◌, ◌≢◌, ◌&&◌, ◌||◌, ◌==◌, IsFalse, is_some}
use Rattle.std.specs.List.{list_any}
use Rattle.std.specs.Option.{option_and_then, option_map_or}
use Rattle.std.proofs.lemmas.Bool.{not-true}
use Rattle.std.proofs.lemmas.List.Folds.{Any-from_list_any, list_any-from_Any}
use Rattle.terms.specs.declared.codes.Test.{Test}
use Rattle.terms.specs.declared.codes.Test.TheVariants.{HeldBySystem, HeldByUser, ForbiddenByNpre, OwnedByAnother}
use Rattle.terms.specs.declared.codes.Test.TheVariants.{Regression, NothingToUpdate, NotInTarget, ChainDeleted}
use Rattle.terms.specs.declared.codes.Test.TheVariants.{InClash, AlreadyAccepted, HasDelete, OtherLevel, SeveralFit}
use Rattle.terms.specs.Types.{Id, Applied, Entry, Element, Change, Zone}
use Rattle.terms.specs.Lookups.{is_nil, applied_of, element_of, entry_of, is_applied, changes_of}
use Rattle.terms.specs.Choice.{del_of}
use Rattle.terms.specs.Restore.{Restoring, FailsRestore, are_alike, is_alike, may_return}
use Rattle.undo.specs.RestoreTests.{is_behind, fails_test}

-- ---- an element that may return

alike_applied : (a b : Zone) (x : Id) → is_alike a b x ≡ true → is_applied a x ≡ true
alike_applied a b x on = by (entry_of a x) on
  where
    dated : (o : Option Applied)
        → option_map_or (λ n. option_map_or (λ m. n.number == m.number) (applied_of b x) false) o false ≡ true
        → is_some o ≡ true
    dated None e = absurd (true≢false (sym e))
    dated (Some n) e = refl

    by : (o : Option Entry)
        → option_map_or (λ n. option_map_or (λ m. n.number == m.number) (applied_of b x) false)
        (option_and_then (λ e. e.applied) o) false ≡ true
        → option_map_or (λ e. is_some e.applied) o false ≡ true
    by None e = absurd (true≢false (sym e))
    by (Some v) e = dated v.applied e

none_missing : (a b : Zone) (ids : List Id) → list_any (λ y. not (is_alike a b y)) ids ≡ false
    → list_any (λ y. not (is_applied a y)) ids ≡ false
none_missing a b [] e = refl
none_missing a b (y ∷ ys) e = by (none_missing a b ys) (is_alike a b y) refl e
  where
    by : (list_any (λ v. not (is_alike a b v)) ys ≡ false → list_any (λ v. not (is_applied a v)) ys ≡ false)
        → (k : Bool) → is_alike a b y ≡ k → (not k || list_any (λ v. not (is_alike a b v)) ys) ≡ false
        → (not (is_applied a y) || list_any (λ v. not (is_applied a v)) ys) ≡ false
    by rest true on none = rw (alike_applied a b y on) (rest none)
    by rest false off none = absurd (true≢false none)

and_false : (b : Bool) → (b && false) ≡ false
and_false true = refl
and_false false = refl

-- what is alike is applied, so one question is enough
one_question : (f applied alike missing unlike : Bool) → (alike ≡ true → applied ≡ true)
    → (unlike ≡ false → missing ≡ false)
    → (not (not f || (not applied || missing)) && not (not alike || unlike)) ≡ (f && not (not alike || unlike))
one_question false applied alike missing unlike g h = refl
one_question true applied false missing unlike g h = and_false (not (not applied || missing))
one_question true applied true missing true g h = and_false (not (not applied || missing))
one_question true applied true missing false g h = rw (g refl, h refl) refl

pub returns_by : (r : Restoring) (e : Element)
    → may_return r e ≡ (is_applied r.zone e.fmid && are_alike r.zone r.accepted e)
returns_by r e =
    one_question (is_applied r.zone e.fmid) (is_applied r.zone e.rmid) (is_alike r.zone r.accepted e.rmid)
    (list_any (λ y. not (is_applied r.zone y)) e.umids)
    (list_any (λ y. not (is_alike r.zone r.accepted y)) e.umids)
    (alike_applied r.zone r.accepted e.rmid) (none_missing r.zone r.accepted e.umids)

-- ---- the tests

behind_is : (r : Restoring) (h : Change) → is_behind r h ≡ true
    ↔ IsFalse (option_map_or (may_return r) (element_of r.accepted h.elem_type h.name) true)
behind_is r h = by (element_of r.accepted h.elem_type h.name)
  where
    by : (o : Option Element) → option_map_or (λ e. not (may_return r e)) o false ≡ true
        ↔ IsFalse (option_map_or (may_return r) o true)
    by None = (λ e. absurd (cc e), λ e. absurd (cc e))
    by (Some e) = (λ on. not-true (may_return r e) on, λ off. ap not off)

nil_is : (xs : List Id) → not (is_nil xs) ≡ true ↔ (xs ≢ [])
nil_is [] = (λ e. absurd (cc e), λ apart. absurd (apart refl))
nil_is (x ∷ xs) = (λ e same. cc same, λ apart. refl)

pub fails_is : (r : Restoring) (x : Id) (t : Test) → IsTrue (fails_test r x t) ↔ FailsRestore r x t
fails_is r x AlreadyAccepted = (λ h. h, λ h. h)
fails_is r x HasDelete = nil_is (del_of r.choice x)
fails_is r x OtherLevel = (
  λ on.
      let a = Any-from_list_any (is_behind r) (changes_of r.global x) on in
      (a.0, a.1, a.2, a.3, (behind_is r a.1).0 a.4),
  λ a. list_any-from_Any (is_behind r) (changes_of r.global x) (a.0, a.1, a.2, a.3, (behind_is r a.1).1 a.4),
)
fails_is r x HeldBySystem = (λ e. absurd (cc e), λ e. absurd e)
fails_is r x HeldByUser = (λ e. absurd (cc e), λ e. absurd e)
fails_is r x ForbiddenByNpre = (λ e. absurd (cc e), λ e. absurd e)
fails_is r x OwnedByAnother = (λ e. absurd (cc e), λ e. absurd e)
fails_is r x Regression = (λ e. absurd (cc e), λ e. absurd e)
fails_is r x NothingToUpdate = (λ e. absurd (cc e), λ e. absurd e)
fails_is r x NotInTarget = (λ e. absurd (cc e), λ e. absurd e)
fails_is r x ChainDeleted = (λ e. absurd (cc e), λ e. absurd e)
fails_is r x InClash = (λ e. absurd (cc e), λ e. absurd e)
fails_is r x SeveralFit = (λ e. absurd (cc e), λ e. absurd e)
