-- SYSMODs that wait: what the tables hold without them, and how one call goes behind another.
use Rattle.std.proofs.Common.{◌≡◌, ℕ, ◌<◌, ◌+◌, false, List, [], ◌∷◌, ◌++◌, length, take, get_or, Option, Some}
use Rattle.std.proofs.Common.{Result, Ok, Err, IsErrAnd, OnOk, refl, sym, ap, subst, ◌∙◌, rules}
use Rattle.std.specs.Option.{option_map_or}
use Rattle.std.specs.Str.{bytes_eq}
use Rattle.std.proofs.lemmas.List.Sums.{fold-append, fold_more}
use Rattle.sqlite.specs.Store.{Ghosts}
use Rattle.sqlite.specs.Held.{Held, state}
use Rattle.sqlite.specs.declared.error.Error.{Error}
use Rattle.terms.specs.Types.{Text, Id, Hold, Sysmod, Global}
use Rattle.terms.specs.Global.{with_sysmod}
use Rattle.terms.specs.Lookups.{is_received, sysmod_of}
use Rattle.terms.proofs.Searches.{find_passes}
use Rattle.terms.proofs.TextOrder.{same_from}
use Rattle.sysmods.specs.declared.edit.GlobalEdit.{GlobalEdit}
use Rattle.sysmods.specs.Edits.{AreSources, stated_with, Fits, after_edit, EachFits, after_edits}
use Rattle.store_rows.specs.Calls.{Call, RunsInside}
use Rattle.store_rows.specs.Inside.{StaysInside, Leads}
use Rattle.store_rows.specs.Rows.{HasContents}
use Rattle.store_rows.proofs.CallLemmas.{follows_err, runs_then, runs_err}
use Rattle.store_rows.proofs.InsideLemmas.{on_ok, on_ok_of, leads_then}
use Rattle.store_schema.specs.Inventory.{Inventory}
use Rattle.store_schema.specs.Stands.{rows_of}
use Rattle.store_schema.specs.Tables.{store_schema}
use Rattle.store_sysmods.specs.Calls.{insert_sysmods_calls}
use Rattle.store_sysmods.specs.Sysmods.{AddsSysmods, AreNew, AreWaitingRows, with_sysmods, ChangesGlobal, sourced}
use Rattle.store_sysmods.specs.declared.sysmod_rows.SysmodRows.{SysmodRows}
use Rattle.store.specs.Calls.{Progress, behind_waiting, progress_of, edits_calls, with_edit, with_waiting}
use Rattle.store.specs.Waiting.{HoldsBut, ChangesBut, Waits}
use Rattle.store.proofs.EditCalls.{behind, calls_behind, course_more}

-- ---- SYSMODs and holds do not meet

abbrev pub with_holds : (List Hold → List Hold) → Global → Global
with_holds f global = record global { holds = f global.holds }

sysmods_beside : (f : List Hold → List Hold) (ss : List Sysmod) (global : Global)
    → with_sysmods ss (with_holds f global) ≡ with_holds f (with_sysmods ss global)
sysmods_beside f [] global = refl
sysmods_beside f (s ∷ ss) global = sysmods_beside f ss (with_sysmod global s)

new_beside : (f : List Hold → List Hold) (ss : List Sysmod) (global : Global) → AreNew ss global
    → AreNew ss (with_holds f global)
new_beside f [] global new = tt
new_beside f (s ∷ ss) global new = (new.0, new_beside f ss (with_sysmod global s) new.1)

-- ---- one SYSMOD more

sysmods_more : (ss : List Sysmod) (s : Sysmod) (global : Global)
    → with_sysmods (ss ++ s ∷ []) global ≡ with_sysmod (with_sysmods ss global) s
sysmods_more ss s global = fold-append with_sysmod global ss (s ∷ [])

new_more : (ss : List Sysmod) (s : Sysmod) (global : Global) → AreNew ss global
    → is_received (with_sysmods ss global) s.id ≡ false → AreNew (ss ++ s ∷ []) global
new_more [] s global new none = (none, tt)
new_more (t ∷ ss) s global new none = (new.0, new_more ss s (with_sysmod global t) new.1 none)

module _ {S : Type 0} (g : Ghosts S) where
  -- ---- what the tables hold

  -- holds change at once
  pub holds_but : (ss : List Sysmod) (f : List Hold → List Hold) (a b : Held S)
      → ChangesGlobal g a b (λ global. Unit {0}) (with_holds f)
      → ChangesBut g a b ss ss (λ global. Unit {0}) (with_holds f)
  holds_but ss f a b changes i fits clean was = (
    with_holds f was.0,
    new_beside f ss was.0 was.1,
    sysmods_beside f ss was.0 ∙ ap (with_holds f) was.2,
    changes (record i { global = was.0 }) tt clean was.3,
  )

  -- one more waits
  pub more_but : (ss : List Sysmod) (s : Sysmod) (a : Held S)
      → ChangesBut g a a ss (ss ++ s ∷ []) (λ global. is_received global s.id ≡ false) (λ global. with_sysmod global s)
  more_but ss s a i none clean was = (
    was.0,
    new_more ss s was.0 was.1 (subst (λ global. is_received global s.id ≡ false) (sym was.2) none),
    sysmods_more ss s was.0 ∙ ap (λ global. with_sysmod global s) was.2,
    was.3,
  )

  -- those that wait are written
  pub written_but : (ss : List Sysmod) (a b : Held S) → AddsSysmods g a b ss
      → ChangesBut g a b ss [] (λ global. Unit {0}) (λ global. global)
  written_but ss a b adds i fits clean was =
      (with_sysmods ss was.0, tt, was.2, adds (record i { global = was.0 }) was.1 clean was.3)

  -- where none waits, the tables hold all
  none_but : (i : Inventory) (at : Held S) → HoldsBut [] i (state g at).now
      → HasContents store_schema (rows_of i) (state g at).now
  none_but i at was =
      subst (λ global. HasContents store_schema (rows_of (record i { global = global })) (state g at).now) was.2 was.3

  pub changes_but : (a b : Held S) (Fits : Global → Type 0) (make : Global → Global) → ChangesGlobal g a b Fits make
      → ChangesBut g a b [] [] Fits make
  changes_but a b Fits make changes i fits clean was =
      (make i.global, tt, refl, changes i fits clean (none_but i a was))

  pub but_changes : (a b : Held S) (Fits : Global → Type 0) (make : Global → Global) → ChangesBut g a b [] [] Fits make
      → ChangesGlobal g a b Fits make
  but_changes a b Fits make changes i fits clean was =
      none_but (record i { global = make i.global }) b (changes i fits clean (i.global, tt, refl, was))

  pub but_then : (a b c : Held S) (xs ys zs : List Sysmod) (F H : Global → Type 0) (f h : Global → Global)
      → StaysInside g b c → ChangesBut g a b xs ys F f → ChangesBut g b c ys zs H h
      → ChangesBut g a c xs zs (λ x. F x × H (f x)) (λ x. h (f x))
  but_then a b c xs ys zs F H f h inside one two i fits =
      let mid : Inventory = record i { global = f i.global } in
      leads_then g a b c (HoldsBut xs i) (HoldsBut ys mid) (HoldsBut zs (record mid { global = h mid.global })) inside
      (one i fits.0) (two mid fits.1)

  pub but_as : (a b : Held S) (xs ys : List Sysmod) (F H : Global → Type 0) (f h : Global → Global)
      → ((x : Global) → H x → F x) → ((x : Global) → f x ≡ h x) → ChangesBut g a b xs ys F f
      → ChangesBut g a b xs ys H h
  but_as a b xs ys F H f h fits same changes i suits =
      subst (λ global. Leads g a b (HoldsBut xs i) (HoldsBut ys (record i { global = global }))) (same i.global)
      (changes i (fits i.global suits))

  -- ---- calls

  -- holds were changed
  pub waits_beside : (ss : List Sysmod) (f : List Hold → List Hold) (calls : List Call) (a b : Held S)
      (rows : SysmodRows) (r : Result (Unit {0}) Error) → AreWaitingRows rows ss → RunsInside g calls a b r
      → OnOk r (ChangesGlobal g a b (λ global. Unit {0}) (with_holds f))
      → Waits g ss (calls, ss) (λ global. Unit {0}) (with_holds f) a b rows r
  waits_beside ss f calls a b rows r are runs ok = record {
    runs = runs;
    waits = on_ok_of r are;
    ok = on_ok r _ _ (holds_but ss f a b) ok;
  }

  -- those that waited were written
  pub waits_written : (ss : List Sysmod) (a b : Held S) (rows : SysmodRows) → AreWaitingRows rows []
      → RunsInside g (insert_sysmods_calls ss) a b {X = Unit {0}} (Ok tt) → AddsSysmods g a b ss
      → Waits g ss (insert_sysmods_calls ss, []) (λ global. Unit {0}) (λ global. global) a b rows (Ok tt)
  waits_written ss a b rows are runs adds = record {
    runs = runs;
    waits = are;
    ok = written_but ss a b adds;
  }

  -- none waits
  pub waits_alone : (calls : List Call) (F : Global → Type 0) (f : Global → Global) (a b : Held S)
      (rows : SysmodRows) (r : Result (Unit {0}) Error) → AreWaitingRows rows [] → RunsInside g calls a b r
      → OnOk r (ChangesGlobal g a b F f) → Waits g [] (calls, []) F f a b rows r
  waits_alone calls F f a b rows r are runs ok = record {
    runs = runs;
    waits = on_ok_of r are;
    ok = on_ok r _ _ (changes_but a b F f) ok;
  }

  -- one more waits
  pub waits_more : (ss : List Sysmod) (s : Sysmod) (a : Held S) (rows : SysmodRows) → AreWaitingRows rows (ss ++ s ∷ [])
      → Waits g ss ([], ss ++ s ∷ []) (λ global. is_received global s.id ≡ false) (λ global. with_sysmod global s) a a
      rows (Ok tt)
  waits_more ss s a rows are = record {
    runs = λ clean inside. (refl, inside);
    waits = are;
    ok = more_but ss s a;
  }

  -- a call behind another
  pub waits_then : {xs : List Sysmod} {one two : Progress} {F H : Global → Type 0} {f h : Global → Global}
      {a b c : Held S} {rows more : SysmodRows} {r : Result (Unit {0}) Error} → StaysInside g a b → StaysInside g b c
      → Waits g xs one F f a b rows (Ok tt) → Waits g one.1 two H h b c more r
      → Waits g xs (behind one.0 two) (λ x. F x × H (f x)) (λ x. h (f x)) a c more r
  waits_then {xs = xs} {one = one} {two = two} {F = F} {H = H} {f = f} {h = h} {a = a} {b = b} {c = c} {r = r} within
      inside first last = record {
        runs = runs_then g one.0 two.0 a b c (Ok (tt {0})) tt r within inside refl first.runs last.runs;
        waits = last.waits;
        ok = on_ok r _ _ (but_then a b c xs one.1 two.1 F H f h inside first.ok) last.ok;
      }

  -- the same in other words
  pub waits_as : {xs : List Sysmod} {one two : Progress} {F H : Global → Type 0} {f h : Global → Global}
      {a b : Held S} {rows : SysmodRows} {r : Result (Unit {0}) Error} → one ≡ two → ((x : Global) → H x → F x)
      → ((x : Global) → f x ≡ h x) → Waits g xs one F f a b rows r → Waits g xs two H h a b rows r
  waits_as {xs = xs} {one = one} {two = two} {F = F} {H = H} {f = f} {h = h} {a = a} {b = b} {rows = rows} {r = r} is
      fits same waits =
      subst (λ progress. Waits g xs progress H h a b rows r) is (record {
        runs = waits.runs;
        waits = waits.waits;
        ok = on_ok r _ _ (but_as a b xs one.1 F H f h fits same) waits.ok;
      })

  pub waits_ok : {xs : List Sysmod} {one : Progress} {F : Global → Type 0} {f : Global → Global} {a b : Held S}
      {rows : SysmodRows} {q : Result (Unit {0}) Error} {x : Unit {0}} → q ≡ Ok x → Waits g xs one F f a b rows q
      → Waits g xs one F f a b rows (Ok tt)
  waits_ok {xs = xs} {one = one} {F = F} {f = f} {a = a} {b = b} {rows = rows} is =
      subst (Waits g xs one F f a b rows) is

  -- ---- errors

  none_of_error : (P : Type 0) (r : Result (Unit {0}) Error) (Q : Error → Type 0) → IsErrAnd r Q → OnOk r P
  none_of_error P (Ok x) Q told = absurd told
  none_of_error P (Err e) Q told = tt

  -- the call failed, and none behind it was begun
  pub waits_stops : {xs : List Sysmod} {one : Progress} {F H : Global → Type 0} {f h : Global → Global} {a b : Held S}
      {rows more : SysmodRows} {q : Result (Unit {0}) Error} {e : Error} (last : List Call) (waiting : List Sysmod)
      (r : Result (Unit {0}) Error) → q ≡ Err e → IsErrAnd r (λ z. z ≡ e) → Waits g xs one F f a b rows q
      → Waits g xs (one.0 ++ last, waiting) H h a b more r
  waits_stops {one = one} {a = a} {b = b} {q = q} {e = e} last waiting r failed told first = record {
    runs = runs_err g one.0 last a b q r (search rules) (follows_err q e r failed told) first.runs;
    waits = none_of_error _ r _ told;
    ok = none_of_error _ r _ told;
  }

  -- ---- single edits

  -- behind those that waited
  pub waits_behind : {ss : List Sysmod} (calls : List Call) (F : Global → Type 0) (f : Global → Global) {a b c : Held S}
      {rows : SysmodRows} {q : Result (Unit {0}) Error} {x : Unit {0}} (r : Result (Unit {0}) Error) → q ≡ Ok x
      → StaysInside g a b → StaysInside g b c
      → Waits g ss (insert_sysmods_calls ss, []) (λ global. Unit {0}) (λ global. global) a b rows q
      → RunsInside g calls b c r → OnOk r (ChangesGlobal g b c F f)
      → Waits g ss (behind_waiting ([], ss) calls) F f a c rows r
  waits_behind calls F f {b = b} {c = c} {rows = rows} r is within inside first runs ok =
      let written = waits_ok is first in
      waits_as refl (λ x fits. (tt, fits)) (λ x. refl)
      (waits_then within inside written (waits_alone calls F f b c rows r written.waits runs ok))

  -- the SYSMOD that comes is stated
  pub waits_found : {ss : List Sysmod} (stated : Global) (x : Id) (sources : List Text) (s : Sysmod) {a b : Held S}
      {rows : SysmodRows} {r : Result (Unit {0}) Error} → sysmod_of stated x ≡ Some s
      → Waits g ss (with_waiting ([], ss) (sourced s sources)) (λ global. is_received global s.id ≡ false)
      (λ global. with_sysmod global (sourced s sources)) a b rows r
      → Waits g ss
      (option_map_or (λ t. with_waiting ([], ss) (sourced t sources)) (sysmod_of stated x) ([], ss))
      (λ global. (is_received global x ≡ false) × AreSources sources) (stated_with stated x sources) a b rows r
  waits_found {ss = ss} stated x sources s there waits =
      let passes = find_passes (λ (t : Sysmod). bytes_eq t.id x) stated.sysmods s there in
      let named : x ≡ s.id = sym (same_from s.id x passes) in
      waits_as
      (ap (λ (found : Option Sysmod). option_map_or (λ t. with_waiting ([], ss) (sourced t sources)) found ([], ss))
      (sym there)) (λ global fits. subst (λ y. is_received global y ≡ false) named fits.0)
      (λ global. ap (λ (found : Option Sysmod). option_map_or (λ (t : Sysmod). with_sysmod global (sourced t sources))
      found global) (sym there)) waits

  -- ---- the loop

  module _ (stated : Global) (edits : List GlobalEdit) where
    -- so the first edits go
    abbrev pub FirstGo : ℕ → Held S → Held S → SysmodRows → Type 0
    FirstGo n old new rows =
        Waits g [] (progress_of stated (take n edits)) (EachFits stated edits)
        (after_edits stated (take n edits)) old new
        rows (Ok tt)

    -- and so one more, whatever comes of it
    abbrev pub NextGoes : ℕ → GlobalEdit → Held S → Held S → SysmodRows → Result (Unit {0}) Error → Type 0
    NextGoes n edit old new rows result =
        let waiting = (progress_of stated (take n edits)).1 in
        Waits g waiting (with_edit stated ([], waiting) edit) (λ global. Fits global edit)
        (λ global. after_edit stated global edit) old new rows result

    more_go : (k : ℕ) (edit : GlobalEdit) {a b c : Held S} {rows more : SysmodRows} {q : Result (Unit {0}) Error}
        → k < length edits → edit ≡ get_or edits k edit → StaysInside g a b → StaysInside g b c → FirstGo k a b rows
        → NextGoes k edit b c more q
        → Waits g [] (progress_of stated (take (k + 1) edits)) (EachFits stated edits)
        (after_edits stated (take (k + 1) edits)) a c more q
    more_go k edit within at one two first last =
        waits_as (course_more stated edits k edit within at) (λ x fits. (fits, fits k edit within at))
        (λ x. sym (fold_more (after_edit stated) x edits k edit within
        ∙ ap (after_edit stated (after_edits stated (take k edits) x)) (sym at)))
        (waits_then one two first last)

    -- the next edit is made
    pub edits_go_on : (k : ℕ) (edit : GlobalEdit) {a b c : Held S} {rows more : SysmodRows}
        {q : Result (Unit {0}) Error} {x : Unit {0}} → k < length edits → edit ≡ get_or edits k edit → StaysInside g a b
        → StaysInside g b c → FirstGo k a b rows → q ≡ Ok x → NextGoes k edit b c more q → FirstGo (k + 1) a c more
    edits_go_on k edit within at one two first is last =
        waits_ok is (more_go k edit within at one two first last)

    -- it fails
    pub edits_stop : (k : ℕ) (edit : GlobalEdit) {a b c : Held S} {rows more : SysmodRows}
        {q : Result (Unit {0}) Error} {e : Error} (r : Result (Unit {0}) Error) → k < length edits
        → edit ≡ get_or edits k edit → StaysInside g a b → StaysInside g b c → FirstGo k a b rows → q ≡ Err e
        → IsErrAnd r (λ z. z ≡ e) → NextGoes k edit b c more q → RunsInside g (edits_calls stated edits) a c r
    edits_stop k edit {a = a} {c = c} {more = more} {q = q} {e = e} r within at one two first failed told last =
        let rest = calls_behind stated edits (k + 1) in
        let progress = progress_of stated (take (k + 1) edits) in
        let it : Waits g [] (progress.0 ++ rest.0, []) (λ x. Unit {0}) (λ x. x) a c more r =
        waits_stops rest.0 [] r failed told (more_go k edit within at one two first last) in
        subst (λ calls. RunsInside g calls a c r) rest.1 it.runs

    -- so all of them go
    abbrev pub AllGo : Held S → Held S → SysmodRows → Type 0
    AllGo old new rows =
        Waits g [] (progress_of stated edits) (EachFits stated edits) (after_edits stated edits) old new rows (Ok tt)

    -- all are made, and then those that wait are written
    pub edits_end : {a b c : Held S} {rows : SysmodRows} (r : Result (Unit {0}) Error) → StaysInside g a b
        → StaysInside g b c → AllGo a b rows → RunsInside g (insert_sysmods_calls (progress_of stated edits).1) b c r
        → RunsInside g (edits_calls stated edits) a c r
    edits_end {a = a} {b = b} {c = c} r one two first runs =
        let progress = progress_of stated edits in
        runs_then g progress.0 (insert_sysmods_calls progress.1) a b c (Ok (tt {0})) tt r one two refl first.runs runs

    pub edits_changed : {a b c : Held S} {rows : SysmodRows} (r : Result (Unit {0}) Error) → StaysInside g b c
        → AllGo a b rows → OnOk r (AddsSysmods g b c (progress_of stated edits).1)
        → OnOk r (ChangesGlobal g a c (EachFits stated edits) (after_edits stated edits))
    edits_changed {a = a} {b = b} {c = c} r two first adds =
        let waiting = (progress_of stated edits).1 in
        let make = after_edits stated edits in
        let last = written_but waiting b c in
        on_ok r _ _ (λ added. but_changes a c (EachFits stated edits) make (but_as a c [] []
        (λ x. EachFits stated edits x × Unit {0}) (EachFits stated edits) make make (λ x fits. (fits, tt)) (λ x. refl)
        (but_then a b c [] waiting [] (EachFits stated edits) (λ x. Unit {0}) make (λ x. x) two first.ok
        (last added)))) adds
