-- Loads one after the other, what becomes of their results, and memory that runs out after them.
use Rattle.std.proofs.Common.{◌≡◌, ◌∙◌, Result, Ok, Err, OnOk, IfOk, refl, sym, ap, arith, inl, inr, subst}
use Rattle.std.specs.Prelude.{IsErrAnd, IsSome, OnErr}
use Rattle.std.proofs.lemmas.Result.{err_from_is_err_and}
use Rattle.sqlite.specs.Store.{Ghosts}
use Rattle.sqlite.specs.Held.{Held}
use Rattle.store_rows.proofs.Queries.{reads_then}
use Rattle.store_schema.specs.Inventory.{Inventory, IsInventory}
use Rattle.store_schema.specs.Tables.{store_schema}
use Rattle.store_schema.specs.declared.error.StoreError.{StoreError}
use Rattle.store_schema.specs.declared.error.StoreError.TheVariants.{Fault, NoState, Memory}
use Rattle.store.specs.declared.change.Change.{Change}
use Rattle.store.specs.Causes.{HasCause, IsLater}
use Rattle.store.specs.Loads.{Loads}
use Rattle.store.proofs.NoState.{loads_read, found_after}
use Rattle.store.proofs.ViewLemmas.{Settled, still_open}

-- a cause since a later moment
pub cause_since : {S : Type 0} (g : Ghosts S) (old mid at : Held S) → IsLater g old mid → (i : Inventory)
    → (IsOwn : Change → Type 0) → HasCause g mid at i IsOwn → HasCause g old at i IsOwn
cause_since g old mid at later i IsOwn cause = record {
  moment = cause.moment;
  since = (omega (arith, later.0, cause.since.0), cause.since.1 ∙ later.1);
  is_open = cause.is_open;
  stands = cause.stands;
  kept = cause.kept;
  why = elim cause.why [
    | inl failed ↦ inl failed
    | inr (inl limited) ↦ inr (inl (subst IsSome later.1 limited))
    | inr (inr refused) ↦ inr (inr refused)
  ];
}

module _ {S X Y : Type 0} (g : Ghosts S) (F : Inventory → X → Type 0) (G : Inventory → Y → Type 0) where
  failed : (old new : Held S) (e : StoreError) → Loads g old new F (Err e) → Loads g old new G (Err e)
  failed old new e loads = record {
    found = λ clean i tables. tt;
    none = λ clean bad. loads.none clean (cc bad);
    reads = record {
      same = λ clean. tt;
      bad = λ clean bad. loads.reads.bad clean (cc bad);
      cause = λ clean failed is. loads.reads.cause clean (cc failed) is;
      kept = loads.reads.kept;
      crash = loads.reads.crash;
      mode = loads.reads.mode;
    };
    cause = λ clean failed i tables. loads.cause clean (cc failed) i tables;
    same = tt;
    err = loads.err;
    which = loads.which;
    crash = loads.crash;
    clean = loads.clean;
  }

  -- an error is handed on
  pub handed_on : (old new : Held S) (e : StoreError) (r : Result Y StoreError) → IsErrAnd r (λ y. y ≡ e)
      → Loads g old new F (Err e) → Loads g old new G r
  handed_on old new e r is loads =
      let p = err_from_is_err_and r is in
      subst (λ q. Loads g old new G q) (sym (p.1 ∙ ap Err p.2)) (failed old new e loads)

  -- something else is answered
  pub answered : (old new : Held S) (x : X) (y : Y) → ((i : Inventory) → IsInventory i → F i x → G i y)
      → Loads g old new F (Ok x) → Loads g old new G (Ok y)
  answered old new x y more loads = record {
    found = λ clean i tables. more i (tables (loads.clean clean)).1.inventory (loads.found clean i tables);
    none = λ clean bad. absurd (cc bad);
    reads = record {
      same = loads.reads.same;
      bad = λ clean bad. absurd (cc bad);
      cause = λ clean failed is. absurd (cc failed);
      kept = loads.reads.kept;
      crash = loads.reads.crash;
      mode = loads.reads.mode;
    };
    cause = λ clean failed i tables. absurd (cc failed);
    same = loads.same;
    err = tt;
    which = tt;
    crash = loads.crash;
    clean = loads.clean;
  }

  short : (old new : Held S) (x : X) → Settled g new → Loads g old new F (Ok x) → Loads g old new G (Err Memory)
  short old new x settled loads = record {
    found = λ clean i tables. tt;
    none = λ clean bad. absurd (cc bad);
    reads = record {
      same = λ clean. tt;
      bad = λ clean bad. absurd (cc bad);
      cause = λ clean failed is. absurd (cc failed);
      kept = loads.reads.kept;
      crash = loads.reads.crash;
      mode = loads.reads.mode;
    };
    cause = λ clean failed i tables. absurd (cc failed);
    same = tt;
    err = λ i tables. still_open g new settled i (λ clean is_open. (loads.same i tables clean).1);
    which = λ is. absurd (cc is);
    crash = loads.crash;
    clean = loads.clean;
  }

  -- memory runs out after loads
  pub ran_short : (old new : Held S) (x : X) (r : Result Y StoreError) → Settled g new → IsErrAnd r (λ y. y ≡ Memory)
      → Loads g old new F (Ok x) → Loads g old new G r
  ran_short old new x r settled is loads =
      let p = err_from_is_err_and r is in
      subst (λ q. Loads g old new G q) (sym (p.1 ∙ ap Err p.2)) (short old new x settled loads)

  -- what both have found
  found_both : (r : Result Y StoreError) (i : Inventory) (x : X) → F i x → IfOk r (G i) → IfOk r (λ y. F i x × G i y)
  found_both (Ok y) i x one two = (one, two)
  found_both (Err e) i x one two = tt

  on_ok : (r : Result Y StoreError) (P Q : Type 0) → (P → Q) → OnOk r P → OnOk r Q
  on_ok (Ok y) P Q more h = more h
  on_ok (Err e) P Q more h = tt

  on_err : (r : Result Y StoreError) (P Q : Type 0) → (P → Q) → OnErr r P → OnErr r Q
  on_err (Ok y) P Q more h = tt
  on_err (Err e) P Q more h = more h

  -- a load that answered, and another one behind it
  pub loads_both : (a b c : Held S) (x : X) (r : Result Y StoreError) → Loads g a b F (Ok x) → Loads g b c G r
      → Loads g a c (λ i y. F i x × G i y) r
  loads_both a b c x r one two = record {
    found = λ clean i tables. found_both r i x (one.found (two.clean clean) i tables)
        (two.found clean i (one.same i tables));
    none = λ clean bad. found_after g a b c (loads_read g a b x one.reads) clean (two.none clean bad);
    reads = reads_then g store_schema NoState Fault a b c (Ok x) x r refl one.reads two.reads;
    cause = λ clean failed i tables.
        cause_since g a b c (one.reads.crash.counts, one.reads.crash.limit) i (λ _. ⊥)
        (two.cause clean failed i (one.same i tables));
    same = on_ok r _ _ (λ same i tables. same i (one.same i tables)) two.same;
    err = on_err r _ _ (λ err i tables. err i (one.same i tables)) two.err;
    which = two.which;
    crash = λ i tables db left. one.crash i tables db (two.crash i (one.same i tables) db left);
    clean = λ clean. one.clean (two.clean clean);
  }
