-- How a migration ends, from how its calls do.
use Rattle.std.proofs.Common.{◌≡◌, ◌≢◌, ◌⊎◌, inl, inr, Result, Ok, Err, OnOk, OnErr, IfOk, IsErrOf, IsErrAnd, IsTrue}
use Rattle.std.proofs.Common.{Vec}
use Rattle.std.proofs.Common.{false, arith, refl, sym, ap, subst, ◌∙◌}
use Rattle.std.specs.declared.alloc.Global.{Global as AnyGlobal}
use Rattle.sqlite.specs.declared.error.Error.{Error}
use Rattle.sqlite.specs.Store.{Ghosts}
use Rattle.sqlite.specs.Effect.{Database, IsDatabase}
use Rattle.sqlite.specs.Held.{Held, state}
use Rattle.sqlite.specs.State.{State, HasCleanDisk, IsLive, IsUnchanged, KeepsCommit, Survives}
use Rattle.sqlite.proofs.StateLemmas.{survives_then, survives_weaker}
use Rattle.store_rows.specs.declared.error.ReadError.{ReadError}
use Rattle.store_rows.specs.declared.error.ReadError.TheVariants as read
use Rattle.store_rows.specs.Inside.{HoldsOpen}
use Rattle.store_rows.proofs.InsideLemmas.{on_ok, on_ok_of}
use Rattle.store_rows.proofs.Queries.{keeps_then, reads_then}
use Rattle.store_rows.proofs.Selects.{unchanged_keeps}
use Rattle.store_schema.specs.declared.error.StoreError.{StoreError}
use Rattle.store_schema.specs.declared.error.StoreError.TheVariants.{Fault, OtherSchema, NoState, Memory}
use Rattle.store_schema.specs.declared.schema.Schema.{Schema}
use Rattle.store_schema.specs.declared.schema.Schema.TheVariants.{Third}
use Rattle.store_schema.specs.Create.{IsBlank}
use Rattle.store_schema.specs.Earlier.{schema_under, StandsUnder, IsEarlierStateOf}
use Rattle.store_schema.specs.Inventory.{Inventory, empty_inventory}
use Rattle.store_schema.specs.Known.{HasTablesUnder, HasUnknownNumber, HasOtherNumber, HasNoState, HasNoSchema, told}
use Rattle.store_schema.specs.Stands.{StandsFor, IsStateOf, IsSetUp}
use Rattle.store_migration.specs.declared.head.Head.{Head}
use Rattle.store_migration.specs.TakenOver.{heads_under, Takes, IsTaken}
use Rattle.store_migration.specs.Checked.{Checks}
use Rattle.store.specs.Loads.{store_error, told as told_read}
use Rattle.store_migration.specs.Migrated.{HasNoEarlierState, HasRowids, IsTakenOver, Migrates}
use Rattle.store_migration.proofs.Schemas.{is_earlier, of_blank, of_schema, not_blank, only_third, shows_none, told_is}
use Rattle.store.proofs.ViewLemmas.{IsOutside, own_schema}

kept_err : {Y : Type 0} (a b : State) (r : Result Y StoreError) → (IsTrue b.is_open → IsTrue a.is_open)
    → (IsTrue b.is_open → OnErr r (b.committed ≡ a.committed)) → OnErr r (KeepsCommit a b)
kept_err a b (Ok y) was same = tt
kept_err a b (Err e) was same = record { was_open = was; committed = same }

-- what is told was read
pub has_read : {X : Type 0} (q : Result X ReadError) (x : X) → told_read q ≡ Ok x → q ≡ Ok x
has_read (Ok y) x is = cc
has_read (Err e) x is = absurd cc

module _ {S : Type 0} (g : Ghosts S) (old : Held S) (live : IsLive (state g old)) where
  -- it failed for this reason
  failed : {Y : Type 0} (new : Held S) (r : Result Y StoreError) (e : StoreError) → IsErrAnd r (λ z. z ≡ e)
      → (HasCleanDisk (state g new) → e ≡ OtherSchema → HasUnknownNumber (state g old))
      → (HasCleanDisk (state g new) → e ≡ NoState → HasNoEarlierState (state g old))
      → ((e ≡ OtherSchema) ⊎ (e ≡ NoState) → Survives (state g old) (state g new) (λ _. ⊥))
      → (HasCleanDisk (state g new) → KeepsCommit (state g old) (state g new))
      → Survives (state g old) (state g new) (IsTakenOver (state g old).now) → new.in_transaction ≡ false
      → Migrates g old new r
  failed new (Ok y) e is other none unwritten kept crash mode = absurd is
  failed {Y = Y} new (Err z) e is other none unwritten kept crash mode = record {
    stood = λ clean. tt;
    stands = λ clean. tt;
    is_open = λ clean. tt;
    same = λ clean. tt;
    other = λ clean it. other clean (reason OtherSchema it);
    none = λ clean it. none clean (reason NoState it);
    unwritten = λ why. elim why [
      | inl it ↦ unwritten (inl (reason OtherSchema it))
      | inr it ↦ unwritten (inr (reason NoState it))
    ];
    kept = kept;
    was_open = λ clean. (kept clean).was_open;
    crash = crash;
    live = live;
    mode = mode;
  }
    where
      reason : (w : StoreError) → IsErrOf {T = Y} (Err z) w → e ≡ w
      reason w it = cc (is, it)

  -- it failed before anything was written
  failed_early : {Y : Type 0} (new : Held S) (r : Result Y StoreError) (e : StoreError) → IsErrAnd r (λ z. z ≡ e)
      → (HasCleanDisk (state g new) → e ≡ OtherSchema → HasUnknownNumber (state g old))
      → (HasCleanDisk (state g new) → e ≡ NoState → HasNoEarlierState (state g old))
      → (HasCleanDisk (state g new) → KeepsCommit (state g old) (state g new))
      → Survives (state g old) (state g new) (λ _. ⊥) → new.in_transaction ≡ false → Migrates g old new r
  failed_early new r e is other none kept crash mode =
      failed new r e is other none (λ why. crash) kept
      (survives_weaker (state g old) (state g new) (λ _. ⊥) (IsTakenOver (state g old).now) (λ clean db no. absurd no)
      crash) mode

  -- ---- the tables are no schema's

  pub no_schema : {X Y : Type 0} (new : Held S) (q : Result X StoreError) (e : StoreError) (r : Result Y StoreError)
      → q ≡ Err e → IsErrAnd r (λ z. z ≡ e)
      → (HasCleanDisk (state g new) → IsErrOf q OtherSchema → HasUnknownNumber (state g old))
      → (HasCleanDisk (state g new) → IsErrOf q NoState → HasNoSchema (state g old))
      → (HasCleanDisk (state g new) → KeepsCommit (state g old) (state g new))
      → Survives (state g old) (state g new) (λ _. ⊥) → new.in_transaction ≡ false → Migrates g old new r
  no_schema new q e r found is other none kept crash mode =
      failed_early new r e is
      (λ clean it. other clean (found ∙ ap (λ z. Err z) it))
      (λ clean it.
      let no = none clean (found ∙ ap (λ z. Err z) it) in
      record { none = no.none; which = inr no })
      kept crash mode

  -- ---- there are no tables and views

  pub tables_made : {X : Type 0} (new : Held S) (r : Result X StoreError) → IsBlank (state g old).now
      → (HasCleanDisk (state g new) → OnOk r ((i : Inventory) → IsStateOf i (state g old).now
      → HoldsOpen StandsFor (state g new) i))
      → (HasCleanDisk (state g new) → OnOk r (IsTrue (state g new).is_open))
      → (HasCleanDisk (state g new) → IsTrue (state g new).is_open → IsTrue (state g old).is_open)
      → (HasCleanDisk (state g new) → IsErrOf r OtherSchema → HasOtherNumber (state g old))
      → (HasCleanDisk (state g new) → IsErrOf r NoState → HasNoState (state g old))
      → (HasCleanDisk (state g new) → IsTrue (state g new).is_open
      → OnErr r ((state g new).committed ≡ (state g old).committed))
      → Survives (state g old) (state g new) (IsSetUp (state g old).now) → new.in_transaction ≡ false
      → Migrates g old new r
  tables_made new r blank stands is_open was_open other none unchanged crash mode = record {
    stood = λ clean. on_ok_of r (λ rowids. (empty_inventory, inl (inl (blank, refl))));
    stands = λ clean. on_ok r _ _ (λ made i is. made i (of_blank i (state g old).now blank is)) (stands clean);
    is_open = is_open;
    same = λ clean. on_ok_of r (λ own. absurd (not_blank Third (state g old).now own blank));
    other = λ clean it. absurd (no_other clean it);
    none = λ clean it. absurd (no_none clean it);
    unwritten = λ why. survives_weaker (state g old) (state g new) (IsSetUp (state g old).now) (λ _. ⊥)
        (λ clean db made. elim why [ inl it ↦ no_other clean it | inr it ↦ no_none clean it ]) crash;
    kept = λ clean. kept_err (state g old) (state g new) r (was_open clean) (unchanged clean);
    was_open = was_open;
    crash = survives_weaker (state g old) (state g new) (IsSetUp (state g old).now) (IsTakenOver (state g old).now)
        (λ clean db made rowids. (empty_inventory, inl (inl (made.0, refl)), made.1)) crash;
    live = live;
    mode = mode;
  }
    where
      no_other : HasCleanDisk (state g new) → IsErrOf r OtherSchema → ⊥
      no_other clean it = let at = other clean it in shows_none (state g old) at.rows blank at.shown

      no_none : HasCleanDisk (state g new) → IsErrOf r NoState → ⊥
      no_none clean it = (none clean it).none empty_inventory (inl (blank, refl))

  -- ---- the tables are a schema's

  module _ (schema : Schema) where
    -- what was read behind a look at the tables
    pub checks_then : (mid new : Held S) (q : Result (Vec Head AnyGlobal) ReadError)
        → (HasCleanDisk (state g mid) → IsUnchanged (state g old) (state g mid))
        → Survives (state g old) (state g mid) (λ _. ⊥) → mid.in_transaction ≡ false → Checks g schema mid new q
        → Checks g schema old new q
    checks_then mid new q same crash mode c = record {
      found = λ clean i stands. c.found clean i (subst (StandsUnder schema i) (sym (now clean)) stands);
      none = λ clean bad i stands. c.none clean bad i (subst (StandsUnder schema i) (sym (now clean)) stands);
      stood = λ clean. subst (λ db. OnOk q (IsDatabase db → HasTablesUnder schema db → HasRowids db
          → (i : Inventory) × StandsUnder schema i db)) (now clean) (c.stood clean);
      reads = reads_then g (schema_under schema) read.BadRow read.Fault old mid new (Ok (tt {0})) (tt {0}) q refl (
          record {
            same = λ clean. same clean;
            bad = λ clean it. absurd cc;
            cause = λ clean it. absurd cc;
            kept = λ clean. unchanged_keeps (state g old) (state g mid) (same clean);
            crash = crash;
            mode = λ _. mode;
          }
          ) c.reads;
    }
      where
        now : HasCleanDisk (state g new) → (state g mid).now ≡ (state g old).now
        now clean = (same (omega (arith, c.reads.crash.clean, clean))).0.now_is

    -- `mid` is behind what was read
    module _ (mid : Held S) (known : HasCleanDisk (state g mid) → HasTablesUnder schema (state g old).now)
        (q : Result (Vec Head AnyGlobal) ReadError) (c : Checks g schema old mid q) where
      pub not_checked : {Y : Type 0} (e : StoreError) (r : Result Y StoreError) → told_read q ≡ Err e
          → IsErrAnd r (λ z. z ≡ e) → mid.in_transaction ≡ false → Migrates g old mid r
      not_checked e r found is mode = by q refl
        where
          not_other : (w : ReadError) → store_error w ≡ OtherSchema → ⊥
          not_other read.Memory it = absurd cc
          not_other read.Fault it = absurd cc
          not_other read.BadRow it = absurd cc

          bad_from : (w : ReadError) → store_error w ≡ NoState → w ≡ read.BadRow
          bad_from read.Memory it = absurd cc
          bad_from read.Fault it = absurd cc
          bad_from read.BadRow it = refl

          bad_rows : HasCleanDisk (state g mid) → IsErrOf q read.BadRow → HasNoEarlierState (state g old)
          bad_rows clean bad =
              let own = known clean in
              record {
                none = λ i at. c.none clean bad i (of_schema schema i (state g old).now own.schema at);
                which = inl (schema, own);
              }

          by : (z : Result (Vec Head AnyGlobal) ReadError) → q ≡ z → Migrates g old mid r
          by (Ok heads) at = absurd (let it = sym (ap told_read at) ∙ found in cc)
          by (Err why) at =
              let it = sym (ap told_read at) ∙ found in
              let same : store_error why ≡ e = cc in
              failed_early mid r e is (λ clean p. absurd (not_other why (same ∙ p)))
              (λ clean p. bad_rows clean (at ∙ ap (λ z. Err z) (bad_from why (same ∙ p))))
              c.reads.kept c.reads.crash mode

    module _ (mid : Held S) (known : HasCleanDisk (state g mid) → HasTablesUnder schema (state g old).now)
        (q : Result (Vec Head AnyGlobal) ReadError) (c : Checks g schema old mid q) (heads : Vec Head AnyGlobal)
        (is : q ≡ Ok heads) where
      unchanged : HasCleanDisk (state g mid) → IsUnchanged (state g old) (state g mid)
      unchanged clean = subst (λ z. OnOk z (IsUnchanged (state g old) (state g mid))) is (c.reads.same clean)

      stood_for : HasCleanDisk (state g mid) → HasRowids (state g old).now
          → (i : Inventory) × StandsUnder schema i (state g old).now
      stood_for clean rowids =
          let stood = subst (λ z. OnOk z (IsDatabase (state g old).now → HasTablesUnder schema (state g old).now
          → HasRowids (state g old).now → (i : Inventory) × StandsUnder schema i (state g old).now)) is (c.stood clean)
          in
          stood (live (unchanged clean).0.was_open).0 (known clean) rowids

      heads_are : HasCleanDisk (state g mid) → (i : Inventory) → StandsUnder schema i (state g old).now
          → heads.items ≡ heads_under schema i
      heads_are clean i stands = subst (λ z. IfOk z (λ h. h.items ≡ heads_under schema i)) is (c.found clean i stands)

      under : HasCleanDisk (state g mid) → (i : Inventory) → IsEarlierStateOf i (state g old).now
          → StandsUnder schema i (state g old).now
      under clean i at = of_schema schema i (state g old).now
          (known clean).schema at

      -- they are the store's own
      pub own_kept : {Y : Type 0} (y : Y) → schema ≡ Third → IsOutside g old → mid.in_transaction ≡ false
          → Migrates g old mid (Ok y)
      own_kept y third outside mode = record {
        stood = λ clean rowids.
            let it = stood_for clean rowids in
            (it.0, is_earlier schema it.0 (state g old).now it.1);
        stands = λ clean i at.
            let same = unchanged clean in
            record {
              is_open = same.0.is_open;
              stands = subst (λ (db : Database). StandsFor i db) (sym (same.0.committed_is
                  ∙ sym (outside same.0.was_open))) (subst (λ r. StandsUnder r i (state g old).now) third
                  (under clean i at));
            };
        is_open = λ clean. (unchanged clean).0.is_open;
        same = λ clean own. unchanged clean;
        other = λ clean it. absurd cc;
        none = λ clean it. absurd cc;
        unwritten = λ why. c.reads.crash;
        kept = λ clean. tt;
        was_open = λ clean is_open. (unchanged clean).0.was_open;
        crash = survives_weaker (state g old) (state g mid) (λ _. ⊥) (IsTakenOver (state g old).now)
            (λ clean db no. absurd no) c.reads.crash;
        live = live;
        mode = mode;
      }

      -- they are taken over
      module _ (new : Held S) (earlier : schema ≢ Third)
          (crash : Survives (state g mid) (state g new) (IsTaken schema heads.items (state g mid).now))
          (mode : new.in_transaction ≡ false) where
        clean_mid : HasCleanDisk (state g new) → HasCleanDisk (state g mid)
        clean_mid clean = omega (arith, crash.clean, clean)

        pub all_crash : Survives (state g old) (state g new) (IsTakenOver (state g old).now)
        all_crash =
            survives_then (state g old) (state g mid) (state g new) (λ _. ⊥)
            (IsTaken schema heads.items (state g mid).now) (IsTakenOver (state g old).now) (λ _ db no. absurd no)
            (λ clean db taken rowids.
            let early = clean_mid clean in
            let it = stood_for early rowids in (
              it.0,
              is_earlier schema it.0 (state g old).now it.1,
              own_schema it.0 taken.0 db (taken.1 it.0 (heads_are early it.0 it.1)
                  (subst (StandsUnder schema it.0) (sym (unchanged early).0.now_is) it.1)),
            ))
            c.reads.crash crash

        pub all_taken : {Y : Type 0} (y : Y)
            → (HasCleanDisk (state g new) → Takes schema heads.items (state g mid).now (state g new).committed)
            → (HasCleanDisk (state g new) → IsTrue (state g new).is_open)
            → (HasCleanDisk (state g new) → IsTrue (state g new).is_open → IsTrue (state g mid).is_open)
            → Migrates g old new (Ok y)
        all_taken y made is_open was_open = record {
          stood = λ clean rowids.
              let it = stood_for (clean_mid clean) rowids in
              (it.0, is_earlier schema it.0 (state g old).now it.1);
          stands = λ clean i at.
              let early = clean_mid clean in
              let stands = under early i at in
              record {
                is_open = is_open clean;
                stands = made clean i (heads_are early i stands)
                    (subst (StandsUnder schema i) (sym (unchanged early).0.now_is) stands);
              };
          is_open = is_open;
          same = λ clean own. absurd (earlier (only_third schema (sym (known (clean_mid clean)).schema ∙ own)));
          other = λ clean it. absurd cc;
          none = λ clean it. absurd cc;
          unwritten = λ why. elim why [ inl it ↦ absurd cc | inr it ↦ absurd cc ];
          kept = λ clean. tt;
          was_open = λ clean is_open. (unchanged (clean_mid clean)).0.was_open;
          crash = all_crash;
          live = live;
          mode = mode;
        }

        pub not_taken : {X Y : Type 0} (made : Result X Error) (e : Error) (r : Result Y StoreError)
            → made ≡ Err e → IsErrAnd r (λ z. z ≡ told e)
            → (HasCleanDisk (state g new) → IsTrue (state g new).is_open
            → OnErr made ((state g new).committed ≡ (state g mid).committed))
            → (HasCleanDisk (state g new) → IsTrue (state g new).is_open → IsTrue (state g mid).is_open)
            → Migrates g old new r
        not_taken made e r failed_at it same was_open =
            failed new r (told e) it (λ clean why. absurd (not_told OtherSchema (λ p. cc) (λ p. cc) why))
            (λ clean why. absurd (not_told NoState (λ p. cc) (λ p. cc) why))
            (λ why. absurd (elim why [
              | inl p ↦ not_told OtherSchema (λ m. cc) (λ f. cc) p
              | inr p ↦ not_told NoState (λ m. cc) (λ f. cc) p
            ]))
            (λ clean. keeps_then (state g old) (state g mid) (state g new)
            (unchanged_keeps (state g old) (state g mid) (unchanged (clean_mid clean))) (record {
              was_open = was_open clean;
              committed = λ is_open. subst (λ z. OnErr z ((state g new).committed ≡ (state g mid).committed)) failed_at
                  (same clean is_open);
            }))
            all_crash mode
          where
            not_told : (w : StoreError) → (Memory ≡ w → ⊥) → (Fault ≡ w → ⊥) → told e ≡ w → ⊥
            not_told w no_memory no_fault p = elim (told_is e) [
              | inl memory ↦ no_memory (sym memory ∙ p)
              | inr fault ↦ no_fault (sym fault ∙ p)
            ]
