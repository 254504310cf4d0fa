-- Queries, one after the other, none of which commits.
use Rattle.std.proofs.Common.{◌≡◌, Result, Ok, Err, OnOk, IsErr, IsErrOf, IsSome, inl, inr, subst, ap, ◌∙◌, arith}
use Rattle.std.proofs.Common.{rules}
use Rattle.sqlite.specs.Store.{Ghosts}
use Rattle.sqlite.specs.Schema.{Schema}
use Rattle.sqlite.specs.Tree.{Trees}
use Rattle.sqlite.specs.Effect.{Database}
use Rattle.sqlite.specs.Held.{Held, state}
use Rattle.sqlite.specs.State.{State, HasCleanDisk, IsUnchanged, KeepsCommit, Survives}
use Rattle.sqlite.proofs.StateLemmas.{survives_then}
use Rattle.store_rows.specs.Reads.{OnlyReads, FailsToRead}
use Rattle.store_rows.proofs.InsideLemmas.{on_ok, on_ok_of}
use Rattle.store_rows.proofs.Selects.{unchanged_keeps}

pub unchanged_then : (a b c : State) → IsUnchanged a b → IsUnchanged b c → IsUnchanged a c
unchanged_then a b c p q = (
  record {
    was_open = p.0.was_open;
    is_open = q.0.is_open;
    now_is = q.0.now_is ∙ p.0.now_is;
    committed_is = q.0.committed_is ∙ p.0.committed_is;
    mode = q.0.mode ∙ p.0.mode;
  },
  record { changes = q.1.changes ∙ p.1.changes; last_rowid = q.1.last_rowid ∙ p.1.last_rowid },
  q.2 ∙ p.2,
)

pub keeps_then : (a b c : State) → KeepsCommit a b → KeepsCommit b c → KeepsCommit a c
keeps_then a b c p q = record {
  was_open = λ is_open. p.was_open (q.was_open is_open);
  committed = λ is_open. q.committed is_open ∙ p.committed (q.was_open is_open);
}

-- a query failed behind one that answered
pub failed_later : (a b c : State) {P Q : Trees → Type 0} → IsUnchanged a b → Survives a b P → Survives b c Q
    → FailsToRead b c → FailsToRead a c
failed_later a b c same one two (inl (inl more)) = inl (inl (omega (arith, more, one.counts)))
failed_later a b c same one two (inl (inr shut)) = absurd (let is_open = same.0.is_open in cc)
failed_later a b c same one two (inr limited) = inr (subst IsSome one.limit limited)

-- ---- calls that only read, each of whose errors tells so of bad rows

module _ {S E : Type 0} (g : Ghosts S) (schema : Schema) (bad_row fault : E) where
  answered : {X : Type 0} (old new : Held S) (q : Result X E) (x : X) → q ≡ Ok x
      → OnlyReads g schema bad_row fault old new q → HasCleanDisk (state g new) → IsUnchanged (state g old) (state g new)
  answered old new q x is h clean = subst (λ q. OnOk q (IsUnchanged (state g old) (state g new))) is (h.same clean)

  -- what was read is put to use, which meets no fault
  pub reads_more : {X Y : Type 0} (old new : Held S) (q : Result X E) (x : X) (r : Result Y E) → q ≡ Ok x
      → ¬ IsErrOf r fault → OnlyReads g schema bad_row fault old new q → OnlyReads g schema bad_row fault old new r
  reads_more old new q x r is sound h = record {
    same = λ clean. on_ok_of r (answered old new q x is h clean);
    bad = λ clean _. answered old new q x is h clean;
    cause = λ clean failed has. absurd (sound failed);
    kept = h.kept;
    crash = h.crash;
    mode = h.mode;
  }

  -- an error of the call
  pub reads_err : {X Y : Type 0} (old new : Held S) (q : Result X E) (r : Result Y E) → IsErr r
      → (IsErrOf r bad_row → IsErrOf q bad_row) → (IsErrOf r fault → IsErrOf q fault)
      → OnlyReads g schema bad_row fault old new q → OnlyReads g schema bad_row fault old new r
  reads_err old new q (Err e) is told blamed h =
      record {
        same = λ _. tt;
        bad = λ clean bad. h.bad clean (told bad);
        cause = λ clean failed has. h.cause clean (blamed failed) has;
        kept = h.kept;
        crash = h.crash;
        mode = h.mode;
      }
  reads_err old new q (Ok x) is told blamed h = absurd (search rules)

  -- a query that answered, and then one more
  pub reads_then : {X Y : Type 0} (a b c : Held S) (q : Result X E) (x : X) (r : Result Y E) → q ≡ Ok x
      → OnlyReads g schema bad_row fault a b q → OnlyReads g schema bad_row fault b c r
      → OnlyReads g schema bad_row fault a c r
  reads_then a b c q x r is one two =
      let first : HasCleanDisk (state g c) → IsUnchanged (state g a) (state g b) = λ clean.
      answered a b q x is one (omega (arith, two.crash.clean)) in
      record {
        same = λ clean. on_ok r _ _ (unchanged_then (state g a) (state g b) (state g c) (first clean)) (two.same clean);
        bad = λ clean bad. unchanged_then (state g a) (state g b) (state g c) (first clean) (two.bad clean bad);
        cause = λ clean failed has.
            let it = first clean in
            failed_later (state g a) (state g b) (state g c) it one.crash two.crash
            (two.cause clean failed (ap (λ (d : Database). d.schema) it.0.now_is ∙ has));
        kept = λ clean. keeps_then (state g a) (state g b) (state g c)
            (unchanged_keeps (state g a) (state g b) (first clean)) (two.kept clean);
        crash = survives_then (state g a) (state g b) (state g c) _ _ _ (λ _ db none. none) (λ _ db none. none)
            one.crash two.crash;
        mode = λ outside. two.mode (one.mode outside);
      }
