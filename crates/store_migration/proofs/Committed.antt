-- What a crash leaves behind the commit.
use Rattle.std.proofs.Common.{◌≡◌, List, true, arith, sym, subst}
use Rattle.sqlite.specs.Store.{Ghosts}
use Rattle.sqlite.specs.Tree.{Trees}
use Rattle.sqlite.specs.Held.{Held, state}
use Rattle.sqlite.specs.State.{HasCleanDisk, Survives}
use Rattle.sqlite.proofs.StateLemmas.{survives_then}
use Rattle.sqlite.proofs.Callers.{survives_begin}
use Rattle.store_rows.specs.Inside.{StaysInside}
use Rattle.store_schema.specs.declared.schema.Schema.{Schema}
use Rattle.store_migration.specs.TakenOver.{Takes, IsTaken}
use Rattle.store_migration.specs.declared.head.Head.{Head}

-- `old` outside a transaction, `last` at its end, and `done` after the commit
pub crash_leaves : {S : Type 0} (g : Ghosts S) (old last done : Held S) (schema : Schema) (heads : List Head)
    → StaysInside g (record old { in_transaction = true }) last
    → (HasCleanDisk (state g last) → Takes schema heads (state g old).now (state g last).now)
    → Survives (state g last) (state g done) (λ db. db ≡ (state g last).now.trees)
    → Survives (state g old) (state g done) (IsTaken schema heads (state g old).now)
crash_leaves g old last done schema heads inside written commit =
    survives_then (state g old) (state g last) (state g done) (λ _. ⊥) _ (IsTaken schema heads (state g old).now)
    (λ _ db none. absurd none)
    (λ clean db is. (
      last.schema,
      subst (λ (trees : Trees). Takes schema heads (state g old).now (record { schema = last.schema; trees = trees }))
          (sym is) (written (omega (arith, commit.clean))),
    ))
    (survives_begin g old (state g last) (λ _. ⊥) inside.survives) commit
