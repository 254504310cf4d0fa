use Rattle.std.proofs.Common.{Ok, arith, sym, subst}
use Rattle.sqlite.specs.Effect.{Database}
use Rattle.sqlite.specs.Held.{state}
use Rattle.sqlite.specs.State.{HasCleanDisk}
use Rattle.store_rows.specs.declared.error.ReadError.TheVariants.{BadRow, Fault}
use Rattle.store_rows.specs.Rows.{HasContents}
use Rattle.store_rows.proofs.Queries.{reads_more, reads_then}
use Rattle.store_schema.specs.Earlier.{schema_under}
use Rattle.store_migration.proofs.Standing.{stands_from}
use Rattle.store_migration.proofs.check.check_all.Goals as goal

pub returns : goal.returns
returns g c =
    let s = g.S.Store in
    let r = c.args.schema in
    let old = c.args.conn.now in
    let mid = c.check_global.new.conn in
    let new = c.check_zones.new.conn in
    let first = c.in_ok-heads.ensures in
    let early : HasCleanDisk (state s new) → HasCleanDisk (state s mid) = λ clean.
    omega (arith, clean, c.check_zones.ensures.reads.crash.clean) in
    let same = λ (clean : HasCleanDisk (state s new)). (first.reads.same (early clean)).0.now_is in
    record {
      found = λ clean i stands. first.found (early clean) i stands;
      none = λ clean bad. absurd cc;
      stood = λ clean sound known rowids. stands_from r (state s old).now sound known rowids (first.rows (early clean))
          (λ contents held. c.in_ok-check_zones.ensures.rows clean contents
          (subst (λ (db : Database). HasContents (schema_under r) contents db) (sym (same clean)) held));
      reads = reads_then s (schema_under r) BadRow Fault old mid new c.check_global.result c.in_ok-heads.heads
          (Ok c.in_ok-heads.heads) c.in_ok-heads.was c.check_global.ensures.reads
          (reads_more s (schema_under r) BadRow Fault mid new c.check_zones.result (tt {0}) (Ok c.in_ok-heads.heads)
          c.in_ok-check_zones.was (λ failed. absurd cc) c.check_zones.ensures.reads);
    }
