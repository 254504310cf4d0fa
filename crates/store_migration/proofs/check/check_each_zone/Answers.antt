use Rattle.std.proofs.Common.{IsErrOf, ◌++◌, ◌∷◌, [], rules, arith, refl, sym, subst}
use Rattle.sqlite.specs.Effect.{Database}
use Rattle.sqlite.specs.Held.{state}
use Rattle.sqlite.specs.State.{HasCleanDisk}
use Rattle.store_rows.specs.declared.error.ReadError.TheVariants.{BadRow, Fault}
use Rattle.store_rows.specs.Rows.{HasContents}
use Rattle.store_rows.proofs.Queries.{reads_err, reads_more, reads_then}
use Rattle.store_schema.specs.Earlier.{schema_under, StandsUnder}
use Rattle.store_migration.proofs.Checking.{done, reads_none, first_none, first_more, first_all, head_found}
use Rattle.store_migration.proofs.check.check_each_zone.Goals as goal

pub loop-head-init : goal.loop-head-init
loop-head-init g c = record {
  reads = λ shown. reads_none g.S.Store (schema_under c.args.schema) c.args.conn.now shown;
  rows = λ shown clean contents held heads. ([], first_none c.args.schema contents);
}

pub loop-head-preserved : goal.loop-head-preserved
loop-head-preserved g c =
    let s = g.S.Store in
    let r = c.args.schema in
    let old = c.args.conn.now in
    let mid = c.loop-head.conn in
    let new = c.check_zone.new.conn in
    let before = c.loop-head.invariant in
    record {
      reads = λ shown. reads_then s (schema_under r) BadRow Fault old mid new done (tt {0}) done refl (before.reads
          shown)
          (reads_more s (schema_under r) BadRow Fault mid new c.check_zone.result (tt {0}) done c.in_ok-check_zone.was
          (λ failed. absurd cc) c.check_zone.ensures.reads);
      rows = λ shown clean contents held heads.
          let early : HasCleanDisk (state s mid) = omega (arith, clean, c.check_zone.ensures.reads.crash.clean) in
          let first = before.rows shown early contents held heads in
          let same = (before.reads shown).same early in
          let zone = c.in_ok-check_zone.ensures.rows clean contents
          (subst (λ (db : Database). HasContents (schema_under r) contents db) (sym same.0.now_is) held) in (
            first.0 ++ record { name = c.head-item.result.name; zone = zone.0 } ∷ [],
            first_more r contents c.args.heads.now c.loop-head.head-index c.head-item.result first.0 zone.0
                (omega arith) c.head-item.is heads first.1 zone.1,
          );
    }

pub returns : goal.returns
returns g c shown = record {
  none = λ clean bad. absurd cc;
  rows = λ clean contents held heads.
      let first = c.loop-head.invariant.rows shown clean contents held heads in (
        first.0,
        first_all c.args.schema contents c.args.heads.now c.loop-head.head-index first.0
            (omega (arith, c.loop-head-test.false)) heads first.1,
      );
  reads = c.loop-head.invariant.reads shown;
}

pub returns-in_err-check_zone : goal.returns-in_err-check_zone
returns-in_err-check_zone g c shown =
    let s = g.S.Store in
    let r = c.args.schema in
    let mid = c.loop-head.conn in
    let new = c.check_zone.new.conn in
    let before = c.loop-head.invariant.reads shown in
    record {
      none = λ clean bad i are stands.
          let early : HasCleanDisk (state s mid) = omega (arith, clean, c.check_zone.ensures.reads.crash.clean) in
          let told : IsErrOf c.check_zone.result BadRow = search rules in
          c.check_zone.ensures.none clean told i
          (head_found i c.args.heads.now c.loop-head.head-index c.head-item.result (omega arith) c.head-item.is are)
          (subst (λ (db : Database). StandsUnder r i db) (sym (before.same early).0.now_is) stands);
      rows = λ clean. search rules;
      reads = reads_then s (schema_under r) BadRow Fault c.args.conn.now mid new done (tt {0}) c.from_residual.result
          refl before (reads_err s (schema_under r) BadRow Fault mid new c.check_zone.result c.from_residual.result
          (search rules) (λ bad. search rules) (λ failed. search rules) c.check_zone.ensures.reads);
    }
