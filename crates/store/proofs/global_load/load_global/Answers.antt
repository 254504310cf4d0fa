use Rattle.std.proofs.Common.{rules}
use Rattle.store_rows.proofs.Queries.{reads_err, reads_more}
use Rattle.store.proofs.Loading.{shows_joined}
use Rattle.store.proofs.global_load.load_global.Goals as goal

pub returns-in_err-lists-clause-reads : goal.returns-in_err-lists-clause-reads
returns-in_err-lists-clause-reads g c =
    reads_err g.S.Store _ _ _ c.args.conn.now c.load_global_lists.new.conn c.load_global_lists.result _ (search rules)
    (λ bad. search rules) (λ failed. search rules)
    c.load_global_lists.ensures.reads

pub returns-clause-rows : goal.returns-clause-rows
returns-clause-rows g c clean =
    let lists = c.in_ok-lists.lists in
    shows_joined g.S.Store c.args.conn.now lists.sysmods.items lists.holds.items c.assemble_global.result
    (c.in_ok-lists.ensures.rows clean) c.assemble_global.ensures.same c.assemble_global.ensures.whole

pub returns-clause-reads : goal.returns-clause-reads
returns-clause-reads g c =
    reads_more g.S.Store _ _ _ c.args.conn.now c.load_global_lists.new.conn c.load_global_lists.result
    c.in_ok-lists.lists _
    c.in_ok-lists.was c.assemble_global.ensures.fault c.load_global_lists.ensures.reads
