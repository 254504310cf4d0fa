use Rattle.std.proofs.Common.{map, rules, arith}
use Rattle.sqlite.specs.Held.{state}
use Rattle.sqlite.specs.State.{HasCleanDisk}
use Rattle.terms.proofs.Results.{if_ok_both}
use Rattle.store_rows.proofs.Queries.{reads_err, reads_more, reads_then}
use Rattle.store_zones.specs.Numbered.{as_first, numbers_of}
use Rattle.store_zones.proofs.BySchema.{earlier_numbered, all_numbered, none_over, numbers_third, held_after}
use Rattle.store_zones.proofs.zone_load.load_entries.Goals as goal

pub returns-in_err-entries-clause-no_rows : goal.returns-in_err-entries-clause-no_rows
returns-in_err-entries-clause-no_rows g c clean bad contents was all held =
    c.load_items.ensures.none clean (search rules) c.args.schema tt contents was (map as_first all) held.firsts

pub returns-in-First : goal.returns-in-First
returns-in-First g c =
    let r = c.args.schema in
    record {
      rows = λ clean contents was. earlier_numbered contents c.args.name.now c.in_ok-entries.entries r c.in-First.is
          (c.in_ok-entries.ensures.found clean r tt contents was);
      no_rows = λ clean bad contents was all held. absurd cc;
      reads = reads_more g.S.Store _ _ _ c.args.conn.now c.load_items.new.conn c.load_items.result
          c.in_ok-entries.entries _ c.in_ok-entries.was (λ failed. search rules) (c.load_items.ensures.reads r tt);
    }

pub returns-in_err-numbers-in-Third-clause-no_rows : goal.returns-in_err-numbers-in-Third-clause-no_rows
returns-in_err-numbers-in-Third-clause-no_rows g c clean bad contents was all held =
    let r = c.args.schema in
    let before : HasCleanDisk (state g.S.Store c.load_items.new.conn) =
    omega (arith, clean, (c.load_items-in-Third.ensures.reads r c.in-Third.is).crash.clean) in
    c.load_items-in-Third.ensures.none clean (search rules) r c.in-Third.is contents
    (held_after r contents _ _ ((c.in_ok-entries.ensures.reads r tt).same before) was) (numbers_of all)
    (numbers_third r contents c.args.name.now (numbers_of all) c.in-Third.is held.numbers)

pub returns-in_ok-numbers-in-Third-clause-rows : goal.returns-in_ok-numbers-in-Third-clause-rows
returns-in_ok-numbers-in-Third-clause-rows g c clean contents was =
    let r = c.args.schema in
    let before : HasCleanDisk (state g.S.Store c.load_items.new.conn) =
    omega (arith, clean, (c.load_items-in-Third.ensures.reads r c.in-Third.is).crash.clean) in
    if_ok_both c.number_entries.result _ _ _
    (all_numbered contents c.args.name.now c.in_ok-entries.entries c.in_ok-numbers-in-Third.numbers
    (c.in_ok-entries.ensures.found before r tt contents was)
    (c.in_ok-numbers-in-Third.ensures.found clean r c.in-Third.is contents
    (held_after r contents _ _ ((c.in_ok-entries.ensures.reads r tt).same before) was)) r c.in-Third.is)
    c.number_entries.ensures.same c.number_entries.ensures.whole

pub returns-in_ok-numbers-in-Third-clause-no_rows : goal.returns-in_ok-numbers-in-Third-clause-no_rows
returns-in_ok-numbers-in-Third-clause-no_rows g c clean bad contents was all held =
    let r = c.args.schema in
    let before : HasCleanDisk (state g.S.Store c.load_items.new.conn) =
    omega (arith, clean, (c.load_items-in-Third.ensures.reads r c.in-Third.is).crash.clean) in
    c.number_entries.ensures.none bad
    (none_over contents c.args.name.now c.in_ok-entries.entries c.in_ok-numbers-in-Third.numbers
    (c.in_ok-entries.ensures.found before r tt contents was)
    (c.in_ok-numbers-in-Third.ensures.found clean r c.in-Third.is contents
    (held_after r contents _ _ ((c.in_ok-entries.ensures.reads r tt).same before) was)) r c.in-Third.is all
    held)

pub returns-in_err-numbers-in-Third-clause-reads : goal.returns-in_err-numbers-in-Third-clause-reads
returns-in_err-numbers-in-Third-clause-reads g c =
    reads_then g.S.Store _ _ _ c.args.conn.now c.load_items.new.conn c.load_items-in-Third.new.conn c.load_items.result
    c.in_ok-entries.entries _ c.in_ok-entries.was (c.load_items.ensures.reads c.args.schema tt)
    (reads_err g.S.Store _ _ _ c.load_items.new.conn c.load_items-in-Third.new.conn c.load_items-in-Third.result _
    (search rules) (λ bad. search rules) (λ failed. search rules)
    (c.load_items-in-Third.ensures.reads c.args.schema c.in-Third.is))

pub returns-in_ok-numbers-in-Third-clause-reads : goal.returns-in_ok-numbers-in-Third-clause-reads
returns-in_ok-numbers-in-Third-clause-reads g c =
    reads_then g.S.Store _ _ _ c.args.conn.now c.load_items.new.conn c.load_items-in-Third.new.conn c.load_items.result
    c.in_ok-entries.entries _ c.in_ok-entries.was (c.load_items.ensures.reads c.args.schema tt)
    (reads_more g.S.Store _ _ _ c.load_items.new.conn c.load_items-in-Third.new.conn c.load_items-in-Third.result
    c.in_ok-numbers-in-Third.numbers _ c.in_ok-numbers-in-Third.was c.number_entries.ensures.fault
    (c.load_items-in-Third.ensures.reads c.args.schema c.in-Third.is))
