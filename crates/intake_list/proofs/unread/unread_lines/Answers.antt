use Rattle.std.proofs.Common.{◌+◌, ◌++◌, ap, drop, sym, refl, arith}
use Rattle.intake_list.specs.Unread.{unread_from, unread_here}
use Rattle.intake_list.proofs.Rest.{rest_more, rest_all}
use Rattle.intake_list.proofs.unread.unread_lines.Goals as goal

pub loop-row-preserved : goal.loop-row-preserved
loop-row-preserved c =
    let l = c.loop-row in
    let row = c.row-item.result in
    let rest = drop (l.row-index + 1) c.args.rows.now in
    rest_more (unread_from l.within) (unread_from c.is_within-within.result) c.args.rows.now l.row-index row
    l.found.items (unread_here l.within row) c.add_unread.new.found.items _ (omega arith) c.row-item.is
    (ap (λ within. unread_here l.within row ++ unread_from within rest) (sym c.is_within-within.ensures))
    c.in_ok-add_unread.ensures l.invariant

pub returns : goal.returns
returns c =
    let l = c.loop-row in
    rest_all (unread_from l.within) c.args.rows.now l.row-index l.found.items _ (omega arith) refl l.invariant
