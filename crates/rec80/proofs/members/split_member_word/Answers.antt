use Rattle.rec80.proofs.Listing.{run_within, takes_run, no_run}
use Rattle.rec80.proofs.members.split_member_word.Goals as goal

pub returns-then-len-eq0-clause-none : goal.returns-then-len-eq0-clause-none
returns-then-len-eq0-clause-none c = no_run c.args.text.now.line.now c.args.text.now.more c.args.text.now.later.now
    c.member_len-len.result c.member_len-len.ensures c.if-len-eq0.true

pub split_at-requires : goal.split_at-requires
split_at-requires c = run_within c.args.text.now.line.now c.member_len-len.result c.member_len-len.ensures

pub returns-clause-run : goal.returns-clause-run
returns-clause-run c = takes_run c.args.text.now.line.now _ _ c.args.text.now.more c.args.text.now.later.now
    c.member_len-len.result c.member_len-len.ensures c.if-len-eq0.false c.split_at.ensures.front c.split_at.ensures.back
