use Rattle.std.proofs.Common.{◌≡◌, ◌∙◌, ap, arith, drop}
use Rattle.std.specs.List.{prefix_len}
use Rattle.std.proofs.lemmas.List.{length-drop, take_rest}
use Rattle.rec80.proofs.GroupCuts.{is_later, IsFirstGroup, first_group}
use Rattle.rec80.proofs.groups.split_group.Goals as goal
use Rattle.std.proofs.lemmas.List.Sums.{prefix_len-le-length}

later : (c : goal.After-continuing_len) → c.continuing_len.result ≡ prefix_len is_later (drop 1 c.args.records.now)
later c = c.continuing_len.ensures ∙ ap (prefix_len is_later) (take_rest c.args.records.now 1)

pub overflow_add-continuing_len : goal.overflow_add-continuing_len
overflow_add-continuing_len c = omega (
  arith,
  later c,
  prefix_len-le-length is_later (drop 1 c.args.records.now),
  length-drop 1 c.args.records.now,
)

pub split_at-requires : goal.split_at-requires
split_at-requires c = omega (
  arith,
  later c,
  prefix_len-le-length is_later (drop 1 c.args.records.now),
  length-drop 1 c.args.records.now,
)

cut : (c : goal.After-split_at) → IsFirstGroup c.args.records.now c.split_at.result.0.now c.split_at.result.1.now
cut c = first_group c.args.records.now _ _ c.continuing_len.result c.requires.starts c.requires.some
    (c.continuing_len.ensures ∙ ap (prefix_len is_later) (take_rest c.args.records.now 1)) c.split_at.ensures.front
    c.split_at.ensures.back

pub returns-clause-group : goal.returns-clause-group
returns-clause-group c = (cut c).group

pub returns-clause-rest : goal.returns-clause-rest
returns-clause-rest c = (cut c).rest
