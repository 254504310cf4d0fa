use Rattle.std.proofs.lemmas.Result.{on_ok_weaker}
use Rattle.std.specs.Prelude.{codes}
use Rattle.smpe_summary.specs.Text.{group_line}
use Rattle.smpe_summary.proofs.Growing.{four}
use Rattle.smpe_summary.proofs.group_lines.append_late_groups.Goals as goal

pub returns : goal.returns
returns c =
    let ms = c.args.members.now in
    on_ok_weaker c.append_group-4.result
    (four c.args.text.now.items (group_line ms 6 (codes "on already")) (group_line ms 7 (codes "deleted"))
    (group_line ms 8 (codes "not received")) (group_line ms 9 (codes "without a ++VER for the SREL")) c.append_group.new.text.items
    c.append_group-2.new.text.items c.append_group-3.new.text.items c.append_group-4.new.text.items
    c.in_ok-append_group.ensures c.in_ok-append_group-2.ensures c.in_ok-append_group-3.ensures) c.append_group-4.ensures
