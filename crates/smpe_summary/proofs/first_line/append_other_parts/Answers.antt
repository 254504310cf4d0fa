use Rattle.std.proofs.lemmas.Result.{on_ok_weaker}
use Rattle.std.specs.Prelude.{codes}
use Rattle.smpe_summary.specs.Text.{part}
use Rattle.smpe_summary.proofs.Growing.{four}
use Rattle.smpe_summary.proofs.first_line.append_other_parts.Goals as goal

pub returns : goal.returns
returns c =
    let ms = c.args.members.now in
    on_ok_weaker c.append_part-4.result
    (four c.args.text.now.items (part ms 6 (codes "on already")) (part ms 7 (codes "deleted"))
    (part ms 8 (codes "not received")) (part ms 9 (codes "without a ++VER for the SREL")) c.append_part.new.text.items
    c.append_part-2.new.text.items c.append_part-3.new.text.items c.append_part-4.new.text.items
    c.in_ok-append_part.ensures c.in_ok-append_part-2.ensures c.in_ok-append_part-3.ensures) c.append_part-4.ensures
