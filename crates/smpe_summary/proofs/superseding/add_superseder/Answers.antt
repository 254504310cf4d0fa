use Rattle.std.proofs.lemmas.Result.{on_ok_weaker}
use Rattle.std.specs.Ordering.{nat_cmp}
use Rattle.std.specs.Cmp.Lexicographic.{slice_cmp}
use Rattle.std.proofs.lemmas.Cmp.{nat_list_cmp_total}
use Rattle.std.proofs.lemmas.Map.Lookups.{exact_bytes}
use Rattle.sorted.proofs.Gaining.{gains_to_all}
use Rattle.sysmods.specs.Choices.{choice}
use Rattle.smpe_summary.proofs.Superseded.{gains_superseder}
use Rattle.smpe_summary.proofs.superseding.add_superseder.Goals as goal

pub returns : goal.returns
returns c =
    let ids = c.as_slice.result.now in
    on_ok_weaker c.add_to_all.result
    (λ adds. gains_superseder (choice c.args.vers.now) c.args.id ids c.args.supers.now c.add_to_all.new.lists
    (rw c.as_slice.ensures.items c.in_ok-superseded.ensures)
    (gains_to_all (slice_cmp nat_cmp) nat_list_cmp_total exact_bytes c.args.supers.now c.add_to_all.new.lists ids
    c.args.id adds)) c.add_to_all.ensures
