use Rattle.std.proofs.lemmas.Result.{on_ok_weaker}
use Rattle.std.proofs.Common.{[], ◌++◌, ◌∙◌, ap, sym}
use Rattle.std.specs.Prelude.{if◌then◌else◌}
use Rattle.std.specs.Ordering.{nat_cmp}
use Rattle.std.specs.Cmp.Lexicographic.{slice_cmp}
use Rattle.sorted.specs.MultiMap.{listed, once_each}
use Rattle.smpe_summary.proofs.blockers.add_failed.Goals as goal

pub returns : goal.returns
returns c =
    let old = c.args.blocks.now in
    let x = c.args.id in
    let causers = c.args.failure.now.causers.items in
    on_ok_weaker c.add_to_all.result
    (λ adds y. adds.list y
    ∙ ap (λ ks. listed (slice_cmp nat_cmp) old y ++ once_each (slice_cmp nat_cmp) ks x y) c.as_slice.ensures.value
    ∙ ap (λ b. listed (slice_cmp nat_cmp) old y ++ (if b then once_each (slice_cmp nat_cmp) causers x y else []))
    (sym (sym c.is_counted.ensures ∙ c.if-not-is_counted.false))) c.add_to_all.ensures
