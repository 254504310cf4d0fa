use Rattle.std.proofs.Common.{◌++◌, [], ◌∷◌, filter, sym, ap, ◌∙◌, append_assoc, append-nil}
use Rattle.std.proofs.lemmas.List.Elements.{filter-append}
use Rattle.std.proofs.lemmas.Grind.{flat_map-append}
use Rattle.terms.specs.Choice.{del_of}
use Rattle.terms.specs.Lookups.{is_in}
use Rattle.terms.specs.Deleted.{deletions}
use Rattle.sysmods.specs.Choices.{choice}
use Rattle.zones.proofs.deleting.chain_deletions.Goals as goal

pub loop-above-preserved : goal.loop-above-preserved
loop-above-preserved c =
    let at = c.loop-above in
    let x = c.in-Some.above in
    let ch = choice c.args.vers.now in
    let is_cand = is_in c.args.candidates.now in (
      c.in_ok-append_candidate_deletions.ensures
          ∙ ap (λ ys. ys ++ deletions ch (filter is_cand (x ∷ []))) at.invariant.0
          ∙ sym (ap (deletions ch) (filter-append is_cand at.yielded (x ∷ []))
          ∙ flat_map-append (del_of ch) (filter is_cand at.yielded) (filter is_cand (x ∷ []))),
      append_assoc at.yielded (x ∷ []) _ ∙ rw (← c.in-Some.ensures.steps) at.invariant.1,
    )

pub returns : goal.returns
returns c =
    let at = c.loop-above in
    let all = sym (append-nil at.yielded) ∙ rw c.in-None.ensures.steps.0 at at.invariant.1 in
    at.invariant.0 ∙ ap (λ xs. deletions (choice c.args.vers.now) (filter (is_in c.args.candidates.now) xs))
    (all ∙ c.into_iter-above-iterator.ensures.into_iter_gives ∙ c.chain-above-items.ensures)
