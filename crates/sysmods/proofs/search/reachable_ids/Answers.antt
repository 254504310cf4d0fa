use Rattle.std.proofs.Common.{◌∙◌}
use Rattle.sysmods.proofs.search.reachable_ids.Goals as goal

pub returns : goal.returns
returns g c =
    let same = c.in_ok-ends.ensures.items ∙ c.as_slice.ensures.keys in
    let of_seen = rw same at c.from_vec.ensures.members in
    λ z. (
      λ in_ends. c.in_ok-seen.ensures.sound z ((of_seen z).0 in_ends),
      λ reached.
          (of_seen z).1 (c.in_ok-seen.ensures.all (λ none. none) z reached),
    )
