use Rattle.select.proofs.Growth.{joined, kept_of, candidates_from, candidates_installable}
use Rattle.select.proofs.selected.candidate_ids.Goals as goal

pub returns-clause-members : goal.returns-clause-members
returns-clause-members c =
    candidates_from c.args.scope.now c.in_ok-ids.ids.items c.in_ok-asked.asked.keys c.in_ok-brought_in.brought_in.items
    c.from_vec.result c.in_ok-ids.ensures c.in_ok-asked.ensures
    (kept_of _ _ _ _ c.in_ok-brought_in.ensures c.as_slice-2.ensures.keys)
    (joined _ _ _ _ _ c.in_ok-extend_from_slice.ensures.items c.as_slice-3.ensures.value c.from_vec.ensures.members)
    c.from_vec.ensures.rising

pub returns-clause-installable : goal.returns-clause-installable
returns-clause-installable c =
    candidates_installable c.args.scope.now c.in_ok-ids.ids.items c.in_ok-asked.asked.keys
    c.in_ok-brought_in.brought_in.items c.from_vec.result c.in_ok-ids.ensures c.in_ok-asked.ensures
    (kept_of _ _ _ _ c.in_ok-brought_in.ensures c.as_slice-2.ensures.keys)
    (joined _ _ _ _ _ c.in_ok-extend_from_slice.ensures.items c.as_slice-3.ensures.value c.from_vec.ensures.members)
