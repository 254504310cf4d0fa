use Rattle.std.proofs.Common.{rules}
use Rattle.std.proofs.lemmas.List.Sorted.{answers_always}
use Rattle.terms.proofs.RisingLists.{found_search, missing_search}
use Rattle.sorted.proofs.keyed.place.Goals as goal

pub returns-clause-found : goal.returns-clause-found
returns-clause-found g c =
    let position = c.binary_search_by_key.ensures.position g.T.Keyed.key_of
    (answers_always _ _ _ (λ f a r h q. search rules)) in
    found_search g.met.T.Key.Ord.total g.T.Keyed.key_of c.args.key c.args.items.now c.requires
    c.binary_search_by_key.result c.binary_search_by_key.ensures.bound position

pub returns-clause-missing : goal.returns-clause-missing
returns-clause-missing g c =
    let position = c.binary_search_by_key.ensures.position g.T.Keyed.key_of
    (answers_always _ _ _ (λ f a r h q. search rules)) in
    missing_search g.met.T.Key.Ord.total g.T.Keyed.key_of c.args.key c.args.items.now c.requires
    c.binary_search_by_key.result c.binary_search_by_key.ensures.bound position
