use Rattle.std.proofs.Common.{rules}
use Rattle.std.proofs.lemmas.Fn.{always_returns_same}
use Rattle.terms.specs.Types.{Change}
use Rattle.terms.specs.Global.{change_cmp}
use Rattle.terms.proofs.ElementOrder.{change_cmp_total}
use Rattle.terms.proofs.RisingLists.{found_search, missing_search}
use Rattle.sysmods_values.proofs.adding.change_place.Goals as goal

pub returns-clause-found : goal.returns-clause-found
returns-clause-found c =
    let position = c.binary_search_by.ensures.position (λ (x : Change). change_cmp x c.args.change.now)
    (always_returns_same _ _ _ (λ a r h q. (search rules, search rules))) in
    found_search change_cmp_total (λ (x : Change). x) c.args.change.now c.args.changes.now c.requires
    c.binary_search_by.result c.binary_search_by.ensures.bound position

pub returns-clause-missing : goal.returns-clause-missing
returns-clause-missing c =
    let position = c.binary_search_by.ensures.position (λ (x : Change). change_cmp x c.args.change.now)
    (always_returns_same _ _ _ (λ a r h q. (search rules, search rules))) in
    missing_search change_cmp_total (λ (x : Change). x) c.args.change.now c.args.changes.now c.requires
    c.binary_search_by.result c.binary_search_by.ensures.bound position
