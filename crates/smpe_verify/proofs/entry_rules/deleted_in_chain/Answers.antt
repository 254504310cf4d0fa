use Rattle.std.proofs.Common.{◌∙◌, sym, rules, tests}
use Rattle.std.specs.Prelude.{is_some}
use Rattle.std.proofs.lemmas.Iterator.Adapters.{option_map_id}
use Rattle.std.proofs.lemmas.Iterator.Consumers.{YieldsList-from_first}
use Rattle.std.proofs.lemmas.Iterator.Search.{find_from_yields_List}
use Rattle.terms.specs.Lookups.{delby_of}
use Rattle.smpe_verify.proofs.entry_rules.deleted_in_chain.Goals as goal

pub returns : goal.returns
returns c =
    sym (option_map_id c.find.result)
    ∙ find_from_yields_List (λ y. is_some (delby_of c.args.zone.now y)) _ _ c.find.result c.find.ensures.ran
    (YieldsList-from_first (λ x. x) (λ s. s) _ c.chain.ensures) (λ x b q k. search (rules, tests))
