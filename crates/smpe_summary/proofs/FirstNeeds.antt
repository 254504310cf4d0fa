-- The first need that passes a test.
use Rattle.std.proofs.Common.{◌≡◌, ◌∙◌, Bool, List, Option, map, refl, sym, ap}
use Rattle.std.specs.Prelude.{find, option_map}
use Rattle.terms.proofs.Searches.{find_mapped}
use Rattle.machine.specs.Outcome as machine
use Rattle.judge_system.specs.declared.failure.OpenNeed.{OpenNeed}
use Rattle.judge_system.specs.Views.{need_view}

-- what is found, as contracts see it
pub found_need : (p : machine.OpenNeed → Bool) (needs : List OpenNeed) (found : Option OpenNeed)
    → found ≡ find (λ n. p (need_view n)) needs → option_map need_view found ≡ find p (map need_view needs)
found_need p needs found is =
    ap (option_map need_view) is ∙ sym (find_mapped (λ n. p (need_view n)) p need_view (λ n. refl) needs)
