-- Elements, and for each of them the SYSMODs that change it.
use Rattle.std.specs.Prelude.{◌≡◌, List, filter, map}
use Rattle.terms.specs.Types.{Id, Change, Global}
use Rattle.terms.specs.Lookups.{change_key, has_change}
use Rattle.sorted.specs.ElementKeys.{Key, key_cmp}
use Rattle.sorted.specs.MultiMap.{MultiMap, listed, AreSome, AddsToAll}

-- each element gets x once more for each of these statements that is about it
abbrev pub AddsBy : Id → List Change → MultiMap Key Id → MultiMap Key Id → Type 0
AddsBy x hs old new = AddsToAll key_cmp (map change_key hs) x old new

-- Each element that some of these SYSMODs change is in the list, with all of them that change it, in their order.
pub record AreByElement (g : Global) (ids : List Id) (all : MultiMap Key Id) : Type 0 where
  pub list : (k : Key) → listed key_cmp all k ≡ filter (λ x. has_change g x k.0 k.1) ids
  pub some : AreSome key_cmp all
