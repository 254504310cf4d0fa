-- Where no candidate names anything in DELETE, those of a chain name nothing there.
use Rattle.std.proofs.Common.{◌≡◌, List, [], ◌∷◌, Contains, filter, refl}
use Rattle.terms.proofs.ListMembers.{here, filter_in, flat_in, in_flat, none_in_nil}
use Rattle.terms.specs.Types.{Id}
use Rattle.terms.specs.Lookups.{is_in}
use Rattle.terms.specs.Choice.{Choice, del_of}
use Rattle.terms.specs.Deleted.{deletions}
use Rattle.terms.proofs.Ids.{Contains_from_is_in}

nothing : {X : Type 0} (xs : List X) → ((x : X) → Contains xs x → ⊥) → xs ≡ []
nothing [] none = refl
nothing (x ∷ xs) none = absurd (none x (here x xs))

pub none_of_chain : (c : Choice) (cands xs : List Id) → deletions c cands ≡ []
    → deletions c (filter (is_in cands) xs) ≡ []
none_of_chain c cands xs none = nothing (deletions c (filter (is_in cands) xs)) (λ z h.
    let from = flat_in (del_of c) (filter (is_in cands) xs) z h in
    let cand = Contains_from_is_in cands from.0 (filter_in (is_in cands) xs from.0 from.1).1 in
    none_in_nil (deletions c cands) z none (in_flat (del_of c) cands from.0 z cand from.2))
