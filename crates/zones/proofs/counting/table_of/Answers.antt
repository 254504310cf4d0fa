use Rattle.std.proofs.Common.{refl, sym, List, Option, None, Some, IsPermutation, subst}
use Rattle.std.specs.Prelude.{IsSome, IfNone, IfSome}
use Rattle.std.proofs.lemmas.List.Sorted.{IsPermutation-refl}
use Rattle.terms.proofs.RisingAlike.{rises_permuted}
use Rattle.zones.proofs.counting.table_of.Goals as goal

some_there : {X : Type 0} (P : List X → Type 0) (xs : List X) (o : Option (List X)) → P xs
    → IfNone o ((ys : List X) → IsPermutation xs ys → ¬ P ys) → IsSome o
some_there P xs None rises none = absurd (none xs (IsPermutation-refl xs) rises)
some_there P xs (Some ys) rises none = refl

pub unwrap-requires : goal.unwrap-requires
unwrap-requires g c = some_there _ c.args.items.items c.from_vec.result c.requires c.from_vec.ensures.none

pub returns : goal.returns
returns g c =
    let same = subst (λ o. IfSome o (λ table. IsPermutation c.args.items.items table)) c.unwrap.ensures
    c.from_vec.ensures.same in
    let rises = rw c.unwrap.ensures at c.from_vec.ensures.rising in
    sym (rises_permuted g.met.T.Key.Ord.total g.T.Keyed.key_of c.args.items.items c.unwrap.result c.requires rises same)
