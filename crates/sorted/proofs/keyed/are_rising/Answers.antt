use Rattle.std.proofs.Common.{◌≡◌, ◌<◌, ◌+◌, ◌∷◌, [], ◌++◌, ◌∙◌, length, take, get_or, IsTrue, true, false, sym, ap}
use Rattle.std.proofs.Common.{arith, rules}
use Rattle.std.specs.Prelude.{All}
use Rattle.std.specs.Ordering.{is_lt}
use Rattle.std.proofs.lemmas.List.{take_more, take_all, get_or-take, get_or_default, length-take-le}
use Rattle.terms.specs.Rising.{Rises}
use Rattle.terms.proofs.RisingLists.{AllPairs_last}
use Rattle.sorted.proofs.keyed.are_rising.Goals as goal

pub returns-then-not-comes_after_all : goal.returns-then-not-comes_after_all
returns-then-not-comes_after_all g c =
    let xs = c.args.items.now in
    let i = c.loop-i.i in
    let cmp = g.T.Key.Ord.cmp in
    let key = g.T.Keyed.key_of in
    let here : i < length xs = omega (arith, c.loop-i-test.true) in
    let no : c.comes_after_all.result ≡ false = c.if-not-comes_after_all.true in (
      λ yes. absurd cc,
      λ rises.
          let low : All (λ x. IsTrue (is_lt (cmp (key x) c.key.result))) (take i xs) = λ k d within.
          let short : length (take i xs) ≡ i = length-take-le i xs (omega (arith, here)) in
          let at : get_or (take i xs) k d ≡ get_or xs k d = get_or-take i xs k d (omega (arith, within, short)) in
          let last : get_or xs i d ≡ c.index-items-i.result =
          get_or_default xs i d c.index-items-i.result here ∙ sym c.index-items-i.is in
          ap (λ a. is_lt (cmp (key a) c.key.result)) at
          ∙ ap (λ k2. is_lt (cmp (key (get_or xs k d)) k2)) (c.key.ensures ∙ ap key (sym last))
          ∙ rises k i d (omega (arith, within, short)) here in
          let yes : c.comes_after_all.result ≡ true = c.comes_after_all.ensures.1 low in
          absurd cc,
    )

pub loop-i-preserved : goal.loop-i-preserved
loop-i-preserved g c =
    let xs = c.args.items.now in
    let i = c.loop-i.i in
    let x = c.index-items-i.result in
    let cmp = g.T.Key.Ord.cmp in
    let key = g.T.Keyed.key_of in
    let low : All (λ y. is_lt (cmp (key y) (key x)) ≡ true) (take i xs) =
    rw c.key.ensures at (c.comes_after_all.ensures.0 c.if-not-comes_after_all.false) in
    let more : take (i + 1) xs ≡ take i xs ++ x ∷ [] = take_more xs i x (omega (arith, c.loop-i-test.true))
    ∙ ap (λ y. take i xs ++ y ∷ []) (sym c.index-items-i.is) in
    rw more (AllPairs_last g.met.T.Key.Ord.total key (take i xs) x c.loop-i.invariant low)

pub returns : goal.returns
returns g c =
    let xs = c.args.items.now in
    let all : take c.loop-i.i xs ≡ xs = take_all c.loop-i.i xs (omega (arith, c.loop-i-test.false)) in
    let rises : Rises g.T.Key.Ord.cmp g.T.Keyed.key_of xs = rw all at c.loop-i.invariant in
    (λ _. rises, λ _. search rules)
