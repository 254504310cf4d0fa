use Rattle.std.proofs.Common.{◌≡◌, ◌<◌, ◌+◌, ◌∷◌, [], ◌++◌, ◌∙◌, length, take, get_or, true, false, sym, ap, subst}
use Rattle.std.proofs.Common.{arith, rules}
use Rattle.std.specs.Prelude.{All, AllPairs}
use Rattle.std.proofs.lemmas.List.{append-nil, take_more, take_all, get_or-take, get_or_default, length-take-le}
use Rattle.std.proofs.lemmas.List.Elements.{All-nil}
use Rattle.terms.proofs.Pairs.{AllPairs_between}
use Rattle.store_zones.specs.Related.{HeadsAreApart}
use Rattle.store_zones.proofs.related.have_distinct_related_zones.Goals as goal

pub returns-then-not-none_names_same_related_zone : goal.returns-then-not-none_names_same_related_zone
returns-then-not-none_names_same_related_zone c =
    let xs = c.args.heads.now in
    let i = c.loop-i.i in
    let x = c.index-heads-i.result in
    let here : i < length xs = omega (arith, c.loop-i-test.true) in
    let no : c.none_names_same_related_zone.result ≡ false = c.if-not-none_names_same_related_zone.true in (
      λ yes. absurd cc,
      λ pairs.
          let low : All (λ a. HeadsAreApart a x) (take i xs) = λ k d within.
          let short : length (take i xs) ≡ i = length-take-le i xs (omega (arith, here)) in
          let at : get_or (take i xs) k d ≡ get_or xs k d = get_or-take i xs k d (omega (arith, within, short)) in
          let last : get_or xs i d ≡ x = get_or_default xs i d x here ∙ sym c.index-heads-i.is in
          subst (λ a. HeadsAreApart a x) (sym at) (subst (HeadsAreApart (get_or xs k d)) last
          (pairs k i d (omega (arith, within, short)) here)) in
          let yes : c.none_names_same_related_zone.result ≡ true = c.none_names_same_related_zone.ensures.1 low in
          absurd cc,
    )

pub loop-i-preserved : goal.loop-i-preserved
loop-i-preserved c =
    let xs = c.args.heads.now in
    let i = c.loop-i.i in
    let x = c.index-heads-i.result in
    let low : All (λ a. HeadsAreApart a x) (take i xs) = c.none_names_same_related_zone.ensures.0
    c.if-not-none_names_same_related_zone.false in
    let more : take (i + 1) xs ≡ take i xs ++ x ∷ [] = take_more xs i x (omega (arith, c.loop-i-test.true))
    ∙ ap (λ y. take i xs ++ y ∷ []) (sym c.index-heads-i.is) in
    rw more (AllPairs_between HeadsAreApart (take i xs) [] x (rw (append-nil (take i xs)) c.loop-i.invariant) low
    (All-nil (HeadsAreApart x)))

pub returns : goal.returns
returns c =
    let xs = c.args.heads.now in
    let all : take c.loop-i.i xs ≡ xs = take_all c.loop-i.i xs (omega (arith, c.loop-i-test.false)) in
    let pairs : AllPairs HeadsAreApart xs = rw all at c.loop-i.invariant in
    (λ _. pairs, λ _. search rules)
