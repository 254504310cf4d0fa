-- Values by their texts: in rising order, and without doubles.
use Rattle.std.proofs.Common.{◌≡◌, ◌≢◌, true, IsTrue, List, length, map, get_or, sym, ◌∙◌, ap, subst, arith}
use Rattle.std.specs.Prelude.{Contains, ◌↔◌}
use Rattle.std.specs.declared.cmp.Ordering.{Ordering}
use Rattle.std.specs.declared.cmp.Ordering.TheVariants.{Equal}
use Rattle.std.specs.Ordering.{is_lt, nat_cmp}
use Rattle.std.specs.Cmp.Lexicographic.{slice_cmp}
use Rattle.terms.specs.Types.{Text}
use Rattle.terms.specs.Lookups.{is_before}
use Rattle.terms.specs.Rising.{Rises}
use Rattle.terms.specs.Words.{AreDistinct}
use Rattle.terms.specs.Operands.{AreSorted}
use Rattle.terms.proofs.Apart.{AreApart, apart_le, apart_from_length}
use Rattle.terms.proofs.ListMembers.{in_map, map_in}
use Rattle.terms.proofs.Pairs.{pairs_map, pairs_unmap}

-- Values whose order is that of their texts.
module _ {X : Type 0} (cmp : X → X → Ordering) (text : X → Text)
    (order : (x y : X) → cmp x y ≡ slice_cmp nat_cmp (text x) (text y)) where
  same_text : ((x : X) → cmp x x ≡ Equal) → ((x y : X) → cmp x y ≡ Equal → x ≡ y) → (x y : X) → text x ≡ text y → x ≡ y
  same_text ties exact x y e = exact x y (order x y ∙ ap (slice_cmp nat_cmp (text x)) (sym e) ∙ sym (order x x)
      ∙ ties x)

  less_apart : ((x : X) → cmp x x ≡ Equal) → (x y : X) → is_lt (cmp x y) ≡ true → x ≢ y
  less_apart ties x y less same =
      let low : is_lt Equal ≡ true = sym (ap is_lt (sym (ap (cmp x) same) ∙ ties x)) ∙ less in
      cc (low)

  -- What rises has no doubles.
  pub rises_apart : ((x : X) → cmp x x ≡ Equal) → (xs : List X) → Rises cmp (λ x. x) xs → AreApart xs
  rises_apart ties xs rises = λ i j d before below. less_apart ties (get_or xs i d) (get_or xs j d)
      (rises i j d before below)

  -- the items in rising order, by their texts
  pub sorted_texts : (xs rising : List X) → Rises cmp (λ x. x) rising → ((x : X) → Contains rising x ↔ Contains xs x)
      → AreSorted (map text xs) (map text rising)
  sorted_texts xs rising rises same = record {
    rising = pairs_map (λ x y. IsTrue (is_lt (cmp x y))) (λ s t. IsTrue (is_before s t)) text
        (λ x y less. ap is_lt (sym (order x y)) ∙ less) rising rises;
    same = λ t. (
      λ h. let m = map_in text rising t h in subst (Contains (map text xs)) m.2 (in_map text xs m.0 ((same m.0).0 m.1)),
      λ h. let m = map_in text xs t h in subst (Contains (map text rising)) m.2
          (in_map text rising m.0 ((same m.0).1 m.1)),
    );
  }

  -- The list has no doubles exactly where as many are left without them.
  pub distinct_texts : ((x : X) → cmp x x ≡ Equal) → ((x y : X) → cmp x y ≡ Equal → x ≡ y) → (xs rising : List X)
      → Rises cmp (λ x. x) rising → ((x : X) → Contains rising x ↔ Contains xs x) → length rising ≡ length xs
      → AreDistinct (map text xs)
  distinct_texts ties exact xs rising rises same len =
      pairs_map (λ x y. x ≢ y) (λ s t. s ≢ t) text (λ x y other e. other (same_text ties exact x y e)) xs
      (apart_from_length xs rising (rises_apart ties rising rises) (λ z h. (same z).0 h) (omega (arith, len)))

  pub doubles_texts : ((x : X) → cmp x x ≡ Equal) → (xs rising : List X) → Rises cmp (λ x. x) rising
      → ((x : X) → Contains rising x ↔ Contains xs x) → (length rising ≡ length xs → ⊥) → AreDistinct (map text xs) → ⊥
  doubles_texts ties xs rising rises same other distinct =
      let apart : AreApart xs = pairs_unmap (λ x y. x ≢ y) (λ s t. s ≢ t) text (λ x y n e. n (ap text e)) xs distinct in
      let up = apart_le xs rising apart (λ z h. (same z).1 h) in
      let down = apart_le rising xs (rises_apart ties rising rises) (λ z h. (same z).0 h) in
      other (omega (arith, up, down))
