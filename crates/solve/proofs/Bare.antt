-- Needs that no candidate serves, by tests.
use Rattle.std.proofs.Common.{◌≡◌, ℕ, Bool, true, List, [], length, map, sym}
use Rattle.std.proofs.Common.{subst, ap, eq-eqb}
use borrow.Author.Tests.{eqb-true}
use Rattle.std.proofs.lemmas.List.{nil_from_length}
use Rattle.std.proofs.lemmas.Bool.{and_parts, and_from}
use Rattle.std.specs.Prelude.{◌&&◌, ◌==◌, ◌↔◌}
use Rattle.std.specs.List.{Any, list_any}
use Rattle.std.proofs.lemmas.List.Folds.{Any-from_list_any, list_any-from_Any}
use Rattle.solve.specs.System.{Need}
use Rattle.solve.specs.declared.system.Need.{Need as StoredNeed}
use Rattle.solve.specs.NeedView.{numbered}
use Rattle.terms.proofs.Each.{any_map, any_unmap}

abbrev pub is_bare : ℕ → StoredNeed → Bool
is_bare x n = (n.of == x) && (length n.any.items == 0)

bare_to : (x : ℕ) (n : StoredNeed) → is_bare x n ≡ true → ((numbered n).of ≡ x) × ((numbered n).any ≡ [])
bare_to x n h = let both = and_parts (n.of == x) (length n.any.items == 0) h
    in (eqb-true n.of x both.0, nil_from_length n.any.items (eqb-true _ 0 both.1))

bare_from : (x : ℕ) (n : StoredNeed) → ((numbered n).of ≡ x) × ((numbered n).any ≡ []) → is_bare x n ≡ true
bare_from x n h = and_from (n.of == x) (length n.any.items == 0) (eq-eqb n.of x h.0) (ap (λ xs. length xs == 0) h.1)

pub bare_exact : (ds : List Need) (stored : List StoredNeed) (x : ℕ) → map numbered stored ≡ ds
    → (list_any (is_bare x) stored ≡ true) ↔ Any (λ d. (d.of ≡ x) × (d.any ≡ [])) ds
bare_exact ds stored x maps = (
  λ some.
      let a = Any-from_list_any (is_bare x) stored some in
      subst (Any (λ d. (d.of ≡ x) × (d.any ≡ []))) maps (any_map (λ d. (d.of ≡ x) × (d.any ≡ [])) numbered stored
      (a.0, a.1, a.2, a.3, bare_to x a.1 a.4)),
  λ bare.
      let a = any_unmap (λ d. (d.of ≡ x) × (d.any ≡ [])) numbered stored
      (subst (Any (λ d. (d.of ≡ x) × (d.any ≡ []))) (sym maps) bare) in
      list_any-from_Any (is_bare x) stored (a.0, a.1, a.2, a.3, bare_from x a.1 a.4),
)
