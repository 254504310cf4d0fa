-- Lists that do not name an id, by a test.
use Rattle.std.proofs.Common.{◌≡◌, true, not, List, [], ◌∷◌, refl, sym, ◌∙◌}
use Rattle.std.specs.Prelude.{Contains, All}
use Rattle.std.specs.List.{list_all}
use Rattle.std.proofs.lemmas.List.Elements.{All-nil, All-cons, All-head, All-tail}
use Rattle.std.proofs.lemmas.Bool.{true≢false, not-true, not_from_false, false_from_ne_true, and_parts, and_from}
use Rattle.terms.specs.Types.{Id}
use Rattle.terms.specs.Lookups.{is_in}
use Rattle.terms.proofs.Ids.{is_in_from_Contains, Contains_from_is_in}

-- no list has it, by the test
pub free_all : (own : Id) (lists : List (List Id)) → list_all (λ ids. not (is_in ids own)) lists ≡ true
    → All (λ ids. Contains ids own → ⊥) lists
free_all own [] e = All-nil (λ ids. Contains ids own → ⊥)
free_all own (ids ∷ lists) e =
    let parts = and_parts (not (is_in ids own)) (list_all (λ ids. not (is_in ids own)) lists) e in
    All-cons (λ ids. Contains ids own → ⊥) ids lists (λ h. true≢false
    (sym (is_in_from_Contains ids own h) ∙ not-true (is_in ids own) parts.0)) (free_all own lists parts.1)

pub all_free : (own : Id) (lists : List (List Id)) → All (λ ids. Contains ids own → ⊥) lists
    → list_all (λ ids. not (is_in ids own)) lists ≡ true
all_free own [] h = refl
all_free own (ids ∷ lists) h =
    let first = All-head (λ ids. Contains ids own → ⊥) ids lists h in
    let free : not (is_in ids own) ≡ true = not_from_false (is_in ids own)
    (false_from_ne_true (is_in ids own) (λ t. first (Contains_from_is_in ids own t))) in
    and_from (not (is_in ids own)) (list_all (λ ids. not (is_in ids own)) lists) free
    (all_free own lists (All-tail (λ ids. Contains ids own → ⊥) ids lists h))
