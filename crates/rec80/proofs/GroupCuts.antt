-- A statement's records, cut from those of a file.
use Rattle.std.proofs.Common.{◌≡◌, ◌<◌, ◌+◌, ℕ, Bool, true, false, not, List, [], ◌∷◌, ◌++◌, length, take, drop, refl}
use Rattle.std.proofs.Common.{sym, ◌∙◌, ap, subst, arith, suc}
use Rattle.std.specs.List.{prefix_len}
use Rattle.std.proofs.lemmas.List.{take-append-drop}
use Rattle.std.proofs.lemmas.List.Elements.{All-weaker}
use Rattle.std.proofs.lemmas.Bool.{not-true, not-false}
use Rattle.terms.specs.Groups.{begins_statement, starts_outside, IsGroup}
use Rattle.rec80.proofs.Cuts.{BeginsOutside, back_fails}
use Rattle.terms.proofs.Searches.{prefix_passes}

abbrev pub is_later : List ℕ → Bool
is_later r = not (begins_statement r)

-- the first statement of the records
pub record IsFirstGroup (records front back : List (List ℕ)) : Type 0 where
  pub cut : records ≡ front ++ back
  pub group : IsGroup front
  pub rest : starts_outside back ≡ false

starts_inside : (rs : List (List ℕ)) → BeginsOutside is_later rs → starts_outside rs ≡ false
starts_inside [] h = refl
starts_inside (r ∷ rs) h = h

pub first_group : (records front back : List (List ℕ)) (n : ℕ) → starts_outside records ≡ false → 0 < length records
    → n ≡ prefix_len is_later (drop 1 records) → front ≡ take (1 + n) records → back ≡ drop (1 + n) records
    → IsFirstGroup records front back
first_group [] front back n starts some count front_is back_is = absurd (omega (arith, some))
first_group (r ∷ rs) front back n starts some count front_is back_is =
    let more : 1 + n ≡ suc (prefix_len is_later rs) = omega (arith, count) in
    let front_is' : front ≡ r ∷ take (prefix_len is_later rs) rs = front_is ∙ ap (λ k. take k (r ∷ rs)) more in
    let back_is' : back ≡ drop (prefix_len is_later rs) rs = back_is ∙ ap (λ k. drop k (r ∷ rs)) more in
    record {
      cut = sym (take-append-drop (1 + n) (r ∷ rs)) ∙ ap (λ x. x ++ drop (1 + n) (r ∷ rs)) (sym front_is)
          ∙ ap (λ x. front ++ x) (sym back_is);
      group = subst IsGroup (sym front_is') (
        not-false _ starts,
        All-weaker (λ x. is_later x ≡ true) (λ x. begins_statement x ≡ false) (λ x h. not-true (begins_statement x) h)
            _ (prefix_passes is_later rs),
      );
      rest = subst (λ b. starts_outside b ≡ false) (sym back_is') (starts_inside _ (back_fails is_later rs []));
    }
