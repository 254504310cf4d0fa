-- A list that rises by a key, and has at some keys what is wanted there.
use Rattle.std.proofs.Common.{◌≡◌, ◌∙◌, Bool, true, false, List, [], ◌∷◌, Option, None, Some, All}
use Rattle.std.proofs.Common.{find, refl, sym, ap, cond}
use Rattle.std.specs.Prelude.{◌||◌, IfSome, if◌then◌else◌}
use Rattle.std.specs.List.{list_any}
use Rattle.std.specs.declared.cmp.Ordering.{Ordering}
use Rattle.std.specs.Ordering.{is_eq}
use Rattle.std.specs.Cmp.{IsTotalOrder}
use Rattle.std.proofs.lemmas.List.Elements.{All-cons, All-nil}
use Rattle.sorted.specs.declared.edits.Edit.{Edit}
use Rattle.sorted.specs.declared.edits.Edit.TheVariants.{Put, Remove}
use Rattle.sorted.specs.Edits.{edit_key, edit_put, after_edit}
use Rattle.sorted.proofs.Editing.{Rises_after_edit, All_edited, find_after_edit}
use Rattle.terms.specs.Rising.{Rises}

-- the edit that leaves this at the key
edit_to : {X K : Type 0} → K → Option X → Edit X K
edit_to k None = Remove k
edit_to k (Some x) = Put x

edit_to_key : {X K : Type 0} (key : X → K) (k : K) (wanted : Option X) → IfSome wanted (λ x. key x ≡ k)
    → edit_key key (edit_to k wanted) ≡ k
unfolding edit_to
edit_to_key key k None at = refl
edit_to_key key k (Some x) at = at

edit_to_put : {X K : Type 0} (k : K) (wanted : Option X) → edit_put (edit_to k wanted) ≡ wanted
unfolding edit_to
edit_to_put k None = refl
edit_to_put k (Some x) = refl

module _ {X K : Type 0} {R : K → K → Ordering} (o : IsTotalOrder R) (key : X → K) (wanted : K → Option X) where
  edit_at : K → Edit X K
  edit_at k = edit_to k (wanted k)

  -- the list, with what is wanted at these keys
  pub with_wanted : List K → List X → List X
  with_wanted [] xs = xs
  with_wanted (k ∷ ks) xs = after_edit R key (with_wanted ks xs) (edit_at k)

  pub with_wanted_rises : (ks : List K) (xs : List X) → Rises R key xs → Rises R key (with_wanted ks xs)
  unfolding with_wanted
  with_wanted_rises [] xs rises = rises
  with_wanted_rises (k ∷ ks) xs rises =
      Rises_after_edit o key (with_wanted ks xs) (edit_at k) (with_wanted_rises ks xs rises)

  pub with_wanted_all : (P : X → Type 0) → ((k : K) → IfSome (wanted k) P) → (ks : List K) (xs : List X) → All P xs
      → All P (with_wanted ks xs)
  unfolding with_wanted edit_at edit_to
  with_wanted_all P each [] xs all = all
  with_wanted_all P each (k ∷ ks) xs all =
      All_edited o key P (edit_at k ∷ []) (with_wanted ks xs) (with_wanted_all P each ks xs all)
      (All-cons (λ e. IfSome (edit_put e) P) (edit_at k) [] (by (wanted k) (each k))
      (All-nil (λ (e : Edit X K). IfSome (edit_put e) P)))
    where
      by : (w : Option X) → IfSome w P → IfSome (edit_put (edit_to k w)) P
      by None is = is
      by (Some x) is = is

  module _ (E : K → K → Bool) (ties : (a b : K) → E a b ≡ is_eq (R a b)) (exact : (a b : K) → E a b ≡ true → a ≡ b)
      (keyed : (k : K) → IfSome (wanted k) (λ x. key x ≡ k)) where
    abbrev found : List X → K → Option X
    found xs j = find (λ x. E (key x) j) xs

    pub found_wanted : (ks : List K) (xs : List X) (j : K) → found (with_wanted ks xs) j
        ≡ (if list_any (λ k. E k j) ks then wanted j else found xs j)
    unfolding with_wanted edit_at
    found_wanted [] xs j = refl
    found_wanted (k ∷ ks) xs j =
        find_after_edit o key E ties (with_wanted ks xs) (edit_at k) j
        ∙ ap (λ l. cond (E l j) (edit_put (edit_at k)) (found (with_wanted ks xs) j))
        (edit_to_key key k (wanted k) (keyed k))
        ∙ ap (λ w. cond (E k j) w (found (with_wanted ks xs) j)) (edit_to_put k (wanted k))
        ∙ by (found_wanted ks xs j) (E k j) refl
      where
        rest : List X
        rest = with_wanted ks xs

        one : Bool → Option X
        one b = if b || list_any (λ k. E k j) ks then wanted j else found xs j

        by : found rest j ≡ one false → (b : Bool) → E k j ≡ b → cond (E k j) (wanted k) (found rest j) ≡ one (E k j)
        by later true same =
            ap (λ b. cond b (wanted k) (found rest j)) same ∙ ap wanted (exact k j same) ∙ sym (ap one same)
        by later false other =
            ap (λ b. cond b (wanted k) (found rest j)) other ∙ later ∙ sym (ap one other)
