-- What stands at each key after one edit more of those that turn a list.
use Rattle.std.proofs.Common.{◌≡◌, inl, inr, Bool, true, false, List, [], ◌∷◌, ◌++◌, Option, Some, refl, sym, ap}
use Rattle.std.proofs.Common.{◌∙◌, subst, cond}
use Rattle.std.specs.Prelude.{◌||◌, find, if◌then◌else◌}
use Rattle.std.specs.List.{list_any}
use Rattle.std.specs.Option.{option_map_or}
use Rattle.std.specs.declared.cmp.Ordering.{Ordering}
use Rattle.std.specs.Ordering.{is_eq}
use Rattle.std.specs.Cmp.{IsTotalOrder}
use Rattle.std.proofs.lemmas.List.Elements.{All-nil}
use Rattle.terms.proofs.Booleans.{or_false}
use Rattle.sorted.specs.declared.edits.Edit.{Edit}
use Rattle.sorted.specs.Edits.{edit_key, edit_put, after_edits}
use Rattle.terms.specs.Rising.{with_item}
use Rattle.terms.proofs.Placing.{All_with_item}
use Rattle.sorted.specs.Turned.{had, is_key, Turns, TurnsAt, AreTurned}
use Rattle.sorted.proofs.InTurn.{find_with_item}

-- a test of one more
any_push : {X : Type 0} (p : X → Bool) (xs : List X) (y : X) → list_any p (xs ++ y ∷ []) ≡ (list_any p xs || p y)
any_push p [] y = or_false (p y)
any_push p (x ∷ xs) y = by (any_push p xs y) (p x)
  where
    by : list_any p (xs ++ y ∷ []) ≡ (list_any p xs || p y) → (b : Bool)
        → (b || list_any p (xs ++ y ∷ [])) ≡ ((b || list_any p xs) || p y)
    by rest true = refl
    by rest false = rest

module _ {X K : Type 0} {R : K → K → Ordering} (o : IsTotalOrder R) (key : X → K) (E : K → K → Bool)
    (ties : (a b : K) → E a b ≡ is_eq (R a b)) (exact : (a b : K) → E a b ≡ true → a ≡ b) (old : List X)
    (wanted : K → Option X) where
  abbrev AtOnce : List K → List (Edit X K) → Type 0
  AtOnce = AreTurned R E key old wanted

  abbrev was : K → Option X
  was = had R E key old wanted

  abbrev among : List K → K → Bool
  among = is_key R E key old wanted

  pub turned_none : AtOnce [] []
  turned_none = record {
    leaves = λ k. refl;
    differ = All-nil (λ (d : Edit X K). edit_put d ≡ was (edit_key key d) → ⊥);
  }

  -- what stands at a key after an edit
  after_edit : (edits : List (Edit X K)) (d : Edit X K) (k : K)
      → after_edits E key (with_item R (edit_key key) edits d) old k
      ≡ cond (E (edit_key key d) k) (edit_put d) (after_edits E key edits old k)
  after_edit edits d k =
      ap (λ found. option_map_or edit_put found (was k)) (find_with_item o (edit_key key) E ties edits d k)
      ∙ by (E (edit_key key d) k)
    where
      by : (b : Bool) → option_map_or edit_put (cond b (Some d) (find (λ e. E (edit_key key e) k) edits)) (was k)
          ≡ cond b (edit_put d) (after_edits E key edits old k)
      by true = refl
      by false = refl

  -- a key more, where what is wanted stands already
  stands : (ks : List K) (k : K) (edits : List (Edit X K)) → AtOnce ks edits → wanted k ≡ was k
      → AtOnce (ks ++ k ∷ []) edits
  stands ks k edits so_far same = record {
    leaves = λ j. so_far.leaves j
        ∙ by j (among ks j) (E k j) refl
        ∙ ap (λ b. if b then wanted j else was j) (sym (any_push (λ i. E i j) ks k));
    differ = so_far.differ;
  }
    where
      by : (j : K) (a b : Bool) → E k j ≡ b → (if a then wanted j else was j) ≡ (if (a || b) then wanted j else was j)
      by j true b at = refl
      by j false true at = sym (subst (λ i. wanted i ≡ was i) (exact k j at) same)
      by j false false at = refl

  -- a key more, with an edit
  edited : (ks : List K) (k : K) (edits : List (Edit X K)) (d : Edit X K) → AtOnce ks edits
      → Turns R E key old wanted k d → AtOnce (ks ++ k ∷ []) (with_item R (edit_key key) edits d)
  edited ks k edits d so_far turns = record {
    leaves = λ j. after_edit edits d j
        ∙ by j (E (edit_key key d) j) refl
        ∙ ap (λ b. if b then wanted j else was j) (sym (any_push (λ i. E i j) ks k));
    differ = All_with_item R (edit_key key) (λ (d : Edit X K). edit_put d ≡ was (edit_key key d) → ⊥) edits d
        so_far.differ (λ same. turns.differs (same ∙ ap was turns.at));
  }
    where
      or_true : (a b : Bool) → b ≡ true → (a || b) ≡ true
      or_true true b at = refl
      or_true false b at = at

      or_none : (a b : Bool) → b ≡ false → (a || b) ≡ a
      or_none true b at = refl
      or_none false b at = at

      by : (j : K) (b : Bool) → E (edit_key key d) j ≡ b
          → cond b (edit_put d) (after_edits E key edits old j)
          ≡ (if (among ks j || E k j) then wanted j else was j)
      by j true at =
          turns.puts ∙ ap wanted (sym turns.at ∙ exact (edit_key key d) j at)
          ∙ ap (λ b. if b then wanted j else was j)
          (sym (or_true (among ks j) (E k j) (sym (ap (λ i. E i j) turns.at) ∙ at)))
      by j false at =
          so_far.leaves j
          ∙ ap (λ b. if b then wanted j else was j)
          (sym (or_none (among ks j) (E k j) (sym (ap (λ i. E i j) turns.at) ∙ at)))

  pub turned_next : (ks : List K) (k : K) (edits new : List (Edit X K)) → AtOnce ks edits
      → TurnsAt R E key old wanted k edits new → AtOnce (ks ++ k ∷ []) new
  turned_next ks k edits new so_far turns =
      elim turns [
        | inl same ↦ subst (AtOnce (ks ++ k ∷ [])) (sym same.0) (stands ks k edits so_far same.1)
        | inr edit ↦ subst (AtOnce (ks ++ k ∷ [])) (sym edit.1) (edited ks k edits edit.0 so_far edit.2)
      ]
