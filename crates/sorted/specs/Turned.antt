-- Edits of a list that rises by a key, which bring about what is wanted at some keys.
use Rattle.std.specs.Prelude.{◌≡◌, ◌≢◌, ◌⊎◌, Bool, List, Option, All, find, if◌then◌else◌}
use Rattle.std.specs.List.{list_any}
use Rattle.std.specs.declared.cmp.Ordering.{Ordering}
use Rattle.sorted.specs.declared.edits.Edit.{Edit}
use Rattle.sorted.specs.Edits.{edit_key, edit_put, after_edits}
use Rattle.terms.specs.Rising.{with_item}

module _ {X K : Type 0} (cmp : K → K → Ordering) (eq : K → K → Bool) (key : X → K) (old : List X)
    (wanted : K → Option X) where
  -- the item at a key
  abbrev pub had : K → Option X
  had k = find (λ x. eq (key x) k) old

  -- whether it is one of these keys
  abbrev pub is_key : List K → K → Bool
  is_key ks k = list_any (λ j. eq j k) ks

  -- the edit leaves at the key what is wanted there, and that is not what was there
  pub record Turns (k : K) (d : Edit X K) : Type 0 where
    pub at : edit_key key d ≡ k
    pub puts : edit_put d ≡ wanted k
    pub differs : edit_put d ≢ had k

  -- either the item at the key is the wanted one, or such an edit is added
  abbrev pub TurnsAt : K → List (Edit X K) → List (Edit X K) → Type 0
  TurnsAt k edits new = ((new ≡ edits) × (wanted k ≡ had k))
      ⊎ ((d : Edit X K) × (new ≡ with_item cmp (edit_key key) edits d) × Turns k d)

  -- The edits leave at these keys what is wanted there, and change nothing at others. Each of them changes something.
  pub record AreTurned (ks : List K) (edits : List (Edit X K)) : Type 0 where
    pub leaves : (k : K) → after_edits eq key edits old k ≡ (if is_key ks k then wanted k else had k)
    pub differ : All (λ d. edit_put d ≢ had (edit_key key d)) edits
