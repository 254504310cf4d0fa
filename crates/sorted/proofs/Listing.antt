-- Lists by keys: what they have after one value more, and in any order what they hold.
use Rattle.std.proofs.Common.{◌≡◌, ◌≢◌, ◌∙◌, Bool, true, false, List, [], ◌∷◌, ◌++◌, None, Some, sym, ap, subst, cond}
use Rattle.std.proofs.Common.{ℕ, ◌<◌, ◌+◌, Global, Vec, refl, length, take, get_or, append_assoc, append-nil}
use Rattle.std.specs.declared.cmp.Ordering.{Ordering}
use Rattle.std.specs.List.{flat_map}
use Rattle.std.specs.Map.{lookup}
use Rattle.std.specs.Option.{option_map_or}
use Rattle.std.specs.Ordering.{is_eq}
use Rattle.std.specs.Cmp.{IsTotalOrder}
use Rattle.std.specs.BTreeMap.{get, UpdatesBy}
use Rattle.std.proofs.lemmas.List.Concat.{flat_map-append}
use Rattle.std.proofs.lemmas.Option.{same_Some}
use Rattle.terms.proofs.Lists.{front_more}
use Rattle.terms.proofs.Orderings.{Equal_from_is_eq}
use Rattle.sorted.specs.MultiMap.{MultiMap, listed, AreSome, Adds, AddsToAll, once_each}

not_nil : {V : Type 0} (l : List V) (x : V) → l ++ x ∷ [] ≢ []
not_nil [] x e = cc e
not_nil (y ∷ l) x e = cc e

module _ {K V : Type 0} (cmp : K → K → Ordering) where
  pub listed_none : (all : MultiMap K V) (k : K) → get cmp all k ≡ None → listed cmp all k ≡ []
  listed_none all k at = ap (λ o. option_map_or (λ v. v.items) o []) at

  pub listed_at : (all : MultiMap K V) (k : K) (v : Vec V Global) → get cmp all k ≡ Some v → listed cmp all k ≡ v.items
  listed_at all k v at = ap (λ o. option_map_or (λ v. v.items) o []) at

  -- by no key
  pub adds_to_none : (x : V) (all : MultiMap K V) → AddsToAll cmp [] x all all
  adds_to_none x all = record { list = λ q. sym (append-nil (listed cmp all q)); some = λ some. some }

  -- by one key more
  pub adds_to_next : (ks : List K) (i : ℕ) (k : K) (x : V) (base old new : MultiMap K V) → i < length ks
      → k ≡ get_or ks i k → AddsToAll cmp (take i ks) x base old → Adds cmp k x old new
      → AddsToAll cmp (take (i + 1) ks) x base new
  adds_to_next ks i k x base old new below at so_far adds = record {
    list = λ q. list q (is_eq (cmp k q)) refl;
    some = λ some. adds.some (so_far.some some);
  }
    where
      one : K → K → List V
      one q j = cond (is_eq (cmp j q)) (x ∷ []) []

      more : (q : K) → once_each cmp (take (i + 1) ks) x q ≡ once_each cmp (take i ks) x q ++ one q k
      more q = ap (flat_map (one q)) (front_more ks i k below at) ∙ flat_map-append (one q) (take i ks) (k ∷ [])
          ∙ ap (λ l. once_each cmp (take i ks) x q ++ l) (append-nil (one q k))

      next : (q : K) (b : Bool) → is_eq (cmp k q) ≡ b → listed cmp new q ≡ listed cmp old q ++ one q k
      next q true e = rw (adds.list q, e) refl
      next q false e = rw (adds.list q, e) (sym (append-nil (listed cmp old q)))

      list : (q : K) (b : Bool) → is_eq (cmp k q) ≡ b
          → listed cmp new q ≡ listed cmp base q ++ once_each cmp (take (i + 1) ks) x q
      list q b e = next q b e ∙ ap (λ l. l ++ one q k) (so_far.list q)
          ∙ append_assoc (listed cmp base q) (once_each cmp (take i ks) x q) (one q k)
          ∙ ap (λ l. listed cmp base q ++ l) (sym (more q))

  module _ (o : IsTotalOrder cmp) where
    -- keys that are told apart by nothing have one list
    listed_tied : (all : MultiMap K V) (k q : K) → is_eq (cmp k q) ≡ true → listed cmp all k ≡ listed cmp all q
    listed_tied all k q e =
        let tied = Equal_from_is_eq (cmp k q) e in
        ap (λ (f : K → Ordering). option_map_or (λ v. v.items) (lookup (λ z. is_eq (f z)) all.entries) [])
        (λ i z. o.congr k q z tied i)

    -- the values of a key go on with one more
    pub adds_update : (old new : MultiMap K V) (k : K) (x : V) (w : Vec V Global)
        → UpdatesBy cmp (cmp k) old new (Some w) → w.items ≡ listed cmp old k ++ x ∷ [] → Adds cmp k x old new
    adds_update old new k x w updates goes_on = record {
      list = λ q. list_at q (is_eq (cmp k q)) refl;
      some = λ all q v. some_at all q v (is_eq (cmp k q)) refl;
    }
      where
        there : (q : K) (b : Bool) → is_eq (cmp k q) ≡ b → get cmp new q ≡ cond b (Some w) (get cmp old q)
        there q b e = updates.0 q ∙ ap (λ a. cond a (Some w) (get cmp old q)) e

        list_at : (q : K) (b : Bool) → is_eq (cmp k q) ≡ b
            → listed cmp new q ≡ cond b (listed cmp old q ++ x ∷ []) (listed cmp old q)
        list_at q true e = ap (λ o. option_map_or (λ v. v.items) o []) (there q true e) ∙ goes_on
            ∙ ap (λ l. l ++ x ∷ []) (listed_tied old k q e)
        list_at q false e = ap (λ o. option_map_or (λ v. v.items) o []) (there q false e)

        some_at : AreSome cmp old → (q : K) (v : Vec V Global) (b : Bool) → is_eq (cmp k q) ≡ b
            → get cmp new q ≡ Some v → v.items ≢ []
        some_at all q v true e at =
            subst (λ u. u.items ≢ []) (same_Some w v (sym (there q true e) ∙ at))
            (λ nil. not_nil (listed cmp old k) x (sym goes_on ∙ nil))
        some_at all q v false e at = all q v (sym (there q false e) ∙ at)
