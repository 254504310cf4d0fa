-- How the ids that are seen grow, one insertion after the other.
use Rattle.std.proofs.Common.{◌≡◌, ℕ, ◌+◌, ◌<◌, ◌≤◌, ◌⊎◌, inl, inr, Bool, true, false, List, [], ◌∷◌, ◌++◌, length}
use Rattle.std.proofs.Common.{take, get_or, Contains, if◌then◌else◌, refl, sym, subst, ap, ◌∙◌, true≢false}
use Rattle.std.proofs.Common.{append_assoc}
use Rattle.std.specs.List.{list_any}
use Rattle.std.specs.Str.{bytes_eq}
use Rattle.std.proofs.lemmas.List.{append-nil, take-append-le, take_more}
use Rattle.std.proofs.lemmas.List.Elements.{Contains-append_left, Contains-append_cases, Contains-push}
use Rattle.std.proofs.lemmas.List.Elements.{Contains-push_cases}
use Rattle.terms.proofs.ListMembers.{none_in}
use Rattle.indexmap.specs.IndexSet.{insert_key}
use Rattle.terms.specs.Types.{Id}
use Rattle.terms.specs.Lookups.{is_in}
use Rattle.terms.proofs.Ids.{Contains_from_is_in, is_in_from_Contains}
use Rattle.sysmods.specs.Seen.{AddsAll}

-- the keys after an insertion: they stay, or gain the id behind them
insert_key_cases : (keys : List Id) (x : Id)
    → (Contains keys x × (insert_key bytes_eq keys x ≡ keys)) ⊎ (insert_key bytes_eq keys x ≡ keys ++ x ∷ [])
insert_key_cases keys x = by (list_any (bytes_eq x) keys) refl
  where
    by : (b : Bool) → list_any (bytes_eq x) keys ≡ b
        → (Contains keys x × (insert_key bytes_eq keys x ≡ keys)) ⊎ (insert_key bytes_eq keys x ≡ keys ++ x ∷ [])
    by true e = inl (Contains_from_is_in keys x e, ap (λ c. if c then keys else keys ++ x ∷ []) e)
    by false e = inr (ap (λ c. if c then keys else keys ++ x ∷ []) e)

pub adds_none : (old : List Id) → AddsAll old [] old
adds_none old = record {
  added = [];
  kept = sym (append-nil old);
  were_named = λ z h. absurd (none_in z h);
  has = λ z h. absurd (none_in z h);
}

-- one more id is named and inserted
pub adds_insert : (old named seen : List Id) (x : Id) → AddsAll old named seen
    → AddsAll old (named ++ x ∷ []) (insert_key bytes_eq seen x)
adds_insert old named seen x adds = by (insert_key_cases seen x)
  where
    by : (Contains seen x × (insert_key bytes_eq seen x ≡ seen)) ⊎ (insert_key bytes_eq seen x ≡ seen ++ x ∷ [])
        → AddsAll old (named ++ x ∷ []) (insert_key bytes_eq seen x)
    by (inl (there, same)) = record {
      added = adds.added;
      kept = same ∙ adds.kept;
      were_named = λ z h. Contains-append_left named (x ∷ []) z (adds.were_named z h);
      has = λ z h. subst (λ ks. Contains ks z) (sym same)
          (elim (Contains-push_cases named x z h) [
            | inl in_named ↦ adds.has z in_named
            | inr is_x ↦ subst
                (Contains seen) is_x there
          ]);
    }
    by (inr more) = record {
      added = adds.added ++ x ∷ [];
      kept = more ∙ ap (λ ks. ks ++ x ∷ []) adds.kept ∙ append_assoc old adds.added (x ∷ []);
      were_named = λ z h. elim (Contains-push_cases adds.added x z h) [
        | inl was ↦ Contains-append_left named (x ∷ []) z (adds.were_named z was)
        | inr is_x ↦ subst
            (Contains (named ++ x ∷ [])) is_x (Contains-push named x)
      ];
      has = λ z h. subst (λ ks. Contains ks z) (sym more)
          (elim (Contains-push_cases named x z h) [
            | inl in_named ↦ Contains-append_left seen (x ∷ []) z (adds.has z in_named)
            | inr is_x ↦ subst
                (Contains (seen ++ x ∷ [])) is_x (Contains-push seen x)
          ]);
    }

-- the next of those named is inserted
pub adds_next : (old named seen new : List Id) (i : ℕ) (x : Id) → i < length named → x ≡ get_or named i x
    → new ≡ insert_key bytes_eq seen x → AddsAll old (take i named) seen → AddsAll old (take (i + 1) named) new
adds_next old named seen new i x below at inserted adds =
    subst (λ now. AddsAll old (take (i + 1) named) now) (sym inserted)
    (subst (λ gone. AddsAll old gone (insert_key bytes_eq seen x))
    (sym (take_more named i x below ∙ ap (λ y. take i named ++ y ∷ []) (sym at)))
    (adds_insert old (take i named) seen x adds))

-- the test, where what is not there is there
pub is_in_from_either : (keys : List Id) (x : Id) → (¬ Contains keys x → Contains keys x) → is_in keys x ≡ true
is_in_from_either keys x either = by (is_in keys x) refl
  where
    by : (b : Bool) → is_in keys x ≡ b → is_in keys x ≡ true
    by true e = e
    by false e = is_in_from_Contains keys x (either (λ there. true≢false (sym (is_in_from_Contains keys x there) ∙ e)))

-- an id that was there is there still
pub adds_keeps : (old named new : List Id) → AddsAll old named new → (z : Id) → Contains old z → Contains new z
adds_keeps old named new adds z h = subst (λ ks. Contains ks z) (sym adds.kept)
    (Contains-append_left old adds.added z h)

-- an id that is there was there or is one of those named
pub adds_cases : (old named new : List Id) → AddsAll old named new → (z : Id) → Contains new z
    → Contains old z ⊎ Contains named z
adds_cases old named new adds z h =
    elim (Contains-append_cases old adds.added z (subst (λ ks. Contains ks z) adds.kept h))
    [ inl was ↦ inl was | inr is_new ↦ inr (adds.were_named z is_new) ]

-- the first ones stay the first
pub take_adds : (old named new : List Id) (n : ℕ) → AddsAll old named new → n ≤ length old → take n new ≡ take n old
take_adds old named new n adds within = ap (take n) adds.kept ∙ take-append-le n old adds.added within
