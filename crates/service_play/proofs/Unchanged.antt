-- SYSMODs that change no element.
use Rattle.std.proofs.Common.{◌≡◌, ◌∙◌, Bool, true, List, [], ◌∷◌, IsTrue, Contains, find, is_some, false, refl, sym}
use Rattle.std.proofs.Common.{true≢false}
use Rattle.std.specs.List.{list_all}
use Rattle.std.proofs.lemmas.List.Elements.{All-contains}
use Rattle.std.proofs.lemmas.List.Sums.{AllPass-from_list_all}
use Rattle.terms.specs.declared.kinds.ElemType.{ElemType}
use Rattle.terms.specs.Types.{Text, Id, Global}
use Rattle.terms.specs.Lookups.{changes_of, has_change, is_nil}

none_found : {X : Type 0} (p : X → Bool) (xs : List X) → is_nil xs ≡ true → is_some (find p xs) ≡ false
none_found p [] nil = refl
none_found p (x ∷ xs) nil = absurd (true≢false (sym nil))

-- none of these ids changes an element
pub no_change : (g : Global) (ids : List Id) → list_all (λ x. is_nil (changes_of g x)) ids ≡ true
    → (x : Id) → Contains ids x → (type : ElemType) (name : Text) → IsTrue (has_change g x type name) → ⊥
no_change g ids all x there type name has =
    let nil = All-contains (λ y. is_nil (changes_of g y) ≡ true) ids x (AllPass-from_list_all _ ids all) there in
    true≢false (sym has ∙ none_found _ (changes_of g x) nil)
