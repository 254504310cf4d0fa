-- Lists that grow item by item.
use Rattle.std.proofs.Common.{◌≡◌, ◌⊎◌, inl, inr, ◌<◌, ◌+◌, ℕ, true, false, Bool, List, [], ◌∷◌, ◌++◌, take, length}
use Rattle.std.proofs.Common.{Contains, get_or, refl, subst, sym, ap, ◌∙◌, cond, append_assoc}
use Rattle.std.proofs.Common.{Result, Ok, Err}
use Rattle.std.specs.Prelude.{◌↔◌, OnOk, if◌then◌else◌}
use Rattle.std.specs.Result.{is_ok}
use Rattle.std.specs.Str.{bytes_eq}
use Rattle.std.specs.Ordering.{nat_cmp}
use Rattle.std.specs.Cmp.Lexicographic.{slice_cmp}
use Rattle.std.proofs.lemmas.Map.Text.{is_eq-slice_cmp}
use Rattle.std.proofs.lemmas.List.Elements.{Contains-append_left, Contains-append_right, Contains-append_cases}
use Rattle.terms.specs.Types.{Id}
use Rattle.terms.proofs.ListMembers.{here, here_or, none_in}
use Rattle.terms.proofs.TextOrder.{same_back}
use Rattle.terms.proofs.Lists.{front_more}
use Rattle.sorted.specs.MultiMap.{Adds}
use Rattle.judge_needs.specs.declared.stated.StatedRequisite.{StatedRequisite}
use Rattle.judge_needs.specs.Conditions.{Stated, requisites_of, AddsMore}

-- what holds once a call has gone well that is the last one
pub on_ok_from : {T E X P : Type 0} (r : Result T E) (new more old : X) → new ≡ (if is_ok r then more else old)
    → (new ≡ more → P) → OnOk r P
on_ok_from (Ok t) new more old is holds = holds is
on_ok_from (Err e) new more old is holds = tt

-- what grew by one part more
pub grown : {X : Type 0} (base old part next new whole : List X) → old ≡ base ++ part → new ≡ old ++ next
    → whole ≡ part ++ next → new ≡ base ++ whole
grown base old part next new whole was is both =
    is ∙ ap (λ l. l ++ next) was ∙ append_assoc base part next ∙ ap (λ l. base ++ l) (sym both)

-- what stands in the front of a list with one item more
pub front_in : {X : Type 0} (xs : List X) (k : ℕ) (x y : X) → k < length xs → x ≡ get_or xs k x
    → Contains (take (k + 1) xs) y ↔ (Contains (take k xs) y ⊎ (y ≡ x))
front_in xs k x y below at =
    subst (λ l. Contains l y ↔ (Contains (take k xs) y ⊎ (y ≡ x))) (sym (front_more xs k x below at)) (up, down)
  where
    up : Contains (take k xs ++ x ∷ []) y → Contains (take k xs) y ⊎ (y ≡ x)
    up h = elim (Contains-append_cases (take k xs) (x ∷ []) y h) [
      | inl before ↦ inl before
      | inr last ↦ elim (here_or x [] y last) [ inl same ↦ inr (sym same) | inr none ↦ absurd (none_in y none) ]
    ]

    down : Contains (take k xs) y ⊎ (y ≡ x) → Contains (take k xs ++ x ∷ []) y
    down (inl before) = Contains-append_left (take k xs) (x ∷ []) y before
    down (inr same) =
        Contains-append_right (take k xs) (x ∷ []) y (subst (Contains (x ∷ [])) (sym same) (here x []))

-- one requisite more for a function
pub adds_one : (k : Id) (x : StatedRequisite) (base old new : Stated) (part whole : List StatedRequisite)
    → AddsMore base old (λ f. cond (bytes_eq f k) part []) → Adds (slice_cmp nat_cmp) k x old new
    → whole ≡ part ++ x ∷ [] → AddsMore base new (λ f. cond (bytes_eq f k) whole [])
adds_one k x base old new part whole was adds both f =
    adds.list f ∙ ap (λ b. cond b (requisites_of old f ++ x ∷ []) (requisites_of old f))
    (is_eq-slice_cmp k f ∙ same_back k f) ∙ by (bytes_eq f k) (was f)
  where
    by : (b : Bool) → requisites_of old f ≡ requisites_of base f ++ cond b part []
        → cond b (requisites_of old f ++ x ∷ []) (requisites_of old f) ≡ requisites_of base f ++ cond b whole []
    by true was = grown (requisites_of base f) _ part _ _ whole was refl both
    by false was = was
