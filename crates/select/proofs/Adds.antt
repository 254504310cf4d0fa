-- How the ids that are seen grow, by one test and one list after the other.
use Rattle.std.proofs.Common.{◌≡◌, ℕ, ◌<◌, ◌+◌, inl, inr, List, ◌++◌, length, take, get_or}
use Rattle.std.proofs.Common.{sym, subst, ap, ◌∙◌, append_assoc}
use Rattle.std.specs.List.{flat_map}
use Rattle.std.proofs.lemmas.List.Elements.{Contains-append_left, Contains-append_right, Contains-append_cases}
use Rattle.terms.specs.Types.{Id}
use Rattle.sysmods.specs.Seen.{AddsAll}
use Rattle.sysmods.proofs.Growth.{adds_keeps}
use Rattle.terms.proofs.Lists.{flat_next}

-- one list and then another
pub adds_append : (old mid new xs ys : List Id) → AddsAll old xs mid → AddsAll mid ys new → AddsAll old (xs ++ ys) new
adds_append old mid new xs ys first second = record {
  added = first.added ++ second.added;
  kept = second.kept ∙ ap (λ ks. ks ++ second.added) first.kept ∙ append_assoc old first.added second.added;
  were_named = λ z h. elim (Contains-append_cases first.added second.added z h) [
    | inl l ↦ Contains-append_left xs ys z (first.were_named z l)
    | inr r ↦ Contains-append_right xs ys z (second.were_named z r)
  ];
  has = λ z h. elim (Contains-append_cases xs ys z h) [
    | inl l ↦ adds_keeps mid ys new second z (first.has z l)
    | inr r ↦ second.has z r
  ];
}

-- what the next of a list stands for comes in
pub adds_flat : (f : Id → List Id) (old xs seen new : List Id) (i : ℕ) (x : Id) → i < length xs → x ≡ get_or xs i x
    → AddsAll seen (f x) new → AddsAll old (flat_map f (take i xs)) seen
    → AddsAll old (flat_map f (take (i + 1) xs)) new
adds_flat f old xs seen new i x below at more adds =
    subst (λ named. AddsAll old named new) (sym (flat_next f xs i x below at))
    (adds_append old seen new (flat_map f (take i xs)) (f x) adds more)
