-- Texts cut behind a longest front.
use Rattle.std.proofs.Common.{◌≡◌, ◌<◌, ◌≤◌, ℕ, Bool, true, false, List, length, take, drop}
use Rattle.std.proofs.Common.{sym, subst, arith, inl, inr, drop-cons, IfSome, slice_get}
use Rattle.std.specs.List.{All, prefix_len}
use Rattle.std.proofs.lemmas.List.{take-append-drop, drop_all, get_or-take, length-take-le}
use Rattle.std.proofs.lemmas.List.Sums.{prefix_len_passes, prefix_len_stops, prefix_len-le-length}
use Rattle.std.proofs.lemmas.Bool.{cases_lt}
use Rattle.text80.specs.Cuts.{IsCut}

pub prefix_within : (test : ℕ → Bool) (text : List ℕ) → prefix_len test text ≤ length text
prefix_within test text = prefix_len-le-length test text

passes : (test : ℕ → Bool) (text : List ℕ) → All (λ b. test b ≡ true) (take (prefix_len test text) text)
passes test text k d below =
    let within = prefix_len-le-length test text in
    let len = length-take-le (prefix_len test text) text within in
    let lower : k < prefix_len test text = omega (arith, below, len) in
    subst (λ b. test b ≡ true) (sym (get_or-take (prefix_len test text) text k d lower))
    (prefix_len_passes test text k d lower)

ends : (test : ℕ → Bool) (text : List ℕ) → IfSome (slice_get (drop (prefix_len test text) text) 0) (λ b. test b ≡ false)
ends test text =
    let Ends : List ℕ → Type 0 = λ back. IfSome (slice_get back 0) (λ b. test b ≡ false) in
    elim (cases_lt (prefix_len test text) (length text)) [
      | inl more ↦ subst Ends (sym (drop-cons text (prefix_len test text) 0 more)) (prefix_len_stops test text 0 more)
      | inr none ↦ subst Ends (sym (drop_all (prefix_len test text) text none)) tt
    ]

pub cut_prefix : (test : ℕ → Bool) (text : List ℕ) → IsCut test text (take (prefix_len test text) text)
    (drop (prefix_len test text) text)
cut_prefix test text = record {
  text_is = sym (take-append-drop (prefix_len test text) text);
  passes = passes test text;
  ends = ends test text;
}
