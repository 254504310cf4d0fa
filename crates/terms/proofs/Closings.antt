-- Where comments and lists close.
use Rattle.std.specs.Prelude.{if◌then◌else◌, ◌==◌}
use Rattle.std.proofs.Common.{◌≡◌, ◌≤◌, ◌+◌, ◌*◌, ℕ, Bool, true, false, List, [], ◌∷◌, ◌++◌, length, take, Some, None}
use Rattle.std.proofs.Common.{refl, sym, ◌∙◌, ap, arith, length-append}
use Rattle.std.proofs.lemmas.Bool.{eqb-true}
use Rattle.std.proofs.lemmas.List.{take_at, length-take}
use Rattle.terms.specs.Types.{Text}
use Rattle.terms.specs.Records.{front}
use Rattle.terms.specs.Statement.{behind_list, followed}

list_step : (inner : Bool) (b : ℕ) (bs a : Text) (p q : Bool) → (b == 41) ≡ q
    → ((i : Bool) → behind_list i bs ≡ Some a → (l : Text) × (bs ≡ l ++ 41 ∷ a))
    → (if p then (if inner then None else behind_list true bs) else if q then
    (if inner then behind_list false bs else Some bs) else behind_list inner bs) ≡ Some a
    → (l : Text) × (b ∷ bs ≡ l ++ 41 ∷ a)
list_step true b bs a true q is more e = absurd (cc e)
list_step false b bs a true q is more e = let r = more true e in (b ∷ r.0, ap (λ t. b ∷ t) r.1)
list_step true b bs a false true is more e = let r = more false e in (b ∷ r.0, ap (λ t. b ∷ t) r.1)
list_step false b bs a false true is more e = ([], cc (eqb-true b 41 is, e))
list_step true b bs a false false is more e = let r = more true e in (b ∷ r.0, ap (λ t. b ∷ t) r.1)
list_step false b bs a false false is more e = let r = more false e in (b ∷ r.0, ap (λ t. b ∷ t) r.1)

-- a list that closes has a text before its parenthesis
pub list_before : (inner : Bool) (text after : Text) → behind_list inner text ≡ Some after
    → (list : Text) × (text ≡ list ++ 41 ∷ after)
list_before inner [] after e = absurd (cc e)
list_before inner (b ∷ bs) after e = list_step inner b bs after (b == 40) (b == 41) refl
    (λ i h. list_before i bs after h) e

-- the text of a list, by its length
pub list_text : (text at next : Text) (inner : Bool) (b len : ℕ) → behind_list inner at ≡ behind_list false text
    → inner ≡ false → at ≡ b ∷ next → b ≡ 41 → len + length at ≡ length text → text ≡ take len text ++ 41 ∷ next
list_text text at next inner b len same outer at_is closes count =
    let at_is' : at ≡ 41 ∷ next = cc in
    let e : behind_list false text ≡ Some next = sym same ∙ ap (λ i. behind_list i at) outer
    ∙ ap (behind_list false) at_is' in
    let r = list_before false text next e in
    let len_is : length r.0 ≡ len = omega (arith, ap length r.1, length-append r.0 (41 ∷ next), ap length at_is') in
    r.1 ∙ ap (λ l. l ++ 41 ∷ next) (sym (ap (take len) r.1 ∙ take_at r.0 (41 ∷ next) len len_is))

pub length_followed : (records : List (List ℕ)) → length (followed records) ≤ 73 * length records
length_followed [] = omega arith
length_followed (r ∷ rs) = omega (
  arith,
  length_followed rs,
  length-append (32 ∷ front r) (followed rs),
  length-take 72 r,
)
