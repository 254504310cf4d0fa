-- What a statement has in parentheses has paired ones, and so has it without the blanks at its ends.
use Rattle.std.proofs.Common.{◌≡◌, ◌==◌, Bool, true, false, [], ◌∷◌, ◌++◌, length, Some, None, refl, sym}
use Rattle.std.proofs.Common.{subst, ap, ◌∙◌, arith, length-append, append_assoc}
use Rattle.std.specs.Prelude.{if◌then◌else◌}
use Rattle.std.specs.List.{AllByRecursion}
use Rattle.std.proofs.lemmas.List.Elements.{recursion_from_All}
use Rattle.terms.specs.Types.{Text}
use Rattle.terms.specs.Forms.{AreBlanks}
use Rattle.terms.specs.Statement.{behind_list}
use Rattle.terms.proofs.Closings.{list_before}
use Rattle.store_schema.specs.Forms.{IsPaired}

abbrev IsBlankText : Text → Type 0
IsBlankText text = AllByRecursion (λ b. b ≡ 32) text

-- blanks change nothing
skip : (inner : Bool) (blanks rest : Text) → IsBlankText blanks → behind_list inner (blanks ++ rest) ≡ behind_list inner
    rest
skip inner [] rest each = refl
skip inner (b ∷ bs) rest each =
    subst (λ c. behind_list inner (c ∷ (bs ++ rest)) ≡ behind_list inner rest) (sym each.0) (skip inner bs rest each.1)

-- no text ends in itself and more
no_longer : (l after : Text) → l ++ 41 ∷ after ≡ after → ⊥
no_longer l after is = omega (arith, ap length is, length-append l (41 ∷ after))

closes_at_once : (inner : Bool) (after : Text) → behind_list inner (41 ∷ after) ≡ Some after
    → behind_list inner (41 ∷ []) ≡ Some []
closes_at_once false after e = refl
closes_at_once true after e = let l = list_before false after after e in absurd (no_longer l.0 after (sym l.1))

paired_step : (inner : Bool) (bs rest after : Text) (p q : Bool) → (bs ++ rest ≡ after → ⊥)
    → ((i : Bool) → behind_list i (bs ++ rest) ≡ Some after → behind_list i (bs ++ 41 ∷ []) ≡ Some [])
    → (if p then (if inner then None else behind_list true (bs ++ rest)) else if q then
    (if inner then behind_list false (bs ++ rest) else Some (bs ++ rest)) else behind_list inner (bs ++ rest))
    ≡ Some after
    → (if p then (if inner then None else behind_list true (bs ++ 41 ∷ [])) else if q then
    (if inner then behind_list false (bs ++ 41 ∷ []) else Some (bs ++ 41 ∷ [])) else behind_list inner (bs ++ 41 ∷ []))
    ≡ Some []
paired_step true bs rest after true q none more e = absurd (cc e)
paired_step false bs rest after true q none more e = more true e
paired_step true bs rest after false true none more e = more false e
paired_step false bs rest after false true none more e = absurd (none (cc e))
paired_step true bs rest after false false none more e = more true e
paired_step false bs rest after false false none more e = more false e

-- blanks stand before the parenthesis that closes it
paired_before : (inner : Bool) (text blanks after : Text) → IsBlankText blanks
    → behind_list inner (text ++ (blanks ++ 41 ∷ after)) ≡ Some after → behind_list inner (text ++ 41 ∷ []) ≡ Some []
paired_before inner [] blanks after each e = closes_at_once inner after (sym (skip inner blanks (41 ∷ after) each) ∙ e)
paired_before inner (b ∷ bs) blanks after each e =
    paired_step inner bs (blanks ++ 41 ∷ after) after (b == 40) (b == 41)
    (λ is. no_longer (bs ++ blanks) after (append_assoc bs blanks (41 ∷ after) ∙ is))
    (λ i h. paired_before i bs blanks after each h) e

-- what stands in a list's parentheses
pub list_paired : (list after : Text) → behind_list false (list ++ 41 ∷ after) ≡ Some after → IsPaired list
list_paired list after e = paired_before false list [] after tt e

-- without the blanks at both ends
pub cut_paired : (text left cut right : Text) → text ≡ left ++ cut ++ right → AreBlanks left → AreBlanks right
    → IsPaired text → IsPaired cut
cut_paired text left cut right is before behind paired =
    let blank : IsBlankText left = recursion_from_All (λ b. b ≡ 32) left before in
    let apart : (left ++ cut ++ right) ++ 41 ∷ [] ≡ left ++ (cut ++ (right ++ 41 ∷ [])) =
    append_assoc (left ++ cut) right (41 ∷ []) ∙ append_assoc left cut (right ++ 41 ∷ []) in
    let moved = subst (λ t. behind_list false t ≡ Some []) (ap (λ t. t ++ 41 ∷ []) is ∙ apart) paired in
    paired_before false cut right [] (recursion_from_All (λ b. b ≡ 32) right behind)
    (sym (skip false left (cut ++ (right ++ 41 ∷ [])) blank) ∙ moved)
