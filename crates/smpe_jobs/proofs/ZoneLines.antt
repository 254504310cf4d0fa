-- The lines of zones, as pieces.
use Rattle.std.proofs.Common.{◌≡◌, ℕ, List, [], ◌∷◌, ◌++◌, ◌∙◌, ap, append_assoc, sym}
use Rattle.std.specs.Prelude.{codes}
use Rattle.std.specs.List.{join_with_byte}
use Rattle.machine.specs.Report.{words_line}

-- a word before others in a line
words_line_more : (x y : List ℕ) (ys : List (List ℕ)) → x ++ 32 ∷ words_line (y ∷ ys) ≡ words_line (x ∷ y ∷ ys)
words_line_more x y ys = sym (append_assoc x (32 ∷ join_with_byte 32 (y ∷ ys)) (10 ∷ []))

pub defined_parts : (name : List ℕ)
    → codes "ZONE " ++ (name ++ (codes " DEFINED" ++ 10 ∷ [])) ≡ words_line (codes "ZONE" ∷ name ∷ codes "DEFINED" ∷ [])
defined_parts name = ap (λ t. codes "ZONE " ++ t) (words_line_more name (codes "DEFINED") [])
    ∙ words_line_more (codes "ZONE") name (codes "DEFINED" ∷ [])

pub refused_parts : (code : List ℕ)
    → codes "ZONE REFUSED " ++ (code ++ 10 ∷ []) ≡ words_line (codes "ZONE" ∷ codes "REFUSED" ∷ code ∷ [])
refused_parts code =
    ap (λ t. codes "ZONE " ++ t) (words_line_more (codes "REFUSED") code [])
    ∙ words_line_more (codes "ZONE") (codes "REFUSED") (code ∷ [])
