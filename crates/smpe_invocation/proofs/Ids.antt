-- Texts that are ids.
use Rattle.std.proofs.Common.{◌<◌, ℕ, List, [], ◌∷◌, map, All, length, get_or}
use Rattle.std.specs.Borrow.{Bor}
use Rattle.std.specs.List.{AllByRecursion}
use Rattle.std.proofs.lemmas.List.Elements.{All-from_recursion, recursion_from_All}
use Rattle.terms.specs.Types.{Text}
use Rattle.terms.specs.Forms.{IsId}

each : (texts : List (Bor Text)) → AllByRecursion IsId (map (λ text. text.now) texts)
    → AllByRecursion (λ text. IsId text.now) texts
each [] ids = tt
each (text ∷ texts) ids = (ids.0, each texts ids.1)

-- one of them
pub id_at : (texts : List (Bor Text)) → All IsId (map (λ text. text.now) texts) → (i : ℕ) (text : Bor Text)
    → i < length texts → IsId (get_or texts i text).now
id_at texts ids = All-from_recursion (λ text. IsId text.now) texts
    (each texts (recursion_from_All IsId (map (λ text. text.now) texts) ids))
