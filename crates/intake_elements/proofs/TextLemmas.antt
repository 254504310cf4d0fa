-- Texts of elements, by their cards.
use Rattle.std.proofs.Common.{◌≡◌, ◌∙◌, ◌<◌, ◌+◌, ◌++◌, ◌∷◌, ℕ, true, false, List, [], Option, Some, None, Result, Ok}
use Rattle.std.proofs.Common.{Err, sym, append-nil, length, take, get_or}
use Rattle.std.specs.Prelude.{All, IfOk, IfSome}
use Rattle.std.proofs.lemmas.Bool.{true≢false}
use Rattle.std.proofs.lemmas.List.{get_or_default}
use Rattle.std.proofs.lemmas.List.Elements.{All-nil}
use Rattle.terms.proofs.BesideLists.{beside_next}
use Rattle.terms.specs.Beside.{Beside}
use Rattle.terms.specs.Types.{Text, Action, Replaces, Updates}
use Rattle.terms.specs.Changes.{is_replacement}
use Rattle.intake_cards.specs.declared.card.Card.{Card}
use Rattle.intake_read.specs.declared.items.WideElement.{WideElement}
use Rattle.intake_elements.specs.ElementTexts.{is_blank, HasBlankEnd, IsRecordOf, IsStatedText}

pub all_kept : (cards : List Card) → HasBlankEnd cards cards
all_kept cards = ([], sym (append-nil cards), All-nil (λ c. is_blank c ≡ true))

-- the record of one card more
pub records_more : (cards : List Card) (lines new : List Text) (i : ℕ) (d : Card) (line : Text) → i < length cards
    → new ≡ lines ++ line ∷ [] → IsRecordOf (get_or cards i d) line → Beside (λ _. IsRecordOf) (take i cards) lines
    → Beside (λ _. IsRecordOf) (take (i + 1) cards) new
records_more cards lines new i d line below made is so_far =
    beside_next (λ _. IsRecordOf) cards lines new i (get_or cards i d) line below
    (get_or_default cards i d (get_or cards i d) below) made is so_far

-- what is said of a value that is stated, where none is
pub if_none_stated : {E X : Type 0} (P : X → Text → Type 0) (r : Result (Option X) E) (stated : Option Text)
    → stated ≡ None → IfOk r (λ found. IfSome found (λ x. (t : Text) → stated ≡ Some t → P x t))
if_none_stated P (Ok (Some x)) stated none = λ t e. absurd (by t (sym none ∙ e))
  where
    by : (t : Text) → None ≡ Some t → ⊥
    by t f = cc
if_none_stated P (Ok None) stated none = tt
if_none_stated P (Err e) stated none = tt

-- an update states no libraries, and its text is not spoken of
pub of_update : (stated : WideElement) (action : Action) → is_replacement action ≡ false → IsStatedText stated action
of_update stated (Replaces distlib syslib lines) e = absurd (true≢false e)
of_update stated (Updates lines) e = tt
