-- Lists of known SYSMODs, as a loop goes over their lines.
use Rattle.std.proofs.Common.{◌≡◌, ◌∙◌, ◌<◌, ◌+◌, ℕ, List, [], ◌∷◌, ◌++◌, refl, ap, sym, subst}
use Rattle.std.proofs.Common.{append_assoc, append-nil, map, take, length, get_or}
use Rattle.std.specs.Borrow.{Bor}
use Rattle.std.specs.List.{All, AllByRecursion}
use Rattle.std.proofs.lemmas.List.{take_more, map-append}
use Rattle.std.proofs.lemmas.List.Elements.{All-from_recursion, recursion_from_All}
use Rattle.terms.specs.Types.{Text}
use Rattle.intake_read.specs.declared.items.WideSysmod.{WideSysmod}
use Rattle.intake_asked.specs.Known.{AreListed, FirstBecomes, HasListed, HasMore, LineBecomes, LinesBecome}
use Rattle.intake_asked.specs.Known.{AreStated, StatedBecomes}
use Rattle.intake_asked.specs.declared.known.KnownList.{KnownList}
use Rattle.intake_asked.specs.declared.known.KnownList.TheVariants.{Sysmods, BadLine}
use Rattle.intake_asked.specs.declared.known.KnownSysmod.{KnownSysmod}

pub listed_none : (lines : List Text) (known : List KnownSysmod) → lines ≡ [] → known ≡ [] → AreListed lines known
listed_none lines known e f = subst (λ l. AreListed l known) (sym e) f

pub listed_more : (lines : List Text) (first : Text) (rest : List Text) (known : List KnownSysmod) (list : KnownList)
    → lines ≡ first ∷ rest → FirstBecomes first known → HasMore known rest list → HasListed lines list
listed_more lines first rest known (Sysmods all) e is more =
    subst (λ l. AreListed l all.items) (sym e) (known, more.0, more.1, is, more.2)
listed_more lines first rest known (BadLine number) e is more = tt

pub lines_next : (lines : List Text) (known : List KnownSysmod) (line : Text) (here : List KnownSysmod)
    → LinesBecome lines known → LineBecomes line here → LinesBecome (lines ++ line ∷ []) (known ++ here)
lines_next [] known line here e is =
    (here, [], ap (λ l. l ++ here) e ∙ sym (append-nil here), is, refl)
lines_next (l ∷ ls) known line here are is = (
  are.0,
  are.1 ++ here,
  ap (λ k. k ++ here) are.2 ∙ append_assoc are.0 are.1 here,
  are.3,
  lines_next ls are.1 line here are.4 is,
)

pub stated_next : (all : List WideSysmod) (known : List KnownSysmod) (stated : WideSysmod) (here : List KnownSysmod)
    → AreStated all known → StatedBecomes stated here → AreStated (all ++ stated ∷ []) (known ++ here)
stated_next [] known stated here e is =
    (here, [], ap (λ l. l ++ here) e ∙ sym (append-nil here), is, refl)
stated_next (s ∷ ss) known stated here are is = (
  are.0,
  are.1 ++ here,
  ap (λ k. k ++ here) are.2 ∙ append_assoc are.0 are.1 here,
  are.3,
  stated_next ss are.1 stated here are.4 is,
)

-- the same with one line more, where it is read off the list
pub lines_at : {X : Type 0} (f : X → Text) (xs : List X) (i : ℕ) (d : X) (known here : List KnownSysmod)
    → i < length xs → LinesBecome (map f (take i xs)) known → LineBecomes (f (get_or xs i d)) here
    → LinesBecome (map f (take (i + 1) xs)) (known ++ here)
lines_at f xs i d known here below are is =
    subst (λ l. LinesBecome l (known ++ here))
    (sym (ap (map f) (take_more xs i d below) ∙ map-append f (take i xs) (get_or xs i d ∷ [])))
    (lines_next (map f (take i xs)) known (f (get_or xs i d)) here are is)

each : (P : Text → Type 0) (words : List (Bor Text)) → AllByRecursion P (map (λ word. word.now) words)
    → AllByRecursion (λ word. P word.now) words
each P [] all = tt
each P (word ∷ words) all = (all.0, each P words all.1)

-- one of the words
pub word_at : (P : Text → Type 0) (words : List (Bor Text)) → All P (map (λ word. word.now) words) → (i : ℕ)
    (word : Bor Text) → i < length words → P (get_or words i word).now
word_at P words all = All-from_recursion (λ word. P word.now) words
    (each P words (recursion_from_All P (map (λ word. word.now) words) all))
