-- What one item more adds to a list that grows.
use Rattle.std.proofs.Common.{◌≡◌, ◌<◌, ◌+◌, ℕ, List, ◌++◌, length, take, get_or, sym, ◌∙◌, ap, append_assoc}
use Rattle.std.proofs.Common.{Result, Ok, Err}
use Rattle.std.specs.Prelude.{OnOk, if◌then◌else◌}
use Rattle.std.specs.List.{flat_map}
use Rattle.std.specs.Result.{is_ok}
use Rattle.terms.proofs.Lists.{flat_next}

pub grown_more : {X Y : Type 0} (f : X → List Y) (xs : List X) (i : ℕ) (x : X) (old mid new : List Y) → i < length xs
    → x ≡ get_or xs i x → mid ≡ old ++ flat_map f (take i xs) → new ≡ mid ++ f x
    → new ≡ old ++ flat_map f (take (i + 1) xs)
grown_more f xs i x old mid new below at before more =
    more ∙ ap (λ l. l ++ f x) before ∙ append_assoc old (flat_map f (take i xs)) (f x)
    ∙ ap (λ l. old ++ l) (sym (flat_next f xs i x below at))

-- a text after two, three or four parts
pub two : (old a b one end : List ℕ) → one ≡ old ++ a → end ≡ one ++ b → end ≡ old ++ (a ++ b)
two old a b one end first second = second ∙ ap (λ t. t ++ b) first ∙ append_assoc old a b

pub three : (old a b c one next end : List ℕ) → one ≡ old ++ a → next ≡ one ++ b → end ≡ next ++ c
    → end ≡ old ++ ((a ++ b) ++ c)
three old a b c one next end first second third =
    two old (a ++ b) c next end (two old a b one next first second) third

pub four : (old a b c d one next last end : List ℕ) → one ≡ old ++ a → next ≡ one ++ b → last ≡ next ++ c
    → end ≡ last ++ d → end ≡ old ++ (((a ++ b) ++ c) ++ d)
four old a b c d one next last end first second third fourth =
    two old ((a ++ b) ++ c) d last end (three old a b c one next last first second third) fourth

-- what holds once a call has gone well that is the last one
pub on_ok_from : {T E X P : Type 0} (r : Result T E) (new more old : X) → new ≡ (if is_ok r then more else old)
    → (new ≡ more → P) → OnOk r P
on_ok_from (Ok t) new more old is holds = holds is
on_ok_from (Err e) new more old is holds = tt
