-- Lists that grow as a loop goes over another one.
use Rattle.std.proofs.Common.{◌≡◌, ◌≢◌, ◌<◌, ◌+◌, ℕ, Bool, true, false, List, [], ◌++◌, ◌∷◌, length, take, get_or, map}
use Rattle.std.proofs.Common.{filter}
use Rattle.std.proofs.Common.{cond, sym, ap, subst, ◌∙◌, append-nil}
use Rattle.std.specs.List.{All, flat_map}
use Rattle.std.proofs.lemmas.List.{length-map, take_more, map-append}
use Rattle.std.proofs.lemmas.List.Elements.{All-push, filter-append}
use Rattle.std.proofs.lemmas.List.Concat.{flat_map-append}

pub map_next : {X Y : Type 0} (f : X → Y) (xs : List X) (i : ℕ) (x : X) → i < length xs → x ≡ get_or xs i x
    → map f (take (i + 1) xs) ≡ map f (take i xs) ++ f x ∷ []
map_next f xs i x below at =
    ap (map f) (take_more xs i x below ∙ ap (λ u. take i xs ++ u ∷ []) (sym at)) ∙ map-append f (take i xs) (x ∷ [])

pub flat_map_next : {X Y : Type 0} (f : X → List Y) (xs : List X) (i : ℕ) (x : X) → i < length xs
    → x ≡ get_or xs i x
    → flat_map f (take (i + 1) xs) ≡ flat_map f (take i xs) ++ f x
flat_map_next f xs i x below at =
    ap (flat_map f) (take_more xs i x below ∙ ap (λ u. take i xs ++ u ∷ []) (sym at))
    ∙ flat_map-append f (take i xs) (x ∷ []) ∙ ap (λ l. flat_map f (take i xs) ++ l) (append-nil (f x))

-- what passes a test, with one that passes, and with one that does not
pub passes_next : {X Y : Type 0} (p : Y → Bool) (f : X → Y) (xs : List X) (i : ℕ) (x : X) → i < length xs
    → x ≡ get_or xs i x → p (f x) ≡ true
    → filter p (map f (take (i + 1) xs)) ≡ filter p (map f (take i xs)) ++ f x ∷ []
passes_next p f xs i x below at e =
    ap (filter p) (map_next f xs i x below at) ∙ filter-append p (map f (take i xs)) (f x ∷ [])
    ∙ ap (λ b. filter p (map f (take i xs)) ++ cond b (f x ∷ []) []) e

pub fails_next : {X Y : Type 0} (p : Y → Bool) (f : X → Y) (xs : List X) (i : ℕ) (x : X) → i < length xs
    → x ≡ get_or xs i x → p (f x) ≡ false
    → filter p (map f (take (i + 1) xs)) ≡ filter p (map f (take i xs))
fails_next p f xs i x below at e =
    ap (filter p) (map_next f xs i x below at) ∙ filter-append p (map f (take i xs)) (f x ∷ [])
    ∙ ap (λ b. filter p (map f (take i xs)) ++ cond b (f x ∷ []) []) e ∙ append-nil (filter p (map f (take i xs)))

-- what has more goes on so
pub more_found : {X Y : Type 0} (f : X → Y) (new old more : List X) (next done one : List Y) → new ≡ old ++ more
    → map f old ≡ done → map f more ≡ one → next ≡ done ++ one → map f new ≡ next
more_found f new old more next done one e was is goes =
    ap (map f) e ∙ map-append f old more ∙ ap (λ l. l ++ map f more) was ∙ ap (λ l. done ++ l) is ∙ sym goes

-- the same of a list itself
pub keeps_next : {X : Type 0} (p : X → Bool) (xs : List X) (i : ℕ) (x : X) → i < length xs → x ≡ get_or xs i x
    → p x ≡ true → filter p (take (i + 1) xs) ≡ filter p (take i xs) ++ x ∷ []
keeps_next p xs i x below at e =
    ap (filter p) (take_more xs i x below ∙ ap (λ u. take i xs ++ u ∷ []) (sym at))
    ∙ filter-append p (take i xs) (x ∷ []) ∙ ap (λ b. filter p (take i xs) ++ cond b (x ∷ []) []) e

pub skips_next : {X : Type 0} (p : X → Bool) (xs : List X) (i : ℕ) (x : X) → i < length xs → x ≡ get_or xs i x
    → p x ≡ false → filter p (take (i + 1) xs) ≡ filter p (take i xs)
skips_next p xs i x below at e =
    ap (filter p) (take_more xs i x below ∙ ap (λ u. take i xs ++ u ∷ []) (sym at))
    ∙ filter-append p (take i xs) (x ∷ []) ∙ ap (λ b. filter p (take i xs) ++ cond b (x ∷ []) []) e
    ∙ append-nil (filter p (take i xs))

-- what is found for each of a list of texts, with one text more, where it is read off the list
pub found_at : {X Y Z : Type 0} (found : Y → List Z) (f : X → Y) (xs : List X) (i : ℕ) (d : X) → i < length xs
    → flat_map found (map f (take (i + 1) xs)) ≡ flat_map found (map f (take i xs)) ++ found (f (get_or xs i d))
found_at found f xs i d below =
    ap (λ l. flat_map found (map f l)) (take_more xs i d below)
    ∙ ap (flat_map found) (map-append f (take i xs) (get_or xs i d ∷ []))
    ∙ flat_map-append found (map f (take i xs)) (f (get_or xs i d) ∷ [])
    ∙ ap (λ l. flat_map found (map f (take i xs)) ++ l) (append-nil (found (f (get_or xs i d))))

pub all_at : {X Y : Type 0} (P : Y → Type 0) (f : X → Y) (xs : List X) (i : ℕ) (d : X) → i < length xs
    → All P (map f (take i xs)) → P (f (get_or xs i d)) → All P (map f (take (i + 1) xs))
all_at P f xs i d below all p =
    subst (All P) (sym (ap (map f) (take_more xs i d below) ∙ map-append f (take i xs) (get_or xs i d ∷ [])))
    (All-push P (map f (take i xs)) (f (get_or xs i d)) all p)

-- texts of a list that is not empty
pub some_found : {X Y : Type 0} (f : X → Y) (xs : List X) (ys : List Y) → map f xs ≡ ys → (length xs ≡ 0 → ⊥)
    → ys ≢ []
some_found f xs ys e some none = some (sym (length-map xs f) ∙ ap length (e ∙ none))
