-- What becomes of the rest of a list, as a loop goes over it.
use Rattle.std.proofs.Common.{◌≡◌, ◌∙◌, ◌<◌, ◌≤◌, ◌+◌, ◌||◌, ℕ, Bool, true, false, List, [], ◌∷◌, ◌++◌, ap, sym}
use Rattle.std.proofs.Common.{append_assoc, append-nil, map, take, drop, length, get_or}
use Rattle.std.specs.Prelude.{if◌then◌else◌}
use Rattle.std.specs.Borrow.{Bor}
use Rattle.std.proofs.lemmas.List.{at_drop_more, at_drop_all, take_more, map-append}
use Rattle.std.proofs.lemmas.Bool.{or_left}
use Rattle.std.specs.List.{list_any}
use Rattle.terms.specs.Types.{Text}
use Rattle.intake_list.specs.Rows.{ListRow}
use Rattle.intake_list.specs.Entries.{ends_key, values_below, more_values, begins_entry, keys_below, key_here}

-- one item more, read off the list
pub rest_more_at : {X Y : Type 0} (F G : List X → List Y) (xs : List X) (i : ℕ) (d : X) (done here new all : List Y)
    → i < length xs → F (get_or xs i d ∷ drop (i + 1) xs) ≡ here ++ G (drop (i + 1) xs) → new ≡ done ++ here
    → done ++ F (drop i xs) ≡ all → new ++ G (drop (i + 1) xs) ≡ all
rest_more_at F G xs i d done here new all lt step e inv =
    ap (λ n. n ++ G (drop (i + 1) xs)) e ∙ append_assoc done here (G (drop (i + 1) xs))
    ∙ ap (λ r. done ++ r) (sym (at_drop_more F xs i d lt ∙ step)) ∙ inv

-- the same with the item that a loop reads
pub rest_more : {X Y : Type 0} (F G : List X → List Y) (xs : List X) (i : ℕ) (x : X) (done here new all : List Y)
    → i < length xs → x ≡ get_or xs i x → F (x ∷ drop (i + 1) xs) ≡ here ++ G (drop (i + 1) xs)
    → new ≡ done ++ here → done ++ F (drop i xs) ≡ all → new ++ G (drop (i + 1) xs) ≡ all
rest_more F G xs i x done here new all lt is step e inv =
    rest_more_at F G xs i x done here new all lt (ap (λ y. F (y ∷ drop (i + 1) xs)) (sym is) ∙ step) e inv

-- nothing comes of the rest
pub rest_stop : {X Y : Type 0} (F : List X → List Y) (xs : List X) (i : ℕ) (x : X) (done all : List Y)
    → i < length xs → x ≡ get_or xs i x → F (x ∷ drop (i + 1) xs) ≡ [] → done ++ F (drop i xs) ≡ all → done ≡ all
rest_stop F xs i x done all lt is stop inv =
    sym (append-nil done)
    ∙ ap (λ r. done ++ r)
    (sym (at_drop_more F xs i x lt ∙ ap (λ y. F (y ∷ drop (i + 1) xs)) (sym is) ∙ stop)) ∙ inv

-- the end of the list
pub rest_all : {X Y : Type 0} (F : List X → List Y) (xs : List X) (i : ℕ) (done all : List Y) → length xs ≤ i
    → F [] ≡ [] → done ++ F (drop i xs) ≡ all → done ≡ all
rest_all F xs i done all ge nil inv =
    sym (append-nil done) ∙ ap (λ r. done ++ r) (sym (at_drop_all F xs i ge ∙ nil)) ∙ inv

-- one word more
pub words_push : (old start more new : List (Bor Text)) (i : ℕ) (d : Bor Text) → i < length more
    → new ≡ old ++ get_or more i d ∷ []
    → map (λ (w : Bor Text). w.now) old
    ≡ map (λ (w : Bor Text). w.now) start ++ map (λ (w : Bor Text). w.now) (take i more)
    → map (λ (w : Bor Text). w.now) new
    ≡ map (λ (w : Bor Text). w.now) start ++ map (λ (w : Bor Text). w.now) (take (i + 1) more)
words_push old start more new i d lt e inv =
    let now = λ (w : Bor Text). w.now in
    let x = get_or more i d in
    ap (map now) e ∙ map-append now old (x ∷ []) ∙ ap (λ l. l ++ now x ∷ []) inv
    ∙ append_assoc (map now start) (map now (take i more)) (now x ∷ [])
    ∙ ap (λ l. map now start ++ l) (sym (ap (map now) (take_more more i d lt) ∙ map-append now (take i more) (x ∷ [])))

-- a text that passes is found, or the one at this place does not pass
pub any_here : (p : Text → Bool) (texts : List (Bor Text)) (i : ℕ) (d : Bor Text) (all : Bool) → i < length texts
    → p (get_or texts i d).now ≡ true → list_any p (map (λ (w : Bor Text). w.now) (drop i texts)) ≡ all → true ≡ all
any_here p texts i d all lt e inv =
    sym (at_drop_more (λ ts. list_any p (map (λ (w : Bor Text). w.now) ts)) texts i d lt
    ∙ or_left (p (get_or texts i d).now) _ e) ∙ inv

pub any_more : (p : Text → Bool) (texts : List (Bor Text)) (i : ℕ) (d : Bor Text) (all : Bool) → i < length texts
    → p (get_or texts i d).now ≡ false → list_any p (map (λ (w : Bor Text). w.now) (drop i texts)) ≡ all
    → list_any p (map (λ (w : Bor Text). w.now) (drop (i + 1) texts)) ≡ all
any_more p texts i d all lt e inv =
    sym (at_drop_more (λ ts. list_any p (map (λ (w : Bor Text). w.now) ts)) texts i d lt
    ∙ ap (λ b. b || list_any p (map (λ (w : Bor Text). w.now) (drop (i + 1) texts))) e) ∙ inv

pub any_none : (p : Text → Bool) (texts : List (Bor Text)) (i : ℕ) (all : Bool) → length texts ≤ i
    → list_any p (map (λ (w : Bor Text). w.now) (drop i texts)) ≡ all → false ≡ all
any_none p texts i all ge inv =
    sym (at_drop_all (λ ts. list_any p (map (λ (w : Bor Text). w.now) ts)) texts i ge) ∙ inv

cond_yes : {X : Type 0} (b : Bool) (x y : X) → b ≡ true → (if b then x else y) ≡ x
cond_yes b x y e = ap (λ c. if c then x else y) e

cond_no : {X : Type 0} (b : Bool) (x y : X) → b ≡ false → (if b then x else y) ≡ y
cond_no b x y e = ap (λ c. if c then x else y) e

pub values_stop : (row : ListRow) (rows : List ListRow) → ends_key row.form ≡ true → values_below (row ∷ rows) ≡ []
values_stop row rows e = cond_yes (ends_key row.form) [] (more_values row ++ values_below rows) e

pub values_more : (row : ListRow) (rows : List ListRow) → ends_key row.form ≡ false
    → values_below (row ∷ rows) ≡ more_values row ++ values_below rows
values_more row rows e = cond_no (ends_key row.form) [] (more_values row ++ values_below rows) e

pub keys_stop : (row : ListRow) (rows : List ListRow) → begins_entry row.form ≡ true → keys_below (row ∷ rows) ≡ []
keys_stop row rows e = cond_yes (begins_entry row.form) [] (key_here row rows ++ keys_below rows) e

pub keys_more : (row : ListRow) (rows : List ListRow) → begins_entry row.form ≡ false
    → keys_below (row ∷ rows) ≡ key_here row rows ++ keys_below rows
keys_more row rows e = cond_no (begins_entry row.form) [] (key_here row rows ++ keys_below rows) e
