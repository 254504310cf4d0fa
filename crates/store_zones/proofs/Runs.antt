-- Rows that are made of items, and put in runs.
use Rattle.std.proofs.Common.{◌≡◌, ◌⊎◌, inl, inr, ℕ, ◌+◌, ◌-◌, ◌<◌, ◌≤◌, min, List, [], ◌∷◌, ◌++◌, map, length, take}
use Rattle.std.proofs.Common.{drop, get_or, Result, Ok, Err, IsErrAnd, arith, refl, sym, ap, ap₂, subst, subst₂, ◌∙◌}
use Rattle.std.proofs.Common.{append-nil}
use Rattle.std.specs.List.{AllByRecursion}
use Rattle.std.proofs.lemmas.List.{drop-drop, length-append, length-drop, length-map, length-take, map-append}
use Rattle.std.proofs.lemmas.List.{take-append-drop}
use Rattle.terms.proofs.Lists.{front_more}
use Rattle.sqlite.specs.Store.{Ghosts}
use Rattle.sqlite.specs.Order.{Row}
use Rattle.sqlite.specs.declared.error.Error.{Error}
use Rattle.sqlite.specs.declared.error.Error.TheVariants.{SqliteFailure}
use Rattle.sqlite.specs.declared.error.ErrorCode.TheVariants.{OutOfMemory}
use Rattle.sqlite.specs.declared.transaction.Transaction.{Transaction}
use Rattle.store_rows.specs.Calls.{Call, many, puts, columns_of}
use Rattle.store_rows.specs.Rows.{as_bound}
use Rattle.store_rows.proofs.InsideLemmas.{continues}
use Rattle.store_rows.proofs.Putting.{Added, Leaves, GoesOn, added_none, added_then, added_stops, puts_few, puts_run}

-- ---- the rows of items

-- the rows of one item more
pub one_more : {X Y : Type 0} (now : Y → X) (f : X → Row) (items : List Y) (i : ℕ) (item : Y) → i < length items
    → item ≡ get_or items i item → (olds : List Row) (cells : Row) → map as_bound olds ≡ map f (map now (take i items))
    → as_bound cells ≡ f (now item) → map as_bound (olds ++ cells ∷ []) ≡ map f (map now (take (i + 1) items))
one_more now f items i item within at olds cells before bound =
    map-append as_bound olds (cells ∷ []) ∙ ap₂ (λ xs y. xs ++ y ∷ []) before bound
    ∙ sym (ap (λ ys. map f (map now ys)) (front_more items i item within at)
    ∙ ap (map f) (map-append now (take i items) (item ∷ []))
    ∙ map-append f (map now (take i items)) (now item ∷ []))

-- the rows of the items from one place to another, and of those behind them
pub rows_part : {X Y : Type 0} (now : Y → X) (f : X → Row) (items : List Y) (done end : ℕ) → done ≤ end
    → map f (map now (drop done items))
    ≡ map f (map now (take (end - done) (drop done items))) ++ map f (map now (drop end items))
rows_part now f items done end within =
    let rest = drop done items in
    let n = end - done in
    let there : done + n ≡ end = omega (arith, within) in
    let behind : drop n rest ≡ drop end items = drop-drop n done items ∙ ap (λ k. drop k items) there in
    ap (λ ys. map f (map now ys)) (sym (take-append-drop n rest))
    ∙ ap (map f) (map-append now (take n rest) (drop n rest))
    ∙ map-append f (map now (take n rest)) (map now (drop n rest))
    ∙ ap (λ ys. map f (map now (take n rest)) ++ map f (map now ys)) behind

-- as many as go into one statement, if there are so many
pub part_long : {X Y : Type 0} (now : Y → X) (f : X → Row) (items : List Y) (done n : ℕ)
    → n ≡ min (length items - done) many
    → length (map f (map now (take (done + n - done) (drop done items))))
    ≡ min many (length (map f (map now (drop done items))))
part_long now f items done n is =
    let run = take (done + n - done) (drop done items) in
    omega (
      arith,
      is,
      length-map (map now run) f,
      length-map run now,
      length-take (done + n - done) (drop done items),
      length-map (map now (drop done items)) f,
      length-map (drop done items) now,
      length-drop done items,
    )

-- none are behind the last
pub none_behind : {X Y : Type 0} (now : Y → X) (f : X → Row) (items : List Y) (done : ℕ) → length items ≤ done
    → length (map f (map now (drop done items))) ≡ 0
none_behind now f items done end =
    omega (
      arith,
      end,
      length-map (map now (drop done items)) f,
      length-map (drop done items) now,
      length-drop done items,
    )

-- each row that is made of an item has what those of all items have
pub rows_have : {X : Type 0} (P : Row → Type 0) (f : X → Row) → ((x : X) → P (f x)) → (xs : List X)
    → AllByRecursion P (map f xs)
rows_have P f each [] = tt
rows_have P f each (x ∷ xs) = (each x, rows_have P f each xs)

-- ---- in runs

module _ (some one : List ℕ) where
  puts_none : puts some one [] ≡ []
  puts_none = puts_few some one [] (omega arith)

  -- Rows go in two parts where the first is a whole run, or there is no second.
  puts_parts : (run more : List Row) → (length run ≡ many) ⊎ (more ≡ [])
      → puts some one (run ++ more) ≡ puts some one run ++ puts some one more
  puts_parts run more (inl whole) =
      let alone : puts some one run ≡ (some, columns_of run) ∷ [] =
      ap (puts some one) (sym (append-nil run)) ∙ puts_run some one run [] whole
      ∙ ap (λ (calls : List Call). (some, columns_of run) ∷ calls) puts_none in
      puts_run some one run more whole ∙ ap (λ calls. calls ++ puts some one more) (sym alone)
  puts_parts run more (inr none) =
      let nothing : puts some one more ≡ [] = ap (puts some one) none ∙ puts_none in
      ap (λ rows. puts some one (run ++ rows)) none ∙ ap (puts some one) (append-nil run)
      ∙ sym (ap (λ calls. puts some one run ++ calls) nothing ∙ append-nil (puts some one run))

  whole_or_last : (left run more : List Row) → left ≡ run ++ more → length run ≡ min many (length left)
      → (length run ≡ many) ⊎ (more ≡ [])
  whole_or_last left run [] parts long = inr refl
  whole_or_last left run (row ∷ more) parts long =
      inl (omega (arith, long, ap length parts, length-append run (row ∷ more)))

module _ {S : Type 0} (g : Ghosts S) (some one : List ℕ) {calls : List Call} {rows : List Row}
    {old : Transaction S} where
  -- the next of the rows that are left were put
  pub run_goes : {X : Type 0} {mid new : Transaction S} {q : Result X Error} (left run more : List Row)
      → left ≡ run ++ more → length run ≡ min many (length left)
      → Leaves g some one calls rows old (puts some one left) left mid
      → Added g some one (puts some one run) run mid new q
      → GoesOn g some one calls rows old (puts some one more) more new q
  run_goes {mid = mid} {new = new} {q = q} left run more parts long before it =
      let first : puts some one left ≡ puts some one run ++ puts some one more =
      ap (puts some one) parts ∙ puts_parts some one run more (whole_or_last some one left run more parts long) in
      record {
        ran = λ x is last r next. before last r (subst₂ (λ c l. Added g some one c l mid last r) (sym first) (sym parts)
            (added_then g some one q x r is it next));
        failed = λ e r is told. before new r (subst₂ (λ c l. Added g some one c l mid new r) (sym first) (sym parts)
            (added_stops g some one (puts some one more) (run ++ more) q e r is told it));
      }

  -- memory ran out before them
  pub none_goes : {mid : Transaction S} (left : List Row) (r : Result (Unit {0}) Error)
      → IsErrAnd r (λ e. e ≡ SqliteFailure OutOfMemory)
      → Leaves g some one calls rows old (puts some one left) left mid → Added g some one calls rows old mid r
  none_goes {mid = mid} left (Ok x) short before = absurd short
  none_goes {mid = mid} left (Err e) short before = before mid (Err e) (record {
    continues = continues g mid;
    runs = λ clean inside. inl short;
    ok = tt;
  })

  -- none is left
  pub all_go : {now : Transaction S} (left : List Row) → length left ≡ 0
      → Leaves g some one calls rows old (puts some one left) left now
      → Added g some one calls rows old now (Ok (tt {0}))
  all_go {now = now} [] none before =
      before now (Ok (tt {0})) (subst (λ calls. Added g some one calls [] now now (Ok (tt {0})))
      (sym (puts_none some one)) (added_none g some one now))
  all_go (row ∷ left) none before = absurd cc
