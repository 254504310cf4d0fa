-- A DELETE that sets off actions of foreign keys which find no row.
use Rattle.std.proofs.Common.{◌≡◌, ◌≢◌, ◌⊎◌, inl, inr, ℕ, zero, suc, ℤ, ◌≤◌, nat_lt, length, find, List, []}
use Rattle.std.proofs.Common.{◌∷◌, ◌++◌, map, filter, Bool, true, false, true≢false, not, ◌&&◌, Option, Some, None}
use Rattle.std.proofs.Common.{unwrap_or, if◌then◌else◌, Ok, IsPermutation, IfSome, arith, refl, sym, ap, subst}
use Rattle.std.proofs.Common.{◌∙◌}
use Rattle.std.specs.List.{AllByRecursion, list_any, flat_map, filter_map, cons_option}
use Rattle.std.proofs.lemmas.Bool.{and_parts}
use Rattle.sqlite.specs.declared.types.Value.{Value}
use Rattle.sqlite.specs.declared.types.Value.TheVariants.{Null}
use Rattle.sqlite.specs.Collation.TheVariants.{Binary}
use Rattle.sqlite.specs.Order.{Row, column}
use Rattle.sqlite.specs.Tree.{Trees, rowid, has_rowid}
use Rattle.sqlite.specs.Schema.{Schema}
use Rattle.sqlite.specs.Table.{Table}
use Rattle.sqlite.specs.Edit.{Edit, Applies, id_in, row_at, taken_by}
use Rattle.sqlite_schema.specs.declared.schema.Keys.{Keys}
use Rattle.sqlite_schema.specs.declared.schema.Reference.{Reference}
use Rattle.sqlite_schema.specs.Rules.{equal, agree, has_null}
use Rattle.sqlite_value.specs.Keys.{first_key}
use Rattle.sqlite_rules.specs.Lists.{Has}
use Rattle.sqlite_rules.specs.Action.{Work, works, work_for, pairs, loses, is_child_of, AreChildren, ActsOn, Acts}
use Rattle.sqlite_rules.specs.Action.{Leads, Writes, max_depth}
use Rattle.sqlite_rules.proofs.ListLemmas.{all_has, some_has, some_from, has_left, has_right, has_either, has_found}
use Rattle.sqlite_rules.proofs.ListLemmas.{has_filtered}
use Rattle.sqlite_rules.proofs.KeyLemmas.{agree_back, agree_chain, agree_whole}
use Rattle.store_rows.specs.Rows.{shown, has_key, without, AreRows, Contents, HaveNone}
use Rattle.store_rows.specs.Texts.{IsCascade}
use Rattle.std.proofs.lemmas.List.Sorted.{IsPermutation-sym}
use Rattle.store_rows.proofs.ContentsLemmas.{meets_from}
use Rattle.store_rows.proofs.RowLemmas.{has_permuted, mapped, unmapped, found_meets}

-- the action is carried out, and finds no child
abbrev IsIdle : Trees → Work → Type 0
IsIdle db w = (nat_lt w.depth max_depth ≡ true) × ((ids : List ℤ) → AreChildren db w ids → ids ≡ [])

module _ (schema : Schema) (keys : Keys) where
  none_acts : (n : ℕ) (db next : Trees) (stack : List Work) → ((w : Work) → Has stack w → IsIdle db w)
      → Leads schema keys n db stack (Ok next) → next ≡ db
  none_acts zero db next stack idle h = let e = h.1 in cc
  none_acts (suc n) db next stack idle h =
      let here : (v : Work) → Has (h.0 ++ h.1 ∷ []) v → IsIdle db v =
      subst (λ (s : List Work). (v : Work) → Has s v → IsIdle db v) h.2 idle in
      let mine = here h.1 (has_right h.0 (h.1 ∷ []) h.1 (inl refl)) in
      let acts : Acts schema keys (Leads schema keys n) db h.1 h.0 (Ok next) = h.3 in
      let on = rw mine.0 at acts in
      let none = mine.1 on.0 on.1 in
      none_acts n db next h.0 (λ v has. here v (has_left h.0 (h.1 ∷ []) v has))
      (subst (ActsOn schema keys (Leads schema keys n) db h.1 h.0 (Ok next)) none on.2)

  pub step_then_idle : (db next : Trees) (edit : Edit) → ((mid : Trees) → Applies schema keys db edit mid → (w : Work)
      → Has (works schema keys 0 edit.table.tree (taken_by db edit) edit.news) w → IsIdle mid w)
      → Writes schema keys db edit (Ok next) → Applies schema keys db edit next
  step_then_idle db next edit idle (inl refused) = absurd (let e = refused.2 in cc)
  step_then_idle db next edit idle (inr (inl big)) = absurd (let e = big.3 in cc)
  step_then_idle db next edit idle (inr (inr went)) =
      let same : next ≡ went.0 = none_acts went.2.0 went.0 next _ (idle went.0 went.1) went.2.1 in
      subst (Applies schema keys db edit) (sym same) went.1

module _ (P : Work → Type 0) where
  of_option : (o : Option Work) (more : List Work) (w : Work) → Has (cons_option o more) w → IfSome o P
      → (Has more w → P w) → P w
  of_option None more w h here later = later h
  of_option (Some v) more w (inl e) here later = subst P (sym e) here
  of_option (Some v) more w (inr h) here later = later h

  module _ (schema : Schema) (keys : Keys) (depth tree : ℕ) (olds news : List Row) where
    of_refs : (child : Table) (refs : List Reference) → AllByRecursion
        (λ ref. IfSome (work_for schema keys depth tree olds news child ref) P) refs → (w : Work)
        → Has (filter_map (work_for schema keys depth tree olds news child) refs) w → P w
    of_refs child [] all w h = absurd h
    of_refs child (ref ∷ refs) all w h = of_option (work_for schema keys depth tree olds news child ref) _ w h all.0
        (of_refs child refs all.1 w)

    of_tables : (tables : List Table) → AllByRecursion (λ child.
        AllByRecursion (λ ref. IfSome (work_for schema keys depth tree olds news child ref) P) child.references) tables
        → (w : Work) → Has (flat_map (λ child. filter_map (work_for schema keys depth tree olds news child)
        child.references) tables) w → P w
    of_tables [] all w h = absurd h
    of_tables (t ∷ tables) all w h = elim (has_either _ _ w h) [
      | inl here ↦ of_refs t t.references all.0 w here
      | inr later ↦ of_tables tables all.1 w later
    ]

-- what holds of each action that a reference of a table may set off holds of those that are
pub cascades_from : (schema : Schema) (keys : Keys) (depth tree : ℕ) (olds news : List Row) (P : Work → Type 0)
    → AllByRecursion (λ child. AllByRecursion (λ ref. IfSome (work_for schema keys depth tree olds news child ref) P)
    child.references) schema.tables → (w : Work) → Has (works schema keys depth tree olds news) w → P w
cascades_from schema keys depth tree olds news P all w h = of_tables P schema keys depth tree olds news schema.tables
    all w h

-- what an action of a foreign key is, if it is set off
pub if_set_off : (P : Work → Type 0) (b : Bool) (w : Work) → P w → IfSome (if b then Some w else None) P
if_set_off P true w h = h
if_set_off P false w h = tt

moved : (olds : List Row) (move : Row × Row) → Has (pairs olds []) move → Has olds move.0
moved [] move h = h
moved (o ∷ olds) move (inl e) = inl (ap (λ (m : Row × Row). m.0) e)
moved (o ∷ olds) move (inr h) = inr (moved olds move h)

found_or_none : (o : Option Row) → (o ≡ None) ⊎ ((r : Row) × (o ≡ Some r))
found_or_none None = inl refl
found_or_none (Some r) = inr (r, refl)

-- the row of a rowid that was found is none, or passes the test
pub taken_meets : (table : Table) (held rows : List Row) (p : Row → Bool) (ids : List ℤ) → AreRows table held rows
    → IsPermutation (map (λ r. id_in (rowid r)) (filter (λ r. p (shown table r)) rows)) ids
    → (old : Row) → Has (map (row_at rows) ids) old → (old ≡ []) ⊎ (p (shown table old) ≡ true)
taken_meets table held rows p ids are same old h =
    let it = unmapped (row_at rows) ids old h in
    go it.0 it.1 it.2
  where
    go : (id : ℤ) → Has ids id → old ≡ row_at rows id → (old ≡ []) ⊎ (p (shown table old) ≡ true)
    go id has is = elim (found_or_none (find (has_rowid id) rows)) [
      | inl none ↦ inl (is ∙ ap (λ (f : Option Row). unwrap_or f []) none)
      | inr some ↦
          let there = has_found (has_rowid id) rows some.0 some.1 in
          let same_row : old ≡ some.0 = is ∙ ap (λ (f : Option Row). unwrap_or f []) some.1 in
          let any : list_any (λ i. has_rowid i some.0) ids ≡ true =
          some_from (λ i. has_rowid i some.0) ids id has there.1 in
          inr (ap (λ r. p (shown table r)) same_row ∙ sym (found_meets (shown table) rows are.numbered p ids same some.0
          there.0) ∙ any)
    ]

-- a row that has the key of a table that holds none
no_row : (t : Table) (key : Row) (held rows : List Row) → AreRows t held rows → without key held ≡ held → (r : Row)
    → Has rows r → has_key key (shown t r) ≡ true → ⊥
no_row t key held rows are none r has meets =
    let there : Has held (shown t r) = has_permuted _ _ (shown t r) (IsPermutation-sym _ _ are.same)
    (mapped (shown t) rows r has) in
    let kept : Has (without key held) (shown t r) = subst (λ l. Has l (shown t r)) (sym none) there in
    let fails = (has_filtered (λ c. not (has_key key c)) held (shown t r) kept).1 in
    true≢false (sym fails ∙ ap not meets)

one_column : (t : Table) (r : Row) (k : Value) → 1 ≤ length t.columns → equal Binary (column r 1) k ≡ true
    → has_key (k ∷ []) (shown t r) ≡ true
one_column t r k wide same = sym (meets_from (k ∷ []) r 0 1 (length t.columns) (omega arith) wide)
    ∙ ap (λ b. b && true) same

column_one : (t : Table) (r : Row) (k : Value) → 1 ≤ length t.columns → has_key (k ∷ []) (shown t r) ≡ true
    → equal Binary (column r 1) k ≡ true
column_one t r k wide h = (and_parts _ _ (meets_from (k ∷ []) r 0 1 (length t.columns) (omega arith) wide ∙ h)).0

-- a cascade from rows that have the key, to tables that hold none with it
pub idle_cascade : (schema : Schema) (table : Table) (children : List Table) (k : Value) (contents : Contents)
    (db mid : Trees) (olds : List Row)
    → AllByRecursion (λ t. AreRows t (contents t.tree) (db t.tree)) schema.tables
    → AllByRecursion (λ t. t.tree ≢ table.tree → mid t.tree ≡ db t.tree) schema.tables
    → AllByRecursion (λ t. Has schema.tables t × (t.tree ≢ table.tree) × (1 ≤ length t.columns)) children
    → HaveNone children (k ∷ []) contents → 1 ≤ length table.columns
    → ((old : Row) → Has olds old → (old ≡ []) ⊎ (has_key (k ∷ []) (shown table old) ≡ true))
    → (w : Work) → IsCascade children olds w → IsIdle mid w
idle_cascade schema table children k contents db mid olds held others there none wide met w c =
    (rw c.shallow refl, all_none)
  where
    away : Has schema.tables w.child × (w.child.tree ≢ table.tree) × (1 ≤ length w.child.columns)
    away = all_has (λ u. Has schema.tables u × (u.tree ≢ table.tree) × (1 ≤ length u.columns)) children w.child there
        c.child

    rows_are : AreRows w.child (contents w.child.tree) (mid w.child.tree)
    rows_are = subst (AreRows w.child (contents w.child.tree))
        (sym (all_has (λ u. u.tree ≢ table.tree → mid u.tree ≡ db u.tree) schema.tables w.child others away.0 away.1))
        (all_has (λ u. AreRows u (contents u.tree) (db u.tree)) schema.tables w.child held away.0)

    no_child : (r : Row) → Has (mid w.child.tree) r → list_any (is_child_of w r) w.moves ≡ true → ⊥
    no_child r has some =
        let move = some_has (is_child_of w r) w.moves some in
        let old : Has olds move.0.0 = moved olds move.0 (subst (λ (ms : List (Row × Row)). Has ms move.0) c.moves
        move.1) in
        let parts = and_parts (loses w.order w.places move.0) (agree w.order w.ref.columns r w.places move.0.0) move.2
        in
        let agrees : agree w.order (1 ∷ []) r (1 ∷ []) move.0.0 ≡ true =
        subst (λ ps. agree w.order (1 ∷ []) r ps move.0.0 ≡ true) c.places
        (subst (λ cs. agree w.order cs r w.places move.0.0 ≡ true) c.columns parts.1) in
        elim (met move.0.0 old) [
          | inl empty ↦
              let back = agree_back w.order (1 ∷ []) (1 ∷ []) r move.0.0 agrees in
              let whole : has_null (1 ∷ []) move.0.0 ≡ false = agree_whole w.order (1 ∷ []) (1 ∷ []) move.0.0 r back in
              true≢false (sym (ap (has_null (1 ∷ [])) empty) ∙ whole)
          | inr key ↦
              let parent : equal Binary (column move.0.0 1) k ≡ true = column_one table move.0.0 k wide key in
              let given : agree w.order (1 ∷ []) move.0.0 (1 ∷ []) (Null ∷ k ∷ []) ≡ true =
              ap (λ b. b && true) (subst (λ how. equal how (column move.0.0 1) k ≡ true) (sym c.collation)
              parent) in
              let chain = and_parts (equal (first_key w.order).collation (column r 1) k) true
              (agree_chain w.order (1 ∷ []) (1 ∷ []) (1 ∷ []) r move.0.0 (Null ∷ k ∷ []) agrees given) in
              let child : equal Binary (column r 1) k ≡ true =
              subst (λ how. equal how (column r 1) k ≡ true) c.collation chain.0 in
              no_row w.child (k ∷ []) (contents w.child.tree) (mid w.child.tree) rows_are
              (all_has (λ u. without (k ∷ []) (contents u.tree) ≡ contents u.tree) children w.child none c.child) r
              has (one_column w.child r k away.2 child)
        ]

    all_none : (ids : List ℤ) → AreChildren mid w ids → ids ≡ []
    all_none [] h = refl
    all_none (id ∷ ids) h = let it = h.sound id (inl refl) in absurd (no_child it.0 it.1 it.2)
