-- The number of the schema: what writing it makes of the empty tables, and what reading it says.
use Rattle.std.proofs.Common.{◌≡◌, ℕ, List, [], ◌∷◌, codes, pos, IsPermutation, IsTrue, ℤ, map, drop, arith, refl, sym}
use Rattle.std.proofs.Common.{◌≢◌, ◌==◌, inl, not, true, eq-eqb, true≢false, ap, subst, ◌∙◌}
use Rattle.std.specs.List.{AllByRecursion, list_all}
use Rattle.std.proofs.lemmas.Bool.{and_parts, not-true}
use Rattle.sqlite.specs.Tree.{Trees}
use Rattle.std.proofs.lemmas.List.Sorted.{IsPermutation-refl, IsPermutation-sym}
use Rattle.terms.proofs.Booleans.{cond_same}
use Rattle.sqlite.specs.declared.types.Value.TheVariants.{Null, Int, Text}
use Rattle.sqlite.specs.Ops.{unary}
use Rattle.sqlite.specs.Cast.{cast}
use Rattle.sqlite.specs.Kind.TheVariants.{Integer}
use Rattle.sqlite.specs.Edit.{edit_of}
use Rattle.sqlite.specs.Rowids.TheVariants.{Chosen}
use Rattle.sqlite.specs.Command.TheVariants.{Insert}
use Rattle.sqlite.specs.Source.TheVariants.{Values}
use Rattle.sqlite.specs.Table.{Table}
use Rattle.sqlite.specs.Term.{Term, lit}
use Rattle.sqlite.specs.Listing.{understood}
use Rattle.sqlite.specs.State.{State}
use Rattle.sqlite.proofs.Callers.{IsPlain, command_of, statement_of, runs_as}
use Rattle.sqlite_tied.specs.Compute.{everything}
use Rattle.terms.specs.Types.{Text as Bytes, Id}
use Rattle.terms.specs.Over.{Leads}
use Rattle.terms.specs.Global.{names_for}
use Rattle.store_schema.specs.Tables.{meta, all_tables, store_schema}
use Rattle.store_schema.specs.Create.{HasTables}
use Rattle.store_schema.specs.Inventory.{IsInventory, empty_inventory}
use Rattle.store_schema.specs.Known.{HasRun}
use Rattle.store_schema.specs.Stands.{StandsFor}
use Rattle.store_rows.specs.Numbered.{AreNumbered}
use Rattle.store_rows.specs.Rows.{shown, AreRows}
use Rattle.store_rows.proofs.RowLemmas.{whole, has_permuted}
use Rattle.store_rows.proofs.Statements.{inserts, puts_one}
use Rattle.sqlite_trees.proofs.ListLemmas.{map-map}
use Rattle.sqlite.specs.Order.{Row}
use Rattle.sqlite.specs.Tree.{rowid}
use Rattle.sqlite.specs.View.{is_int}
use Rattle.store_schema.specs.Rows.{setting_row, number_row}

abbrev pub insert_meta : List ℕ
insert_meta = codes "INSERT INTO meta (k, v) VALUES ('schema', 3)"

abbrev meta_terms : List Term
meta_terms = lit Null ∷ lit (Text (codes "schema")) ∷ lit (Int (pos 3)) ∷ []

insert_is : command_of (understood store_schema insert_meta) ≡ Insert 0 (Values meta_terms 3)
unfolding understood everything
insert_is = refl

insert_plain : IsPlain (understood store_schema insert_meta)
unfolding understood everything
insert_plain = (refl, refl)

cast_null : cast Integer Null ≡ Null
unfolding unary
cast_null = cond_same _ Null

cast_three : cast Integer (Int (pos 3)) ≡ Int (pos 3)
unfolding unary
cast_three = cond_same _ (Int (pos 3))

one_numbered : (row : Row) → IsTrue (is_int (rowid row)) → AreNumbered (row ∷ [])
one_numbered row keyed = record {
  sorted = row ∷ [];
  same = IsPermutation-refl (row ∷ []);
  rise = (tt, tt);
  keyed = (keyed, tt);
}

no_rows_held : (show : Row → Row) (rows : List Row) → IsPermutation [] (map show rows) → rows ≡ []
no_rows_held show [] same = refl
no_rows_held show (r ∷ rows) same = absurd (has_permuted (map show (r ∷ rows)) [] (show r)
    (IsPermutation-sym [] (map show (r ∷ rows)) same) (inl refl))

-- tables other than one that has changed stay empty
none_there : (tables : List Table) (tree : ℕ) (db next : Trees)
    → list_all (λ (t : Table). not (t.tree == tree)) tables ≡ true
    → AllByRecursion (λ t. t.tree ≢ tree → next t.tree ≡ db t.tree) tables
    → AllByRecursion (λ t. AreRows t [] (db t.tree)) tables → AllByRecursion (λ t. AreRows t [] (next t.tree)) tables
none_there [] tree db next apart same empty = tt
none_there (t ∷ ts) tree db next apart same empty =
    let both = and_parts _ _ apart in (
      subst (AreRows t []) (sym (same.0 (λ is. true≢false (sym (eq-eqb t.tree tree is) ∙ not-true _ both.0)))) empty.0,
      none_there ts tree db next both.1 same.1 empty.1,
    )

-- no SYSMOD names anything
no_step : (srel : Bytes) (x : Id) (between : List Id) (z : Id)
    → ¬ Leads (names_for empty_inventory.global srel) x between z
no_step srel x [] z named = absurd (let k = named.1 in omega arith)
no_step srel x (y ∷ ys) z named = absurd (let k = named.0.1 in omega arith)

pub empty_is_inventory : IsInventory empty_inventory
empty_is_inventory = record {
  global = record {
    sysmods = λ i j d less within. absurd (omega arith);
    holds = λ i j d less within. absurd (omega arith);
    no_loop = λ loop. no_step loop.0 loop.1 loop.2.0 loop.1 loop.2.1;
    roles = λ i d within. absurd (omega arith);
    internal = λ i d within. absurd (omega arith);
    none_carried = λ i d within. absurd (omega arith);
    formed = λ i d within. absurd (omega arith);
    size = omega arith;
  };
  sysmods = λ i d within. absurd (omega arith);
  holds = λ i d within. absurd (omega arith);
  names = λ i j d less within. absurd (omega arith);
  zones = λ i d within. absurd (omega arith);
  related = λ i d within. absurd (omega arith);
  apart = λ i j d less within. absurd (omega arith);
}

-- meta has this row, and its rowid
pub one_setting : (n id : ℤ) (rows : List Row) → map (whole (shown meta)) rows ≡ (Int id ∷ setting_row n) ∷ []
    → AreRows meta (setting_row n ∷ []) rows
one_setting n id rows is = record {
  same = subst (IsPermutation (setting_row n ∷ [])) (sym (sym (map-map (drop 1) (whole (shown meta)) rows)
      ∙ ap (map (drop 1)) is)) (IsPermutation-refl (setting_row n ∷ []));
  numbered = rw is (one_numbered (Int id ∷ setting_row n) refl);
}

pub makes_number : (old new : State) → HasTables all_tables old.now → HasRun insert_meta old new
    → StandsFor empty_inventory new.now
makes_number old new was ran =
    let command = Insert 0 (Values meta_terms 3) in
    let empty : old.now.trees 0 ≡ [] = no_rows_held (shown meta) _ was.tables.0.same in
    let w = runs_as insert_meta [] old new store_schema was.schema_is command insert_is insert_plain ran.0 ran.1 in
    let it = inserts old new store_schema was.schema_is 0 meta refl
    (statement_of insert_meta (understood store_schema insert_meta)) [] ran.0 meta_terms 3 refl refl w in
    let row = Int (pos 1) ∷ number_row in
    let is : (edit_of old.now.trees meta [] Chosen 0 it.0).news ≡ row ∷ [] =
    ap (λ all. (edit_of old.now.trees meta [] Chosen 0 all).news) it.1 ∙ rw (empty, cast_null, cast_three) refl in
    let put = puts_one store_schema meta old.now.trees new.now.trees it.0 row is it.3 in
    record {
      tables = record {
        schema_is = it.2;
        sound = w.sound;
        tables = (
          rw (put.1, empty) (one_setting (pos 3) (pos 1) (row ∷ []) refl),
          none_there (drop 1 all_tables) 0 old.now.trees new.now.trees refl put.2.tables.1 was.tables.1,
        );
      };
      inventory = empty_is_inventory;
    }
