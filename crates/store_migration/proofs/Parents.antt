-- Each row of entries, of elements and of chosen ++VERs names a zone that is there.
use Rattle.std.proofs.Common.{◌≡◌, inl, inr, true, false, ◌||◌, List, [], ◌∷◌, drop, map, codes, Option}
use Rattle.std.proofs.Common.{Some, None, IsPermutation, refl, sym, ap, subst, ◌∙◌, true≢false}
use Rattle.std.specs.List.{AllByRecursion, list_all}
use Rattle.std.proofs.lemmas.Bool.{and_parts, or_cases}
use Rattle.std.proofs.lemmas.List.Sorted.{IsPermutation-sym}
use Rattle.sqlite.specs.declared.types.Value.TheVariants.{Text}
use Rattle.sqlite.specs.Collation.{Collation}
use Rattle.sqlite.specs.Collation.TheVariants.{Binary}
use Rattle.sqlite.specs.Order.{Row, column}
use Rattle.sqlite.specs.Table.{Table}
use Rattle.sqlite.specs.Tree.{Trees}
use Rattle.sqlite.specs.Effect.{Database}
use Rattle.sqlite_catalog.specs.Listing.{IsSound}
use Rattle.sqlite_sql.specs.Ops.{is_null}
use Rattle.sqlite_schema.specs.declared.schema.Action.TheVariants.{NoAction}
use Rattle.sqlite_schema.specs.declared.schema.Reference.{Reference}
use Rattle.sqlite_schema.specs.declared.schema.Constraint.TheVariants.{NotNull, ForeignKey}
use Rattle.sqlite_schema.specs.Names.{same_name}
use Rattle.sqlite_schema.specs.Rules.{ParentKey, parent_key, agree, equal, passes, has_parent, is_held}
use Rattle.sqlite_value.specs.declared.keys.Order.{Order}
use Rattle.sqlite_value.specs.Keys.{first_key, joined, plain}
use Rattle.sqlite_rules.specs.Lists.{Has}
use Rattle.sqlite_rules.proofs.ListLemmas.{all_has, some_has}
use Rattle.sqlite_rules.proofs.KeyLemmas.{agree_back}
use Rattle.store_rows.specs.Rows.{Contents, HasContents, AreRows, has_key, shown}
use Rattle.store_rows.proofs.RowLemmas.{has_permuted, mapped, unmapped}
use Rattle.terms.proofs.Booleans.{false_from_not}
use Rattle.terms.specs.Types.{NamedZone}
use Rattle.store_schema.specs.declared.schema.Schema.{Schema}
use Rattle.store_schema.specs.declared.schema.Schema.TheVariants.{First, Second, Third}
use Rattle.store_schema.specs.Earlier.{schema_under, tables_under}
use Rattle.store_schema.specs.Rows.{zone_row}
use Rattle.store_schema.specs.Tables.{zone, entry, zelem, chosen, refers_to}
use Rattle.store_zones.specs.Held.{name_key}

abbrev pub to_zone : Reference
to_zone = refers_to (codes "zone") (codes "name") NoAction

order_in : Option ParentKey → Order
order_in (Some key) = key.2
order_in None = plain

-- the order in which names of zones are told apart
order_of : Schema → Order
order_of r = order_in (parent_key (tables_under r) to_zone)

key_of : (r : Schema) → parent_key (tables_under r) to_zone ≡ Some (12, 1 ∷ [], order_of r)
unfolding order_of order_in same_name joined
key_of First = refl
key_of Second = refl
key_of Third = refl

collation_of : (r : Schema) → (first_key (order_of r)).collation ≡ Binary
unfolding order_of order_in same_name joined first_key
collation_of First = refl
collation_of Second = refl
collation_of Third = refl

-- a table whose first column is filled, and refers to a zone
pub record Refers (r : Schema) (t : Table) : Type 0 where
  pub listed : Has (tables_under r) t
  pub refers : t.references ≡ to_zone ∷ []
  pub filled : (db : Trees) (row : Row) → passes NotNull (schema_under r) db t row ≡ true
      → is_null (column row 1) ≡ false
  pub rest : Row → Row
  pub first : (row : Row) → shown t row ≡ column row 1 ∷ rest row

module _ (r : Schema) (t : Table) (f : Refers r t) where
  parent_of : (db : Trees) → IsSound (schema_under r) db → (row : Row) → Has (db t.tree) row
      → (p : Row) × Has (db zone.tree) p × (agree (order_of r) (1 ∷ []) p (1 ∷ []) row ≡ true)
  parent_of db sound row there =
      let schema = schema_under r in
      let tables = tables_under r in
      let refers = all_has (λ x. passes ForeignKey schema db t x ≡ true) (db t.tree) row
      (all_has (λ u. AllByRecursion (λ x. passes ForeignKey schema db u x ≡ true) (db u.tree)) tables t
      (sound.obeys.rules ForeignKey) f.listed) there in
      let filled = all_has (λ x. passes NotNull schema db t x ≡ true) (db t.tree) row
      (all_has (λ u. AllByRecursion (λ x. passes NotNull schema db u x ≡ true) (db u.tree)) tables t
      (sound.obeys.rules NotNull) f.listed) there in
      let one : list_all (has_parent tables db row) (to_zone ∷ []) ≡ true =
      subst (λ refs. list_all (has_parent tables db row) refs ≡ true) f.refers refers in
      elim (or_cases _ _ (and_parts _ _ one).0) [
        | inl null ↦ absurd (true≢false (sym null ∙ ap (λ b. b || false) (f.filled db row filled)))
        | inr held ↦ some_has (λ p. agree (order_of r) (1 ∷ []) p (1 ∷ []) row) (db zone.tree)
            (subst (λ key. is_held db (1 ∷ []) row key ≡ true) (key_of r) held)
      ]

  -- so a row of the table names one of the zones whose rows are there
  pub names_zone : (contents : Contents) (db : Database) (zones : List NamedZone) → Has (tables_under r) zone
      → HasContents (schema_under r) contents db → IsPermutation (map zone_row zones) (contents zone.tree) → (y : Row)
      → Has (contents t.tree) y → (z : NamedZone) × Has zones z × (has_key (name_key z.name) y ≡ true)
  names_zone contents db zones has_zones held are y there =
      let rows = λ (u : Table) (listed : Has (tables_under r) u). all_has
      (λ v. AreRows v (contents v.tree) (db.trees v.tree)) (tables_under r) u (subst (λ s.
      AllByRecursion (λ v. AreRows v (contents v.tree) (db.trees v.tree)) s) refl held.tables) listed in
      let own = unmapped (shown t) (db.trees t.tree) y (has_permuted _ _ y (rows t f.listed).same there) in
      let it = parent_of db.trees (subst (λ s. IsSound s db.trees) held.schema_is held.sound) own.0 own.1 in
      let zone_there = has_permuted _ _ (shown zone it.0) (IsPermutation-sym _ _ (rows zone has_zones).same)
      (mapped (shown zone) (db.trees zone.tree) it.0 it.1) in
      let z = unmapped zone_row zones (shown zone it.0)
      (has_permuted _ _ (shown zone it.0) (IsPermutation-sym _ _ are) zone_there) in
      let name : column it.0 1 ≡ Text z.0.name = cc (z.2) in
      let back = agree_back (order_of r) (1 ∷ []) (1 ∷ []) it.0 own.0 it.2 in
      let same : equal Binary (column own.0 1) (Text z.0.name) ≡ true =
      subst (λ v. equal Binary (column own.0 1) v ≡ true) name
      (subst (λ (how : Collation). equal how (column own.0 1) (column it.0 1) ≡ true) (collation_of r)
      (and_parts _ _ back).0) in (
        z.0,
        z.1,
        ap (has_key (name_key z.0.name)) (own.2 ∙ f.first own.0) ∙ rw same refl,
      )

pub entry_refers : (r : Schema) → Refers r entry
entry_refers First = record {
  listed = inr (inr (inr (inr (inr (inr (inr (inl refl)))))));
  refers = refl;
  filled = λ db row h. false_from_not _ (and_parts _ _ h).0;
  rest = λ row. drop 1 (shown entry row);
  first = λ row. refl;
}
entry_refers Second = record {
  listed = inr (inr (inr (inr (inr (inr (inr (inl refl)))))));
  refers = refl;
  filled = λ db row h. false_from_not _ (and_parts _ _ h).0;
  rest = λ row. drop 1 (shown entry row);
  first = λ row. refl;
}
entry_refers Third = record {
  listed = inr (inr (inr (inr (inr (inr (inr (inl refl)))))));
  refers = refl;
  filled = λ db row h. false_from_not _ (and_parts _ _ h).0;
  rest = λ row. drop 1 (shown entry row);
  first = λ row. refl;
}

pub element_refers : (r : Schema) → Refers r zelem
element_refers First = record {
  listed = inr (inr (inr (inr (inr (inr (inr (inr (inl refl))))))));
  refers = refl;
  filled = λ db row h. false_from_not _ (and_parts _ _ h).0;
  rest = λ row. drop 1 (shown zelem row);
  first = λ row. refl;
}
element_refers Second = record {
  listed = inr (inr (inr (inr (inr (inr (inr (inr (inl refl))))))));
  refers = refl;
  filled = λ db row h. false_from_not _ (and_parts _ _ h).0;
  rest = λ row. drop 1 (shown zelem row);
  first = λ row. refl;
}
element_refers Third = record {
  listed = inr (inr (inr (inr (inr (inr (inr (inr (inl refl))))))));
  refers = refl;
  filled = λ db row h. false_from_not _ (and_parts _ _ h).0;
  rest = λ row. drop 1 (shown zelem row);
  first = λ row. refl;
}

pub chosen_refers : Refers Third chosen
chosen_refers = record {
  listed = inr (inr (inr (inr (inr (inr (inr (inr (inr (inr (inr (inr (inl refl))))))))))));
  refers = refl;
  filled = λ db row h. false_from_not _ (and_parts _ _ h).0;
  rest = λ row. drop 1 (shown chosen row);
  first = λ row. refl;
}

pub zone_listed : (r : Schema) → Has (tables_under r) zone
zone_listed First = inr (inr (inr (inr (inr (inr (inl refl))))))
zone_listed Second = inr (inr (inr (inr (inr (inr (inl refl))))))
zone_listed Third = inr (inr (inr (inr (inr (inr (inl refl))))))
