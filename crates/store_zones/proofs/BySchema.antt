-- What the tables of each schema hold of numbers.
use Rattle.std.proofs.Common.{◌≡◌, ◌⊎◌, ◌++◌, inl, inr, List, [], map, arith, subst, sym, ap, append-nil, ◌∙◌}
use Rattle.std.specs.Prelude.{All, ⊤}
use Rattle.std.specs.List.{AllByRecursion}
use Rattle.sqlite.specs.Effect.{Database}
use Rattle.sqlite.specs.State.{State, IsUnchanged}
use Rattle.terms.proofs.Each.{recursion_weaker}
use Rattle.store_rows.specs.Rows.{Contents, HasContents}
use Rattle.terms.specs.Types.{Text, Entry}
use Rattle.store_schema.specs.declared.schema.Schema.{Schema}
use Rattle.store_schema.specs.declared.schema.Schema.TheVariants.{First, Second, Third}
use Rattle.store_schema.specs.Earlier.{StandsUnder, schema_under}
use Rattle.store_schema.specs.Inventory.{Inventory}
use Rattle.store_zones.specs.declared.installed_vers.EntryNumber.{EntryNumber}
use Rattle.store_zones.specs.Held.{HoldsEntries, HoldsChosen, HasNumbers, HoldsNumbered}
use Rattle.store_zones.specs.Numbered.{as_first, numbers_of, numbered, left_over}
use Rattle.store_zones.specs.Chosen.{HasNumberForms}
use Rattle.store_zones.specs.Entries.{IsFirst, HasEntryRowForms}
use Rattle.store_zones.proofs.Entries.{entries_same, numbers_same}
use Rattle.store_zones.proofs.InZone.{with_zone}
use Rattle.store_zones.proofs.EntryNumbers.{no_numbers, firsts_are, all_rise, all_given, all_taken}

-- what the tables hold, where a call has changed nothing
pub held_after : (r : Schema) (contents : Contents) (a b : State) → IsUnchanged a b
    → HasContents (schema_under r) contents a.now → HasContents (schema_under r) contents b.now
held_after r contents a b same was = subst (HasContents (schema_under r) contents) (sym same.0.now_is) was

-- the numbers of entries under a schema that has them
pub numbers_third : (r : Schema) (contents : Contents) (name : Text) (ns : List EntryNumber) → r ≡ Third
    → HasNumbers r contents name ns → HoldsChosen contents name ns
numbers_third First contents name ns is h = absurd cc
numbers_third Second contents name ns is h = absurd cc
numbers_third Third contents name ns is h = h

module _ (contents : Contents) (name : Text) (es : List Entry) where
  firsts : HoldsEntries contents name es → AllByRecursion IsFirst es
  firsts h = recursion_weaker (λ e. HasEntryRowForms (with_zone name e)) IsFirst (λ e f. f.first) es h.forms

  -- those of the rows of entries are all, under earlier schemas
  pub earlier_numbered : (r : Schema) → (r ≡ First) ⊎ (r ≡ Second) → HoldsEntries contents name es
      → HoldsNumbered r contents name es
  earlier_numbered r is h = record {
    firsts = subst (HoldsEntries contents name) (sym (firsts_are es (firsts h))) h;
    numbers = none r is (no_numbers es (firsts h));
  }
    where
      none : (s : Schema) → (s ≡ First) ⊎ (s ≡ Second) → numbers_of es ≡ [] → HasNumbers s contents name (numbers_of es)
      none First is h = h
      none Second is h = h
      none Third (inl is) h = absurd cc
      none Third (inr is) h = absurd cc

  module _ (ns : List EntryNumber) (h : HoldsEntries contents name es) (k : HoldsChosen contents name ns) where
    pub all_numbered : (r : Schema) → r ≡ Third → (all : List Entry) → all ≡ numbered es ns → left_over es ns ≡ []
        → HoldsNumbered r contents name all
    all_numbered r is all same whole =
        let given = all_given es ns (firsts h)
        (recursion_weaker (λ n. HasNumberForms (with_zone name n)) (λ n. n.number ≡ 1 → ⊥)
        (λ n f one. let low = f.least in absurd (omega (arith, low, one))) ns k.forms) in
        let numbers : numbers_of (numbered es ns) ≡ ns =
        sym (append-nil (numbers_of (numbered es ns)))
        ∙ ap (λ xs. numbers_of (numbered es ns) ++ xs) (sym whole) ∙ given.1 in
        subst (HoldsNumbered r contents name) (sym same) (record {
          firsts = subst (HoldsEntries contents name) (sym given.0) h;
          numbers = later r is (subst (HoldsChosen contents name) (sym numbers) k);
        })
      where
        later : (s : Schema) → s ≡ Third → HoldsChosen contents name (numbers_of (numbered es ns))
            → HasNumbers s contents name (numbers_of (numbered es ns))
        later First is own = absurd cc
        later Second is own = absurd cc
        later Third is own = own

    -- where the tables hold entries with numbers, these are theirs
    pub none_over : (r : Schema) → r ≡ Third → (all : List Entry) → HoldsNumbered r contents name all
        → left_over es ns ≡ []
    none_over r is all held =
        let entries = entries_same contents name es (map as_first all) h held.firsts in
        let numbers = numbers_same contents name ns (numbers_of all) k
        (numbers_third r contents name (numbers_of all) is held.numbers) in
        subst (λ xs. left_over xs ns ≡ []) (sym entries)
        (subst (λ xs. left_over (map as_first all) xs ≡ []) (sym numbers)
        (all_taken all (all_rise all held.firsts.rise)).1)

-- what stands under an earlier schema has none
abbrev pub AreFirst : Schema → Inventory → Type 0
AreFirst First i = All (λ z. All IsFirst z.zone.entries) i.zones
AreFirst Second i = All (λ z. All IsFirst z.zone.entries) i.zones
AreFirst Third i = ⊤

pub stands_first : (r : Schema) (i : Inventory) (db : Database) → StandsUnder r i db → AreFirst r i
stands_first First i db h = h.earlier.firsts
stands_first Second i db h = h.earlier.firsts
stands_first Third i db h = tt
