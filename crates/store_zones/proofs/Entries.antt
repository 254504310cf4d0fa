-- The rows of a zone's entries, and of their numbers.
use Rattle.std.proofs.Common.{◌≡◌, List, [], Option, None, Some, IfSome, ap, ap₂, refl, sym, ◌∙◌}
use Rattle.std.specs.Str.{bytes_eq}
use Rattle.std.proofs.lemmas.Cmp.{nat_list_cmp_total}
use Rattle.store_rows.specs.Rows.{Contents, has_key}
use Rattle.terms.specs.Types.{Text, Applied, Entry}
use Rattle.store_schema.specs.Rows.{entry_row}
use Rattle.store_schema.proofs.OneState.{number_of, entry_is}
use Rattle.store_zones.specs.declared.installed_vers.EntryNumber.{EntryNumber}
use Rattle.store_zones.specs.declared.zone_rows.ZoneRow.{ZoneRow}
use Rattle.store_zones.specs.Held.{name_key, HoldsEntries, HoldsChosen}
use Rattle.store_zones.specs.Chosen.{number_row, row_of_number, HasNumberForms}
use Rattle.store_zones.specs.Entries.{row_of_entry, HasEntryRowForms}
use Rattle.store_zones.proofs.ZoneRows.{first_cell}
use Rattle.store_zones.proofs.InZone.{items_same}

-- ---- entries

number_one : (a : Option Applied) → IfSome a (λ v. v.number ≡ 1) → number_of a ≡ 1
number_one None first = refl
number_one (Some a) first = first

pub exact_entry : (a b : ZoneRow Entry) → HasEntryRowForms a → HasEntryRowForms b → row_of_entry a ≡ row_of_entry b
    → a ≡ b
exact_entry a b p q e =
    let zone : a.zone ≡ b.zone = cc in
    let number : number_of a.item.applied ≡ number_of b.item.applied =
    number_one a.item.applied p.first ∙ sym (number_one b.item.applied q.first) in
    let item : a.item ≡ b.item =
    entry_is a.zone b.zone a.item b.item number p.supby q.supby p.waived q.waived e in
    ap (λ x. record a { zone = x }) zone ∙ ap (λ x. record b { item = x }) item

-- the name of the zone is their key
pub meets_entry : (name other : Text) (e : Entry) → has_key (name_key name) (entry_row other e) ≡ bytes_eq other name
meets_entry name other e = first_cell name other []

pub entries_same : (contents : Contents) (name : Text) (xs ys : List Entry) → HoldsEntries contents name xs
    → HoldsEntries contents name ys → xs ≡ ys
entries_same = items_same _ entry_row HasEntryRowForms _ _ nat_list_cmp_total exact_entry

-- ---- and numbers

pub exact_number : (a b : ZoneRow EntryNumber) → HasNumberForms a → HasNumberForms b
    → row_of_number a ≡ row_of_number b → a ≡ b
exact_number a b p q e =
    let zone : a.zone ≡ b.zone = cc in
    let id : a.item.id ≡ b.item.id = cc in
    let number : a.item.number ≡ b.item.number = cc in
    let item : a.item ≡ b.item = ap₂ (λ x n. record { id = x; number = n }) id number in
    ap₂ (λ x n. record { zone = x; item = n }) zone item

pub meets_number : (name other : Text) (n : EntryNumber)
    → has_key (name_key name) (number_row other n) ≡ bytes_eq other name
meets_number name other n = first_cell name other []

pub numbers_same : (contents : Contents) (name : Text) (xs ys : List EntryNumber) → HoldsChosen contents name xs
    → HoldsChosen contents name ys → xs ≡ ys
numbers_same = items_same _ number_row HasNumberForms _ _ nat_list_cmp_total exact_number
