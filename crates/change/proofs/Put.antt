-- One entry after the other is put.
use Rattle.std.proofs.Common.{◌≡◌, ◌⊎◌, inl, inr, Bool, true, false, ℕ, ◌+◌, ◌<◌, List, [], length, get_or}
use Rattle.std.proofs.Common.{Some, None, refl, sym, ap, ◌∙◌, subst, cond, true≢false, take, All}
use Rattle.std.specs.Prelude.{Contains, find, if◌then◌else◌}
use Rattle.std.specs.Option.{option_map_or}
use Rattle.std.specs.Ordering.{nat_cmp}
use Rattle.std.specs.Cmp.Lexicographic.{slice_cmp, texts_ties}
use Rattle.std.specs.Str.{bytes_eq}
use Rattle.std.proofs.lemmas.Cmp.{nat_list_cmp_total}
use Rattle.std.proofs.lemmas.List.Elements.{All-nil}
use Rattle.terms.proofs.ListMembers.{none_in}
use Rattle.terms.proofs.TextOrder.{same_from, same_itself}
use Rattle.sorted.specs.declared.edits.Edit.TheVariants.{Put, Remove}
use Rattle.terms.specs.Types.{Id, Entry, Zone}
use Rattle.terms.specs.Lookups.{has_content, entry_of}
use Rattle.zones_maps.specs.Delta.{ZoneEdits}
use Rattle.sorted.specs.Edits.{edit_key, edit_put}
use Rattle.terms.proofs.Placing.{All_with_item}
use Rattle.terms.proofs.Ids.{in_or_not}
use Rattle.change.specs.declared.deleting.Deleting.{Deleting}
use Rattle.change.specs.declared.plan.Plan.{Plan}
use Rattle.zones_maps.specs.Differing.{EntryEdit, ChangesEntry, AddsEntryEdit, with_entry_edit}
use Rattle.change.specs.Entries.{IsMadeEntry, PutsEntry, HasPutEntries, entry_after, held_edit, if_held}
use Rattle.change.proofs.Gathered.{in_more}
use Rattle.sorted.proofs.InTurn.{find_with_item}

abbrev key_of : EntryEdit → Id
key_of = edit_key (λ e. e.id)

module _ (d : Deleting) (p : Plan) where
  abbrev zone : Zone
  zone = d.left.zone.now

  pub put_none : (zone_edits : ZoneEdits) → zone_edits.entries ≡ [] → HasPutEntries d p [] zone_edits zone_edits
  put_none zone_edits empty = record {
    elements = refl;
    put = λ x h. absurd (none_in x h);
    others = λ x out. ap (λ es. option_map_or edit_put (find (λ e. bytes_eq (key_of e) x) es) (entry_of zone x)) empty;
    differ = subst (All (ChangesEntry zone)) (sym empty) (All-nil (ChangesEntry zone));
  }

  -- what stands at an id after an edit
  after_put : (zone_edits : ZoneEdits) (v : EntryEdit) (y : Id) (b : Bool) → bytes_eq (key_of v) y ≡ b
      → entry_after (with_entry_edit zone_edits v) zone y ≡ cond b (edit_put v) (entry_after zone_edits zone y)
  after_put zone_edits v y b at =
      ap (λ o. option_map_or edit_put o (entry_of zone y))
      (find_with_item nat_list_cmp_total key_of bytes_eq texts_ties zone_edits.entries v y)
      ∙ by (bytes_eq (key_of v) y) at
    where
      by : (c : Bool) → c ≡ b
          → option_map_or edit_put (cond c (Some v) (find (λ e. bytes_eq (key_of e) y) zone_edits.entries))
          (entry_of zone y) ≡ cond b (edit_put v) (entry_after zone_edits zone y)
      by true same = ap (λ c. cond c (edit_put v) (entry_after zone_edits zone y)) same
      by false same = ap (λ c. cond c (edit_put v) (entry_after zone_edits zone y)) same

  module _ (xs : List Id) (k : ℕ) (x : Id) (start old : ZoneEdits) (below : k < length xs) (is : x ≡ get_or xs k x)
      (e : Entry) (made : IsMadeEntry d p x e) (so_far : HasPutEntries d p (take k xs) start old) where
    -- what is left at the id stands there
    stands : entry_of zone x ≡ if_held e → HasPutEntries d p (take (k + 1) xs) start old
    stands there = record {
      elements = so_far.elements;
      put = λ y h. elim ((in_more xs k x below is y).0 h) [
        | inl was ↦ so_far.put y was
        | inr same ↦ elim (in_or_not (take k xs) y) [
          | inl was ↦ so_far.put y was
          | inr out ↦ (
            e,
            so_far.others y out ∙ ap (entry_of zone) (sym same) ∙ there,
            subst (λ v. IsMadeEntry d p v e) same made,
          )
        ]
      ];
      others = λ y out. so_far.others y (λ was. out ((in_more xs k x below is y).1 (inl was)));
      differ = so_far.differ;
    }

    -- an edit at the id that leaves the entry there, if something holds it
    edited : (v : EntryEdit) → key_of v ≡ x → edit_put v ≡ if_held e → ChangesEntry zone v
        → HasPutEntries d p (take (k + 1) xs) start (with_entry_edit old v)
    edited v key puts differs = record {
      elements = so_far.elements;
      put = λ y h. by_put y ((in_more xs k x below is y).0 h) (bytes_eq (key_of v) y) refl;
      others = λ y out. by_other y out (bytes_eq (key_of v) y) refl;
      differ = All_with_item (slice_cmp nat_cmp) key_of (ChangesEntry zone) old.entries v so_far.differ differs;
    }
      where
        at_id : (y : Id) → bytes_eq (key_of v) y ≡ true → x ≡ y
        at_id y hit = sym key ∙ same_from (key_of v) y hit

        by_put : (y : Id) → Contains (take k xs) y ⊎ (x ≡ y) → (b : Bool) → bytes_eq (key_of v) y ≡ b
            → (f : Entry) × (entry_after (with_entry_edit old v) zone y ≡ if_held f) × IsMadeEntry d p y f
        by_put y h true hit = (
          e,
          after_put old v y true hit ∙ puts,
          subst (λ v. IsMadeEntry d p v e) (at_id y hit) made,
        )
        by_put y (inl was) false off =
            let f = so_far.put y was in (f.0, after_put old v y false off ∙ f.1, f.2)
        by_put y (inr same) false off =
            absurd (true≢false (sym (same_itself y) ∙ ap (λ v. bytes_eq v y) (sym (key ∙ same)) ∙ off))

        by_other : (y : Id) → (¬ Contains (take (k + 1) xs) y) → (b : Bool) → bytes_eq (key_of v) y ≡ b
            → entry_after (with_entry_edit old v) zone y ≡ entry_of zone y
        by_other y out true hit = absurd (out ((in_more xs k x below is y).1 (inr (at_id y hit))))
        by_other y out false off =
            after_put old v y false off ∙ so_far.others y (λ was. out ((in_more xs k x below is y).1 (inl was)))

    key_is : key_of (held_edit x e) ≡ x
    key_is = by (has_content e)
      where
        by : (b : Bool) → key_of (if b then Put e else Remove x) ≡ x
        by true = made.after.id
        by false = refl

    left_is : edit_put (held_edit x e) ≡ if_held e
    left_is = by (has_content e)
      where
        by : (b : Bool) → edit_put {X = Entry} {K = Id} (if b then Put e else Remove x) ≡ (if b then Some e else None)
        by true = refl
        by false = refl

    one_more : (new : ZoneEdits) → AddsEntryEdit zone (held_edit x e) old new
        → HasPutEntries d p (take (k + 1) xs) start new
    one_more new adds =
        elim adds [
          | inl same ↦ subst (HasPutEntries d p (take (k + 1) xs) start) (sym same.0)
              (stands (ap (entry_of zone) (sym key_is) ∙ sym same.1 ∙ left_is))
          | inr edit ↦ subst (HasPutEntries d p (take (k + 1) xs) start) (sym edit.0)
              (edited (held_edit x e) key_is left_is edit.1)
        ]

  pub put_next : (xs : List Id) (k : ℕ) (x : Id) (start old new : ZoneEdits) → k < length xs → x ≡ get_or xs k x
      → PutsEntry d p x old new → HasPutEntries d p (take k xs) start old
      → HasPutEntries d p (take (k + 1) xs) start new
  put_next xs k x start old new below is puts so_far =
      one_more xs k x start old below is puts.0 puts.1 so_far new puts.2
