-- Edits of holds, and what they make of the inventory.
use Rattle.std.proofs.Common.{◌&&◌, ◌≡◌, ◌==◌, Bool, not, List, ◌∷◌, map}
use Rattle.std.proofs.Common.{IsPermutation, refl, sym, ap, ap₂, subst, ◌∙◌}
use Rattle.std.specs.Prelude.{filter}
use Rattle.std.specs.declared.cmp.Ordering.{Ordering}
use Rattle.std.specs.declared.cmp.Ordering.TheVariants.{Less, Equal, Greater}
use Rattle.std.specs.Ordering.{is_eq, ordering_reverse}
use Rattle.std.specs.Str.{bytes_eq}
use Rattle.std.proofs.lemmas.List.Sorted.{IsPermutation-refl, IsPermutation-map}
use Rattle.terms.proofs.Booleans.{and_assoc}
use Rattle.sqlite.specs.Store.{Ghosts}
use Rattle.sqlite.specs.Held.{Held, state}
use Rattle.sqlite_trees.proofs.ListLemmas.{filter-map}
use Rattle.terms.specs.declared.kinds.HoldKind.{HoldKind}
use Rattle.terms.specs.declared.kinds.HoldKind.TheVariants.{Error, System, User}
use Rattle.terms.specs.Types.{Text, Id, Hold, hold_number}
use Rattle.terms.specs.Rising.{with_item}
use Rattle.terms.specs.Spelling.{hold_text}
use Rattle.terms.specs.Global as rule
use Rattle.terms.specs.Global.{hold_cmp, without_hold}
use Rattle.terms.proofs.GlobalKept.{hold_cmp_total}
use Rattle.terms.proofs.HoldOrder.{has_key_ties}
use Rattle.store_rows.specs.Inside.{Turns}
use Rattle.store_rows.specs.Rows.{HasContents, has_key, in_table, with_put, without}
use Rattle.store_rows.proofs.ContentsLemmas.{permuted}
use Rattle.store_rows.proofs.Keys.{equals, and_true}
use Rattle.store_rows.proofs.RowLemmas.{filter_same}
use Rattle.store_schema.specs.Rows.{hold_row}
use Rattle.store_schema.specs.Stands.{rows_of}
use Rattle.store_schema.specs.Tables.{hold as hold_table, store_schema}
use Rattle.store_sysmods.specs.Holds.{hold_key, key_row}
use Rattle.store_sysmods.specs.Sysmods.{ChangesGlobal}
use Rattle.sysmods.specs.Edits.{with_hold}
use Rattle.store.proofs.Parts.{put_parts}

-- ---- the keys of holds

kinds_alike : (a b : HoldKind) → bytes_eq (hold_text a) (hold_text b) ≡ (hold_number a == hold_number b)
kinds_alike Error Error = refl
kinds_alike Error System = refl
kinds_alike Error User = refl
kinds_alike System Error = refl
kinds_alike System System = refl
kinds_alike System User = refl
kinds_alike User Error = refl
kinds_alike User System = refl
kinds_alike User User = refl

hold_meets : (x : Id) (kind : HoldKind) (reason : Text) (h : Hold)
    → has_key (key_row x kind reason) (hold_row h) ≡ rule.has_key x kind reason h
hold_meets x kind reason h =
    ap₂ ◌&&◌ (equals h.id x) (ap₂ ◌&&◌ (equals (hold_text h.kind) (hold_text kind) ∙ kinds_alike h.kind kind)
    (and_true _ ∙ equals h.reason reason))
    ∙ and_assoc (bytes_eq h.id x) (hold_number h.kind == hold_number kind) (bytes_eq h.reason reason)

same_key : Hold → Hold → Bool
same_key a b = rule.has_key b.id b.kind b.reason a

eq_back : (r : Ordering) → is_eq r ≡ is_eq (ordering_reverse r)
eq_back Less = refl
eq_back Equal = refl
eq_back Greater = refl

hold_ties : (a b : Hold) → same_key a b ≡ is_eq (hold_cmp a b)
unfolding same_key
hold_ties a b = sym (has_key_ties b.id b.kind b.reason a) ∙ eq_back (hold_cmp b a)
    ∙ ap is_eq (sym (hold_cmp_total.antisymm a b))

-- ---- the rows of holds

others : (x : Id) (kind : HoldKind) (reason : Text) (holds : List Hold)
    → map hold_row (filter (λ h. not (rule.has_key x kind reason h)) holds) ≡ without (key_row x kind reason)
    (map hold_row holds)
others x kind reason holds =
    let key = key_row x kind reason in
    ap (map hold_row) (filter_same _ _ holds (λ h there. ap not (sym (hold_meets x kind reason h))))
    ∙ sym (filter-map (λ r. not (has_key key r)) hold_row holds)

put_rows : (h : Hold) (holds : List Hold) → IsPermutation (map hold_row (with_item hold_cmp (λ (o : Hold). o) holds h))
    (hold_row h ∷ without (hold_key h) (map hold_row holds))
unfolding same_key
put_rows h holds =
    subst (λ rows. IsPermutation (map hold_row (with_item hold_cmp (λ (o : Hold). o) holds h)) (hold_row h ∷ rows))
    (others h.id h.kind h.reason holds)
    (IsPermutation-map hold_row _ _ (put_parts hold_cmp_total (λ (o : Hold). o) same_key hold_ties h holds))

left_rows : (x : Id) (kind : HoldKind) (reason : Text) (holds : List Hold)
    → IsPermutation (map hold_row (filter (λ h. not (rule.has_key x kind reason h)) holds))
    (without (key_row x kind reason) (map hold_row holds))
left_rows x kind reason holds =
    subst (IsPermutation (map hold_row (filter (λ h. not (rule.has_key x kind reason h)) holds)))
    (others x kind reason holds) (IsPermutation-refl _)

module _ {S : Type 0} (g : Ghosts S) (old new : Held S) where
  pub hold_put : (h : Hold) → Turns g old new (HasContents store_schema) (with_put hold_table (hold_key h) (hold_row h))
      → ChangesGlobal g old new (λ global. Unit {0}) (with_hold h)
  hold_put h turns i fits clean was =
      permuted store_schema (with_put hold_table (hold_key h) (hold_row h) (rows_of i))
      (rows_of (record i { global = with_hold h i.global })) (state g new).now (
        IsPermutation-refl _,
        (
          IsPermutation-refl _,
          (
            IsPermutation-refl _,
            (
              IsPermutation-refl _,
              (
                put_rows h i.global.holds,
                (
                  IsPermutation-refl _,
                  (
                    IsPermutation-refl _,
                    (
                      IsPermutation-refl _,
                      (
                        IsPermutation-refl _,
                        (
                          IsPermutation-refl _,
                          (IsPermutation-refl _, (IsPermutation-refl _, (IsPermutation-refl _, tt))),
                        ),
                      ),
                    ),
                  ),
                ),
              ),
            ),
          ),
        ),
      )
      (turns clean (rows_of i) was)

  pub hold_removed : (x : Id) (kind : HoldKind) (reason : Text)
      → Turns g old new (HasContents store_schema) (in_table hold_table (without (key_row x kind reason)))
      → ChangesGlobal g old new (λ global. Unit {0}) (without_hold x kind reason)
  hold_removed x kind reason turns i fits clean was =
      permuted store_schema (in_table hold_table (without (key_row x kind reason)) (rows_of i))
      (rows_of (record i { global = without_hold x kind reason i.global })) (state g new).now (
        IsPermutation-refl _,
        (
          IsPermutation-refl _,
          (
            IsPermutation-refl _,
            (
              IsPermutation-refl _,
              (
                left_rows x kind reason i.global.holds,
                (
                  IsPermutation-refl _,
                  (
                    IsPermutation-refl _,
                    (
                      IsPermutation-refl _,
                      (
                        IsPermutation-refl _,
                        (
                          IsPermutation-refl _,
                          (IsPermutation-refl _, (IsPermutation-refl _, (IsPermutation-refl _, tt))),
                        ),
                      ),
                    ),
                  ),
                ),
              ),
            ),
          ),
        ),
      )
      (turns clean (rows_of i) was)
