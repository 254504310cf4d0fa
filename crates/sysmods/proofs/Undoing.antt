-- Changes of the list of holds that are taken back.
use Rattle.std.proofs.Common.{◌≡◌, ◌∙◌, true, false, List, [], ◌∷◌, ◌++◌, refl, sym, ap, ap₂, subst, Option, None, Some}
use Rattle.std.proofs.Common.{is_some}
use Rattle.std.specs.Prelude.{Result, Ok, Err, OnOk, OnErr}
use Rattle.std.specs.List.Sorted.{IsStrictlySortedBy}
use Rattle.std.specs.Map.{lookup, remove_entry, keys_of, values_of}
use Rattle.std.specs.BTreeMap.{insert_entry, is_at}
use Rattle.terms.specs.Types.{Hold}
use Rattle.terms.specs.Global.{hold_cmp, marked}
use Rattle.terms.specs.Rising.{with_item}
use Rattle.sysmods.proofs.KeyedMaps as keyed
use Rattle.sysmods.specs.declared.key.HoldKey.{HoldKey}
use Rattle.sysmods.specs.declared.undo.Undo.{Undo}
use Rattle.sysmods.specs.declared.undo.Undo.TheVariants.{Remove, Restore}
use Rattle.sysmods.specs.Keys.{key_of, key_cmp, key_cmp_total, IsByKey}
use Rattle.sysmods.specs.Lists.{held, with_hold}
use Rattle.sysmods.specs.Undone.{Undoes, UndoesAll}
use Rattle.sysmods.proofs.HoldMaps.{Entries, found, found_key, put, listed_put, listed_removed}

module _ (es fs : Entries) (m : IsByKey es) (h : Hold) (is : fs ≡ insert_entry key_cmp es (key_of h) h)
    (after : IsStrictlySortedBy key_cmp (keys_of fs)) where
  new : IsByKey fs
  new = put es m h fs is after

  -- a new hold goes again
  pub undoes_new : lookup (is_at (key_cmp (key_of h))) es ≡ None
      → Undoes (values_of es) (values_of fs) (Remove (key_of h))
  undoes_new none =
      ap values_of (sym (keyed.remove_insert key_cmp_total key_of es (key_of h) h none)
      ∙ ap (remove_entry (is_at (key_cmp (key_of h)))) (sym is))
      ∙ listed_removed fs new (key_of h) (λ o. is_at (key_cmp (key_of h)) (key_of o)) (λ o. refl)

  -- an old one comes again
  pub undoes_replaced : (old : Hold) → lookup (is_at (key_cmp (key_of h))) es ≡ Some old
      → Undoes (values_of es) (values_of fs) (Restore old)
  undoes_replaced old some =
      let same : key_of old ≡ key_of h = found_key es m.known (key_of h) old some in
      let there : lookup (is_at (key_cmp (key_of h))) fs ≡ Some h =
      ap (lookup (is_at (key_cmp (key_of h)))) is ∙ keyed.lookup_inserted key_cmp_total key_of es (key_of h) h
      in
      let stands : held (values_of fs) old.id old.kind old.reason ≡ Some h =
      sym (found fs new old.id old.kind old.reason) ∙ ap (λ k. lookup (is_at (key_cmp k)) fs) same ∙ there in
      let back : insert_entry key_cmp fs (key_of old) old ≡ es =
      ap₂ (λ gs k. insert_entry key_cmp gs k old) is same ∙ keyed.insert_insert key_cmp_total key_of es (key_of h) h old
      m.sorted some in
      (ap is_some stands, ap values_of (sym back) ∙ listed_put fs new old)

-- what putting a hold makes of the map
pub record IsExchanged (es fs : Entries) (k : HoldKey) (h : Hold) : Type 0 where
  pub kept : IsByKey fs
  pub listed : values_of fs ≡ with_hold (values_of es) h
  pub was : lookup (is_at (key_cmp k)) es ≡ held (values_of es) h.id h.kind h.reason
  pub fresh : lookup (is_at (key_cmp k)) es ≡ None → Undoes (values_of es) (values_of fs) (Remove k)
  pub again : (old : Hold) → lookup (is_at (key_cmp k)) es ≡ Some old
      → Undoes (values_of es) (values_of fs) (Restore old)

at_key : (es fs : Entries) → IsByKey es → (h : Hold) (o : Option Hold) → o ≡ lookup (is_at (key_cmp (key_of h))) es
    → fs ≡ insert_entry key_cmp es (key_of h) (marked o h) → IsStrictlySortedBy key_cmp (keys_of fs)
    → IsExchanged es fs (key_of h) h
at_key es fs m h o o_is is after =
    let there = found es m h.id h.kind h.reason in
    record {
      kept = put es m (marked o h) fs is after;
      listed = ap values_of is ∙ listed_put es m (marked o h)
          ∙ ap (λ w. with_item hold_cmp (λ x. x) (values_of es) (marked w h)) (o_is ∙ there);
      was = there;
      fresh = undoes_new es fs m (marked o h) is after;
      again = undoes_replaced es fs m (marked o h) is after;
    }

pub exchanged : (es fs : Entries) → IsByKey es → (k : HoldKey) (h' h : Hold) (o : Option Hold) → k ≡ key_of h
    → h' ≡ marked o h → o ≡ lookup (is_at (key_cmp k)) es
    → fs ≡ insert_entry key_cmp es k h' → IsStrictlySortedBy key_cmp (keys_of fs) → IsExchanged es fs k h
exchanged es fs m k h' h o k_is h'_is o_is is after =
    subst (λ q. IsExchanged es fs q h) (sym k_is)
    (at_key es fs m h o (o_is ∙ ap (λ q. lookup (is_at (key_cmp q)) es) k_is)
    (is ∙ ap₂ (insert_entry key_cmp es) k_is h'_is) after)

-- taking one change back
pub takes_new : (es fs : Entries) → IsByKey es → (k : HoldKey) → fs ≡ remove_entry (is_at (key_cmp k)) es
    → (old : List Hold) → Undoes old (values_of es) (Remove k) → values_of fs ≡ old
takes_new es fs m k is old undoes =
    ap values_of is ∙ listed_removed es m k (λ h. is_at (key_cmp k) (key_of h)) (λ h. refl) ∙ sym undoes

module _ {E : Type 0} (es fs : Entries) (m : IsByKey es) (k : HoldKey) (h : Hold) (k_is : k ≡ key_of h) where
  pub kept_restored : (r : Result (Option Hold) E) → OnOk r (fs ≡ insert_entry key_cmp es k h) → OnErr r (fs ≡ es)
      → IsStrictlySortedBy key_cmp (keys_of fs) → IsByKey fs
  kept_restored (Ok o) ok err after = put es m h fs (ok ∙ ap (λ q. insert_entry key_cmp es q h) k_is) after
  kept_restored (Err e) ok err after = subst IsByKey (sym err) m

  pub takes_replaced : (r : Result (Option Hold) E) → OnOk r (fs ≡ insert_entry key_cmp es k h)
      → OnErr r (lookup (is_at (key_cmp k)) es ≡ None)
      → (old : List Hold) → Undoes old (values_of es) (Restore h) → values_of fs ≡ old
  takes_replaced (Ok o) ok absent old undoes = ap values_of (ok ∙ ap (λ q. insert_entry key_cmp es q h) k_is)
      ∙ listed_put es m h ∙ sym undoes.1
  takes_replaced (Err e) ok absent old undoes =
      let none : held (values_of es) h.id h.kind h.reason ≡ None =
      sym (found es m h.id h.kind h.reason) ∙ ap (λ q. lookup (is_at (key_cmp q)) es) (sym k_is) ∙ absent in
      absurd (none_some (sym (ap is_some none) ∙ undoes.0))
    where
      none_some : false ≡ true → ⊥
      none_some e = cc

-- a log with one more
pub undoes_more : (old mid now : List Hold) (us : List Undo) (u : Undo) → UndoesAll old mid us → Undoes mid now u
    → UndoesAll old now (us ++ u ∷ [])
undoes_more old mid now [] u all one = (now, subst (λ xs. Undoes xs now u) all one, refl)
undoes_more old mid now (v ∷ us) u all one = (all.0, all.1, undoes_more all.0 mid now us u all.2 one)

-- and with the last one taken
pub undoes_less : (old now : List Hold) (us : List Undo) (u : Undo) → UndoesAll old now (us ++ u ∷ [])
    → (mid : List Hold) × UndoesAll old mid us × Undoes mid now u
undoes_less old now [] u all = (old, refl, subst (λ xs. Undoes old xs u) (sym all.2) all.1)
undoes_less old now (v ∷ us) u all =
    let rest = undoes_less all.0 now us u all.2 in
    (rest.0, (all.0, all.1, rest.1), rest.2)
