-- The edits that take SYSMODs out of the entries of a zone.
use Rattle.std.proofs.Common.{◌≡◌, ◌≢◌, inl, inr, Bool, true, false, not, List, [], ◌∷◌, ◌++◌, Option, None, Some, refl}
use Rattle.std.proofs.Common.{ℕ, ◌<◌, ◌+◌, length, take, get_or}
use Rattle.std.proofs.Common.{sym, ap, ◌∙◌, subst, true≢false, IsTrue, All, map, filter, append_assoc}
use Rattle.std.specs.Prelude.{◌&&◌, ◌||◌, is_some, Contains, find, fold, if◌then◌else◌}
use Rattle.std.specs.List.{list_any}
use Rattle.std.specs.Option.{option_map}
use Rattle.std.specs.Ordering.{nat_cmp}
use Rattle.std.specs.Cmp.Lexicographic.{slice_cmp, texts_ties}
use Rattle.std.specs.Str.{bytes_eq}
use Rattle.std.proofs.lemmas.Bool.{and_parts}
use Rattle.std.proofs.lemmas.Cmp.{nat_list_cmp_total}
use Rattle.std.proofs.lemmas.List.{append-nil, take_more}
use Rattle.std.proofs.lemmas.List.Sums.{fold-append}
use Rattle.std.proofs.lemmas.List.Elements.{All-weaker, filter_passes}
use Rattle.std.proofs.lemmas.List.Folds.{list_any_none}
use Rattle.terms.proofs.ListMembers.{here, there as later}
use Rattle.terms.proofs.Options.{None_from_is_some}
use Rattle.terms.proofs.Pairs.{pairs_map}
use Rattle.terms.proofs.Searches.{All_from_no_list_any, All_find, filter_all, find_map, is_some_find, list_any_map}
use Rattle.terms.proofs.TextOrder.{same_from, same_itself}
use Rattle.sorted.specs.declared.edits.Edit.{Edit}
use Rattle.sorted.specs.declared.edits.Edit.TheVariants.{Put, Remove}
use Rattle.sorted.specs.Edits.{edit_key, edit_put, after_edits}
use Rattle.terms.specs.Types.{Id, Entry, Zone, Applied}
use Rattle.terms.specs.Lookups.{IsZone, is_nil, has_content, is_before, waives_applied, entry_of}
use Rattle.terms.specs.Rising.{with_item}
use Rattle.terms.specs.Deleted.{entry_less, entries_less}
use Rattle.zones_maps.specs.Delta.{ZoneEdits}
use Rattle.zones.proofs.Filtered.{passing, find_filter}
use Rattle.sorted.specs.Turned.{Turns, TurnsAt, AreTurned}
use Rattle.change.specs.Restoring.{loses, less_edit, take_off}
use Rattle.sorted.proofs.InTurn.{find_member}
use Rattle.sorted.proofs.Turning.{turned_none, turned_next}

module _ (is_gone : Id → Bool) where
  abbrev stays : Id → Bool
  stays y = not (is_gone y)

  none_left_out : (ids : List Id) → list_any is_gone ids ≡ false → filter stays ids ≡ ids
  none_left_out ids none =
      filter_all stays ids (All-weaker (λ y. is_gone y ≡ false) (λ y. stays y ≡ true) (λ y off. ap not off) ids
      (All_from_no_list_any is_gone ids none))

  none_gone : (ids : List Id) → filter stays ids ≡ ids → list_any is_gone ids ≡ false
  none_gone ids same =
      list_any_none is_gone ids (subst (All (λ y. is_gone y ≡ false)) same
      (All-weaker (λ y. stays y ≡ true) (λ y. is_gone y ≡ false) (λ y. by (is_gone y)) (filter stays ids)
      (filter_passes stays ids)))
    where
      by : (b : Bool) → not b ≡ true → b ≡ false
      by true off = absurd (true≢false (sym off))
      by false off = refl

  or_parts : (a b : Bool) → (a || b) ≡ false → (a ≡ false) × (b ≡ false)
  or_parts true b none = absurd (true≢false none)
  or_parts false b none = (refl, none)

  -- an entry of given parts
  abbrev parts_of : Entry → Option Applied → List Id → List Id → Entry
  parts_of e applied supby waived = record e { applied = applied; supby = supby; waived = waived }

  -- an entry that loses nothing stays as it is
  unlost : (e : Entry) → IsTrue (waives_applied e) → loses is_gone e ≡ false → entry_less is_gone e ≡ e
  unlost e waives none =
      let off = or_parts (is_gone e.id && is_some e.applied) (list_any is_gone e.supby) none in
      by (is_gone e.id) refl off.0
      ∙ ap (λ ids. parts_of e e.applied ids e.waived) (none_left_out e.supby off.1)
    where
      unwaived : is_some e.applied ≡ false → e.waived ≡ []
      unwaived undated = by_list e.waived refl
        where
          by_list : (zs : List Id) → e.waived ≡ zs → e.waived ≡ []
          by_list [] at = at
          by_list (z ∷ zs) at = absurd (true≢false (sym waives
              ∙ ap (λ b. b || is_nil e.waived) undated ∙ ap is_nil at))

      by : (b : Bool) → is_gone e.id ≡ b → (b && is_some e.applied) ≡ false
          → entry_less is_gone e ≡ parts_of e e.applied (filter stays e.supby) e.waived
      by true gone undated =
          ap (λ b. parts_of e (if b then None else e.applied) (filter stays e.supby) (if b then [] else e.waived)) gone
          ∙ ap (λ a. parts_of e a (filter stays e.supby) []) (sym (None_from_is_some e.applied undated))
          ∙ ap (parts_of e e.applied (filter stays e.supby)) (sym (unwaived undated))
      by false here undated =
          ap (λ b. parts_of e (if b then None else e.applied) (filter stays e.supby) (if b then [] else e.waived)) here

  -- and one that loses something does not
  lost : (e : Entry) → loses is_gone e ≡ true → entry_less is_gone e ≢ e
  lost e some same = by (is_gone e.id && is_some e.applied) refl
    where
      by : (b : Bool) → (is_gone e.id && is_some e.applied) ≡ b → ⊥
      by true both =
          let parts = and_parts (is_gone e.id) (is_some e.applied) both in
          let undated : None ≡ e.applied =
          sym (ap (λ b. if b then None else e.applied) parts.0) ∙ ap (λ (v : Entry). v.applied) same in
          true≢false (sym parts.1 ∙ ap is_some (sym undated))
      by false off =
          true≢false (sym some ∙ ap (λ b. b || list_any is_gone e.supby) off
          ∙ none_gone e.supby (ap (λ (v : Entry). v.supby) same))

  module _ (zone : Zone) (z : IsZone zone) where
    abbrev wanted : Id → Option Entry
    wanted x = find (λ e. bytes_eq e.id x) (entries_less is_gone zone.entries)

    abbrev Turned : List Id → List (Edit Entry Id) → Type 0
    Turned = AreTurned (slice_cmp nat_cmp) bytes_eq (λ e. e.id) zone.entries wanted

    wanted_is : (x : Id) → wanted x ≡ passing has_content (option_map (entry_less is_gone) (entry_of zone x))
    wanted_is x =
        find_filter nat_list_cmp_total (λ (e : Entry). e.id) bytes_eq texts_ties has_content x
        (map (entry_less is_gone) zone.entries)
        (pairs_map (λ e f. IsTrue (is_before e.id f.id)) (λ e f. IsTrue (is_before e.id f.id)) (entry_less is_gone)
        (λ e f low. low) zone.entries z.entries)
        ∙ ap (passing has_content) (find_map (λ e. bytes_eq e.id x) (entry_less is_gone) (λ e. refl) zone.entries)

    -- an entry of the zone
    module _ (e : Entry) (there : Contains zone.entries e) where
      found : entry_of zone e.id ≡ Some e
      found = find_member nat_list_cmp_total (λ (v : Entry). v.id) bytes_eq texts_ties zone.entries e e.id z.entries
          there (same_itself e.id)

      less_wanted : wanted e.id ≡ passing has_content (Some (entry_less is_gone e))
      less_wanted = wanted_is e.id ∙ ap (λ o. passing has_content (option_map (entry_less is_gone) o)) found

      edit_turns : loses is_gone e ≡ true
          → Turns (slice_cmp nat_cmp) bytes_eq (λ v. v.id) zone.entries wanted e.id (less_edit is_gone e)
      edit_turns some = by (has_content (entry_less is_gone e)) refl
        where
          by : (b : Bool) → has_content (entry_less is_gone e) ≡ b
              → Turns (slice_cmp nat_cmp) bytes_eq (λ v. v.id) zone.entries wanted e.id (less_edit is_gone e)
          by true held = record {
            at = ap (λ b. edit_key (λ (v : Entry). v.id) (if b then Put (entry_less is_gone e) else Remove e.id)) held;
            puts = ap (λ b. edit_put {X = Entry} {K = Id} (if b then Put (entry_less is_gone e) else Remove e.id)) held
                ∙ sym (less_wanted ∙ ap (λ b. if b then Some (entry_less is_gone e) else None) held);
            differs = λ same.
                let both : Some (entry_less is_gone e) ≡ Some e =
                sym (ap (λ b. edit_put {X = Entry} {K = Id} (if b then Put (entry_less is_gone e) else Remove e.id))
                held)
                ∙ same ∙ found in
                lost e some (cc both);
          }
          by false unheld = record {
            at = ap (λ b. edit_key (λ (v : Entry). v.id) (if b then Put (entry_less is_gone e) else Remove e.id))
                unheld;
            puts = ap (λ b. edit_put {X = Entry} {K = Id} (if b then Put (entry_less is_gone e) else Remove e.id))
                unheld
                ∙ sym (less_wanted ∙ ap (λ b. if b then Some (entry_less is_gone e) else None) unheld);
            differs = λ same.
                let both : None ≡ Some e =
                sym (ap (λ b. edit_put {X = Entry} {K = Id} (if b then Put (entry_less is_gone e) else Remove e.id))
                unheld) ∙ same ∙ found in
                cc both;
          }

      turns : (zone_edits : ZoneEdits) → TurnsAt (slice_cmp nat_cmp) bytes_eq (λ v. v.id) zone.entries wanted e.id
          zone_edits.entries (take_off is_gone zone_edits e).entries
      turns zone_edits = by (loses is_gone e) refl
        where
          by : (b : Bool) → loses is_gone e ≡ b → TurnsAt (slice_cmp nat_cmp) bytes_eq (λ v. v.id) zone.entries wanted
              e.id zone_edits.entries (take_off is_gone zone_edits e).entries
          by true some = inr (
            less_edit is_gone e,
            ap (λ b. (if b then record zone_edits {
              entries = with_item (slice_cmp nat_cmp) (edit_key (λ v. v.id)) zone_edits.entries (less_edit is_gone e);
            } else zone_edits).entries) some,
            edit_turns some,
          )
          by false none =
              let held : IsTrue (has_content e) = All_find (λ v. IsTrue (has_content v)) (λ v. bytes_eq v.id e.id)
              zone.entries e z.held found in
              let waives : IsTrue (waives_applied e) = All_find (λ v. IsTrue (waives_applied v))
              (λ v. bytes_eq v.id e.id) zone.entries e z.waived found in
              inl (
                ap (λ b. (if b then record zone_edits {
                  entries = with_item (slice_cmp nat_cmp) (edit_key (λ v. v.id)) zone_edits.entries
                      (less_edit is_gone e);
                } else zone_edits).entries) none,
                less_wanted ∙ ap (λ v. passing has_content (Some v)) (unlost e waives none)
                    ∙ ap (λ b. if b then Some e else None) held ∙ sym found,
              )

    -- some entries of the zone, one after the other
    taken_off : (es : List Entry) (ks : List Id) (zone_edits : ZoneEdits) → ((e : Entry) → Contains es e
        → Contains zone.entries e) → Turned ks zone_edits.entries
        → Turned (ks ++ map (λ e. e.id) es) (fold (take_off is_gone) zone_edits es).entries
    taken_off [] ks zone_edits there so_far = subst (λ js. Turned js zone_edits.entries) (sym (append-nil ks)) so_far
    taken_off (e ∷ es) ks zone_edits there so_far =
        subst (λ js. Turned js (fold (take_off is_gone) (take_off is_gone zone_edits e) es).entries)
        (append_assoc ks (e.id ∷ []) (map (λ v. v.id) es))
        (taken_off es (ks ++ e.id ∷ []) (take_off is_gone zone_edits e) (λ v h. there v (later e es v h))
        (turned_next nat_list_cmp_total (λ (v : Entry). v.id) bytes_eq texts_ties same_from zone.entries wanted ks e.id
        zone_edits.entries (take_off is_gone zone_edits e).entries so_far (turns e (there e (here e es)) zone_edits)))

    pub all_taken_off : (zone_edits : ZoneEdits) → zone_edits.entries ≡ []
        → Turned (map (λ e. e.id) zone.entries) (fold (take_off is_gone) zone_edits zone.entries).entries
    all_taken_off zone_edits empty =
        taken_off zone.entries [] zone_edits (λ e h. h)
        (subst (Turned []) (sym empty)
        (turned_none nat_list_cmp_total (λ (v : Entry). v.id) bytes_eq texts_ties same_from zone.entries wanted))

    -- Then each id has the entry that is left of it.
    pub entry_left : (edits : List (Edit Entry Id)) → Turned (map (λ e. e.id) zone.entries) edits → (x : Id)
        → after_edits bytes_eq (λ e. e.id) edits zone.entries x ≡ wanted x
    entry_left edits turned x =
        turned.leaves x ∙ by (list_any (λ j. bytes_eq j x) (map (λ e. e.id) zone.entries)) refl
      where
        by : (b : Bool) → list_any (λ j. bytes_eq j x) (map (λ e. e.id) zone.entries) ≡ b
            → (if b then wanted x else entry_of zone x) ≡ wanted x
        by true among = refl
        by false out =
            let none : entry_of zone x ≡ None = None_from_is_some (entry_of zone x)
            (is_some_find (λ e. bytes_eq e.id x) zone.entries
            ∙ sym (list_any_map (λ j. bytes_eq j x) (λ (e : Entry). e.id) zone.entries) ∙ out) in
            none ∙ sym (wanted_is x ∙ ap (λ o. passing has_content (option_map (entry_less is_gone) o)) none)

  pub elements_stay : (zone_edits : ZoneEdits) (es : List Entry)
      → (fold (take_off is_gone) zone_edits es).elements ≡ zone_edits.elements
  elements_stay zone_edits [] = refl
  elements_stay zone_edits (e ∷ es) = elements_stay (take_off is_gone zone_edits e) es ∙ by (loses is_gone e) refl
    where
      by : (b : Bool) → loses is_gone e ≡ b → (take_off is_gone zone_edits e).elements ≡ zone_edits.elements
      by true at = rw at refl
      by false at = rw at refl

  -- one entry more
  pub one_more : (zone_edits : ZoneEdits) (es : List Entry) (k : ℕ) (x : Entry) → k < length es → x ≡ get_or es k x
      → take_off is_gone (fold (take_off is_gone) zone_edits (take k es)) x
      ≡ fold (take_off is_gone) zone_edits (take (k + 1) es)
  one_more zone_edits es k x below at =
      sym (ap (fold (take_off is_gone) zone_edits) (take_more es k x below ∙ ap (λ y. take k es ++ y ∷ []) (sym at))
      ∙ fold-append (take_off is_gone) zone_edits (take k es) (x ∷ []))
