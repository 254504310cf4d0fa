-- Where nothing is deleted, a zone stays as it is, and so does each view of it.
use Rattle.std.proofs.Common.{◌≡◌, Bool, true, false, not, List, [], ◌∷◌, ◌++◌, refl, ap, ◌∙◌, IsTrue, All, filter, map}
use Rattle.std.proofs.Common.{Contains}
use Rattle.std.specs.Prelude.{◌&&◌}
use Rattle.std.proofs.lemmas.List.Elements.{All-head, All-tail, filter_passes}
use Rattle.terms.specs.Types.{Id, Global, Entry, Element, Zone}
use Rattle.terms.specs.Lookups.{has_content, is_in, meets, is_applied}
use Rattle.terms.specs.Choice.{Choice, del_of}
use Rattle.terms.specs.Over.{chain}
use Rattle.terms.specs.Deleted.{deletions, is_deleted, is_taken_out, entry_less, entries_less, zone_less, view}
use Rattle.terms.proofs.Searches.{filter_all}
use Rattle.terms.proofs.Ids.{Contains_from_is_in}

-- no list meets the empty one
pub meets_nil : (xs : List Id) → meets xs [] ≡ false
meets_nil [] = refl
meets_nil (x ∷ xs) = meets_nil xs

pub is_deleted_none : (g : Global) (c : Choice) (x : Id) → is_deleted g c [] x ≡ false
is_deleted_none g c x = meets_nil (chain g c x)

pub is_taken_out_none : (g : Global) (c : Choice) (zone : Zone) (x : Id) → is_taken_out g c [] zone x ≡ false
is_taken_out_none g c zone x = by (is_applied zone x)
  where
    by : (b : Bool) → (b && is_deleted g c [] x) ≡ false
    by true = is_deleted_none g c x
    by false = refl

-- an entry where no SYSMOD is gone
pub entry_less_none : (is_gone : Id → Bool) → ((x : Id) → is_gone x ≡ false) → (e : Entry) → entry_less is_gone e ≡ e
entry_less_none is_gone none e =
    let supby : filter (λ y. not (is_gone y)) e.supby ≡ e.supby =
    filter_all (λ y. not (is_gone y)) e.supby (λ i d h. ap not (none _)) in
    rw (none e.id, supby) refl

-- entries where no SYSMOD is gone
pub entries_less_none : (is_gone : Id → Bool) → ((x : Id) → is_gone x ≡ false) → (es : List Entry)
    → All (λ e. IsTrue (has_content e)) es → entries_less is_gone es ≡ es
entries_less_none is_gone none es held = ap (filter has_content) (same es) ∙ filter_all has_content es held
  where
    same : (fs : List Entry) → map (entry_less is_gone) fs ≡ fs
    same [] = refl
    same (f ∷ fs) = ap (λ e. e ∷ map (entry_less is_gone) fs) (entry_less_none is_gone none f)
        ∙ ap (λ es. f ∷ es) (same fs)

with_lists : Zone → List Entry → List Element → Zone
with_lists zone entries elements = record zone { entries = entries; elements = elements }

-- a zone less no deletions
pub zone_less_none : (g : Global) (c : Choice) (zone : Zone) → All (λ e. IsTrue (has_content e)) zone.entries
    → zone_less g c [] zone ≡ zone
unfolding with_lists zone_less
zone_less_none g c zone held =
    let entries = entries_less_none (is_taken_out g c [] zone) (is_taken_out_none g c zone) zone.entries held in
    let elements = filter_all (λ e. not (is_deleted g c [] e.fmid)) zone.elements
    (λ i d h. ap not (is_deleted_none g c _)) in
    ap (λ es. with_lists zone es (filter (λ e. not (is_deleted g c [] e.fmid)) zone.elements)) entries
    ∙ ap (with_lists zone zone.entries) elements

-- SYSMODs without DELETE have no deletions
pub deletions_none : (c : Choice) (xs : List Id) → All (λ x. del_of c x ≡ []) xs → deletions c xs ≡ []
deletions_none c [] all = refl
deletions_none c (x ∷ xs) all =
    ap (λ ys. ys ++ deletions c xs) (All-head (λ x. del_of c x ≡ []) x xs all)
    ∙ deletions_none c xs (All-tail (λ x. del_of c x ≡ []) x xs all)

-- a view where no candidate has DELETE
pub view_none : (g : Global) (c : Choice) (cands : List Id) (zone : Zone) (x : Id)
    → All (λ e. IsTrue (has_content e)) zone.entries
    → ((y : Id) → Contains cands y → del_of c y ≡ []) → view g c cands zone x ≡ zone
view_none g c cands zone x held plain =
    ap (λ dels. zone_less g c dels zone)
    (deletions_none c (filter (is_in cands) (chain g c x)) (λ i d h.
    plain _ (Contains_from_is_in cands _ (filter_passes (is_in cands) (chain g c x) i d h))))
    ∙ zone_less_none g c zone held
