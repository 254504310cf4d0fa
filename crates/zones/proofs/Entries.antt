-- A zone less what is gone: it has the form of a zone.
use Rattle.std.proofs.Common.{◌≡◌, Bool, true, false, List, refl, IsTrue, All, map}
use Rattle.std.specs.Ordering.{nat_cmp}
use Rattle.std.specs.Cmp.Lexicographic.{slice_cmp}
use Rattle.std.proofs.lemmas.List.Elements.{All-filter, All-map, All-weaker, filter_passes}
use Rattle.std.proofs.lemmas.List.Kept.{AllPairs-filter}
use Rattle.terms.proofs.Pairs.{pairs_map}
use Rattle.terms.specs.Types.{Id, Entry}
use Rattle.terms.specs.Rising.{Rises}
use Rattle.terms.specs.Lookups.{has_content, waives_applied, is_before}
use Rattle.terms.specs.Deleted.{entry_less, entries_less}

module _ (is_gone : Id → Bool) where
  pub entries_less_held : (es : List Entry) → All (λ e. IsTrue (has_content e)) (entries_less is_gone es)
  entries_less_held es = filter_passes has_content (map (entry_less is_gone) es)

  -- only what is still applied waives anything
  pub entry_less_waives : (e : Entry) → IsTrue (waives_applied e) → IsTrue (waives_applied (entry_less is_gone e))
  entry_less_waives e waives = by (is_gone e.id) refl
    where
      by : (b : Bool) → is_gone e.id ≡ b → IsTrue (waives_applied (entry_less is_gone e))
      by true g = rw g refl
      by false g = rw g waives

  pub entries_less_waive : (es : List Entry) → All (λ e. IsTrue (waives_applied e)) es
      → All (λ e. IsTrue (waives_applied e)) (entries_less is_gone es)
  entries_less_waive es waive =
      All-filter has_content (λ e. IsTrue (waives_applied e)) (map (entry_less is_gone) es)
      (All-map (λ e. IsTrue (waives_applied e)) (entry_less is_gone) es
      (All-weaker (λ e. IsTrue (waives_applied e)) (λ e. IsTrue (waives_applied (entry_less is_gone e)))
      entry_less_waives es waive))

  pub entries_less_rise : (es : List Entry) → Rises (slice_cmp nat_cmp) (λ e. e.id) es
      → Rises (slice_cmp nat_cmp) (λ e. e.id) (entries_less is_gone es)
  entries_less_rise es rise =
      AllPairs-filter (λ e f. IsTrue (is_before e.id f.id)) has_content (map (entry_less is_gone) es)
      (pairs_map (λ e f. IsTrue (is_before e.id f.id)) (λ e f. IsTrue (is_before e.id f.id)) (entry_less is_gone)
      (λ e f low. low) es rise)
