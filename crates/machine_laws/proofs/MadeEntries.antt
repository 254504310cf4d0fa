-- The entries that an install makes are there: a list of those that something holds.
use Rattle.std.proofs.Common.{◌≡◌, ◌∙◌, Bool, true, false, List, [], Option, None, Some, All}
use Rattle.std.proofs.Common.{IsTrue, find, refl, sym, true≢false, arith}
use Rattle.std.specs.Prelude.{IfSome, if◌then◌else◌}
use Rattle.std.specs.List.{list_any}
use Rattle.std.specs.Ordering.{nat_cmp}
use Rattle.std.specs.Cmp.Lexicographic.{slice_cmp, texts_ties}
use Rattle.std.specs.Str.{bytes_eq}
use Rattle.std.proofs.lemmas.Cmp.{nat_list_cmp_total}
use Rattle.std.proofs.lemmas.List.Elements.{All-nil}
use Rattle.std.proofs.lemmas.List.Folds.{list_any-from_Any}
use Rattle.terms.proofs.TextOrder.{same_from, same_itself}
use Rattle.terms.specs.Types.{Id, Entry}
use Rattle.terms.specs.Rising.{Rises}
use Rattle.terms.specs.Lookups.{has_content, waives_applied}
use Rattle.terms.specs.Install.{Installation}
use Rattle.change.specs.Entries.{if_held}
use Rattle.machine_laws.proofs.Effective.{IsSoundInstall}
use Rattle.machine_laws.proofs.Wanted.{with_wanted, with_wanted_rises, with_wanted_all, found_wanted}
use Rattle.machine_laws.proofs.EntryAfter.{made, waives}
use Rattle.machine_laws.proofs.HeldEntries.{concerned, held_concerned}

module _ (i : Installation) (sound : IsSoundInstall i) where
  wanted : Id → Option Entry
  wanted x = if_held (made i sound x)

  pub entries : List Entry
  entries = with_wanted nat_list_cmp_total (λ e. e.id) wanted (concerned i sound) []

  -- what all entries have
  each : (P : Entry → Type 0) → ((x : Id) → has_content (made i sound x) ≡ true → P (made i sound x)) → All P entries
  unfolding entries wanted
  each P has =
      with_wanted_all nat_list_cmp_total (λ (e : Entry). e.id) wanted P (λ x. by x (has_content (made i sound x)) refl)
      (concerned i sound) [] (All-nil P)
    where
      by : (x : Id) (b : Bool) → has_content (made i sound x) ≡ b → IfSome (if b then Some (made i sound x) else None) P
      by x true held = has x held
      by x false unheld = tt

  pub entries_rise : Rises (slice_cmp nat_cmp) (λ e. e.id) entries
  unfolding entries
  entries_rise = with_wanted_rises nat_list_cmp_total (λ (e : Entry). e.id) wanted (concerned i sound) []
      (λ j k d before below. absurd (omega (arith, below)))

  pub entries_held : All (λ e. IsTrue (has_content e)) entries
  entries_held = each (λ e. IsTrue (has_content e)) (λ x held. held)

  pub entries_waive : All (λ e. IsTrue (waives_applied e)) entries
  entries_waive = each (λ e. IsTrue (waives_applied e)) (λ x held. waives i sound x)

  pub entry_found : (x : Id) → find (λ e. bytes_eq e.id x) entries ≡ if_held (made i sound x)
  unfolding entries wanted made
  entry_found x =
      found_wanted nat_list_cmp_total (λ (e : Entry). e.id) wanted bytes_eq texts_ties same_from keyed
      (concerned i sound) [] x
      ∙ by (list_any (λ k. bytes_eq k x) (concerned i sound)) refl
    where
      keyed : (k : Id) → IfSome (wanted k) (λ e. e.id ≡ k)
      keyed k = of (has_content (made i sound k))
        where
          of : (b : Bool) → IfSome (if b then Some (made i sound k) else None) (λ e. e.id ≡ k)
          of true = refl
          of false = tt

      by : (b : Bool) → list_any (λ k. bytes_eq k x) (concerned i sound) ≡ b
          → (if b then wanted x else None) ≡ if_held (made i sound x)
      by true there = refl
      by false out = unheld (has_content (made i sound x)) refl
        where
          unheld : (b : Bool) → has_content (made i sound x) ≡ b → None ≡ (if b then Some (made i sound x) else None)
          unheld true held =
              let at = held_concerned i sound x held in
              absurd (true≢false (sym (list_any-from_Any (λ k. bytes_eq k x) (concerned i sound)
              (at.0, x, at.1, at.2, same_itself x)) ∙ out))
          unheld false none = refl
