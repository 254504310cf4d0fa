-- An edit of sources that a later one replaces.
use Rattle.std.proofs.Common.{◌≡◌, ◌∙◌, zero, Bool, true, false, List, [], ◌∷◌, ◌++◌, map, filter, find, not, reverse, refl, sym}
use Rattle.std.proofs.Common.{ap, subst, All, Contains, Option, None, Some, inl, inr, is_some, if◌then◌else◌, append_assoc}
use Rattle.std.proofs.Common.{◌⊎◌, true≢false, arith}
use Rattle.std.proofs.lemmas.List.{map-append, reverse-append}
use Rattle.std.proofs.lemmas.List.Elements.{All-contains, All-map, All-weaker}
use Rattle.std.proofs.lemmas.Map.Text.{is_eq-slice_cmp}
use Rattle.std.proofs.lemmas.Map.Views.{All-insert_key, Contains-from_any}
use Rattle.std.specs.Bool.{OnFalse}
use Rattle.std.specs.BTreeSet.{insert_key}
use Rattle.std.specs.List.{list_any}
use Rattle.std.specs.Option.{option_map}
use Rattle.std.specs.Ordering.{is_eq, is_lt, nat_cmp}
use Rattle.std.specs.Cmp.Lexicographic.{slice_cmp}
use Rattle.std.specs.Str.{bytes_eq}
use Rattle.terms.specs.Types.{Text, Id, Sysmod, Global, a_global}
use Rattle.terms.specs.Rising.{before, behind, with_item}
use Rattle.terms.specs.Lookups.{sysmod_of, is_received}
use Rattle.terms.specs.Global.{without_hold}
use Rattle.terms.proofs.Each.{All_from_each, All_skip, All_unmap}
use Rattle.terms.proofs.Searches.{find_map}
use Rattle.terms.proofs.TextOrder.{same_from}
use Rattle.sysmods_values.specs.Edited.{with_sources}
use Rattle.sysmods.specs.declared.edit.GlobalEdit.{GlobalEdit}
use Rattle.sysmods.specs.declared.edit.GlobalEdit.TheVariants.{PutHold, RemoveHold, InsertSysmod, ReplaceSources}
use Rattle.sysmods.specs.declared.edit.GlobalEdit.TheVariants.{RemoveSysmod}
use Rattle.sysmods.specs.Edits.{with_hold, Fits, after_edit, after_edits, EachFits, IsOfReceive, HasWrittenForm}
use Rattle.smpe_global.specs.LastEdits.{Replaces, HasLater, IsLast, MakesSame}
use Rattle.smpe_global.proofs.Fitting.{fits_first, fits_rest}

-- two functions, one after the other
joined : {X : Type 0} (f h k : X → X) → ((x : X) → f (h x) ≡ k x) → (xs : List X) → map f (map h xs) ≡ map k xs
joined f h k same [] = refl
joined f h k same (x ∷ xs) = ap (λ y. y ∷ map f (map h xs)) (same x) ∙ ap (λ ys. k x ∷ ys) (joined f h k same xs)

mapped_found : {X : Type 0} (f : X → X) (o : Option X) → is_some (option_map f o) ≡ is_some o
mapped_found f None = refl
mapped_found f (Some x) = refl

-- what a ReplaceSources makes of a SYSMOD
abbrev given : Id → List Text → Sysmod → Sysmod
given x sources s = if bytes_eq s.id x then record s { sources = sources } else s

-- All else stays.
given_same : {Y : Type 0} (f : Sysmod → Y)
    → ((s : Sysmod) (sources : List Text) → f (record s { sources = sources }) ≡ f s)
    → (x : Id) (sources : List Text) (s : Sysmod) → f (given x sources s) ≡ f s
given_same f same x sources s = by (bytes_eq s.id x) refl
  where
    by : (b : Bool) → bytes_eq s.id x ≡ b → f (given x sources s) ≡ f s
    by true e = rw e (same s sources)
    by false e = rw e refl

given_id : (x : Id) (sources : List Text) (s : Sysmod) → (given x sources s).id ≡ s.id
given_id = given_same (λ s. s.id) (λ s sources. refl)

-- the second of two alone
given_again : (x : Id) (first second : List Text) (s : Sysmod) → given x second (given x first s) ≡ given x second s
given_again x first second s = by (bytes_eq s.id x) refl
  where
    by : (b : Bool) → bytes_eq s.id x ≡ b → given x second (given x first s) ≡ given x second s
    by true e = rw e (rw e refl)
    by false e = rw e (rw e refl)

module _ (x : Id) where
  -- the SYSMOD, without its sources if it is this one
  abbrev bare : Sysmod → Sysmod
  bare s = given x [] s

  -- They are the same but for the sources of one SYSMOD.
  record Alike (g h : Global) : Type 0 where
    sysmods : map bare g.sysmods ≡ map bare h.sysmods
    holds : g.holds ≡ h.holds

  -- what does not see these sources
  blind : {g h : Global} (f : Sysmod → Sysmod) → ((s : Sysmod) → f (bare s) ≡ f s) → Alike g h
      → map f g.sysmods ≡ map f h.sysmods
  blind {g = g} {h = h} f same alike =
      sym (joined f bare f same g.sysmods) ∙ ap (map f) alike.sysmods ∙ joined f bare f same h.sysmods

  -- the edit of these sources
  replaced : (g : Global) (sources : List Text) → Alike (with_sources x sources g) g
  replaced g sources = record {
    sysmods = joined bare (given x sources) bare (given_again x sources []) g.sysmods;
    holds = refl;
  }

  given_alike : (g h : Global) (sources : List Text) → Alike g h → with_sources x sources g ≡ with_sources x sources h
  given_alike g h sources alike =
      ap (λ ss. a_global ss g.holds) (blind (given x sources) (given_again x [] sources) alike)
      ∙ ap (a_global (map (given x sources) h.sysmods)) alike.holds

  given_bare : (y : Id) (sources : List Text) (s : Sysmod) → bare (given y sources (bare s)) ≡ bare (given y sources s)
  given_bare y sources s = by (bytes_eq s.id x) refl (bytes_eq s.id y) refl
    where
      by : (b : Bool) → bytes_eq s.id x ≡ b → (d : Bool) → bytes_eq s.id y ≡ d
          → bare (given y sources (bare s)) ≡ bare (given y sources s)
      by true e true f = rw e (rw f (rw e refl))
      by true e false f = rw e (rw f (rw e refl))
      by false e true f = rw e (rw f (rw e refl))
      by false e false f = rw e (rw f (rw e refl))

  -- a test of ids
  filtered : (p : Sysmod → Bool) → ((s : Sysmod) → p (bare s) ≡ p s) → (ss : List Sysmod)
      → map bare (filter p ss) ≡ filter p (map bare ss)
  filtered p same [] = refl
  filtered p same (s ∷ ss) = by (filtered p same ss) (p s) refl
    where
      by : map bare (filter p ss) ≡ filter p (map bare ss) → (b : Bool) → p s ≡ b
          → map bare (filter p (s ∷ ss)) ≡ filter p (map bare (s ∷ ss))
      by again true e = rw (same s, e) (ap (λ rs. bare s ∷ rs) again)
      by again false e = rw (same s, e) again

  inserted : (r : Sysmod) (ss : List Sysmod) → map bare (with_item (slice_cmp nat_cmp) (λ (s : Sysmod). s.id) ss r)
      ≡ before (slice_cmp nat_cmp) (λ (s : Sysmod). s.id) r.id (map bare ss) ++ bare r ∷ []
      ++ behind (slice_cmp nat_cmp) (λ (s : Sysmod). s.id) r.id (map bare ss)
  inserted r ss =
      let low = λ (s : Sysmod). is_lt (slice_cmp nat_cmp s.id r.id) in
      let high = λ (s : Sysmod). is_lt (slice_cmp nat_cmp r.id s.id) in
      map-append bare (filter low ss ++ r ∷ []) (filter high ss)
      ∙ ap (λ rs. rs ++ map bare (filter high ss)) (map-append bare (filter low ss) (r ∷ []))
      ∙ ap (λ rs. rs ++ bare r ∷ [] ++ map bare (filter high ss))
      (filtered low (λ s. ap (λ y. is_lt (slice_cmp nat_cmp y r.id)) (given_id x [] s)) ss)
      ∙ ap (λ rs. filter low (map bare ss) ++ bare r ∷ [] ++ rs)
      (filtered high (λ s. ap (λ y. is_lt (slice_cmp nat_cmp r.id y)) (given_id x [] s)) ss)

  module _ (stated g h : Global) (alike : Alike g h) where
    -- Each edit keeps them so,
    after_alike : (e : GlobalEdit) → Alike (after_edit stated g e) (after_edit stated h e)
    after_alike (PutHold hold) = record {
      sysmods = alike.sysmods;
      holds = ap (λ hs. (with_hold hold (a_global [] hs)).holds) alike.holds;
    }
    after_alike (RemoveHold y kind reason) = record {
      sysmods = alike.sysmods;
      holds = ap (λ hs. (without_hold y kind reason (a_global [] hs)).holds) alike.holds;
    }
    after_alike (InsertSysmod y sources) = by (sysmod_of stated y) refl
      where
        by : (o : Option Sysmod) → sysmod_of stated y ≡ o
            → Alike (after_edit stated g (InsertSysmod y sources)) (after_edit stated h (InsertSysmod y sources))
        by None e = rw e alike
        by (Some s) e = rw e (
            let r : Sysmod = record s { sources = sources.items; holds = [] } in
            record {
              sysmods = inserted r g.sysmods
                  ∙ ap (λ ss. before (slice_cmp nat_cmp) (λ (s : Sysmod). s.id) r.id ss ++ bare r ∷ []
                  ++ behind (slice_cmp nat_cmp) (λ (s : Sysmod). s.id) r.id ss) alike.sysmods
                  ∙ sym (inserted r h.sysmods);
              holds = alike.holds;
            })
    after_alike (ReplaceSources s) =
        let both = λ (r : Sysmod). bare (given s.id s.sources r) in
        record {
          sysmods = joined bare (given s.id s.sources) both (λ r. refl) g.sysmods
              ∙ blind both (given_bare s.id s.sources) alike
              ∙ sym (joined bare (given s.id s.sources) both (λ r. refl) h.sysmods);
          holds = alike.holds;
        }
    after_alike (RemoveSysmod y) =
        let stays = λ (s : Sysmod). not (bytes_eq s.id y) in
        let same : (s : Sysmod) → stays (bare s) ≡ stays s = λ s. ap (λ z. not (bytes_eq z y)) (given_id x [] s) in
        record {
          sysmods = filtered stays same g.sysmods ∙ ap (filter stays) alike.sysmods
              ∙ sym (filtered stays same h.sysmods);
          holds = alike.holds;
        }

    -- and fits the one as it does the other.
    received_alike : (y : Id) → is_received g y ≡ is_received h y
    received_alike y =
        sym (looked g.sysmods) ∙ ap (λ ss. is_some (find p ss)) alike.sysmods ∙ looked h.sysmods
      where
        p : Sysmod → Bool
        p s = bytes_eq s.id y

        looked : (ss : List Sysmod) → is_some (find p (map bare ss)) ≡ is_some (find p ss)
        looked ss = ap is_some (find_map p bare (λ s. ap (λ z. bytes_eq z y) (given_id x [] s)) ss)
            ∙ mapped_found bare (find p ss)

    fits_alike : (e : GlobalEdit) → Fits g e → Fits h e
    fits_alike (PutHold hold) fits = tt
    fits_alike (RemoveHold y kind reason) fits = tt
    fits_alike (InsertSysmod y sources) fits = (sym (received_alike y) ∙ fits.0, fits.1)
    fits_alike (ReplaceSources s) fits = (
      sym (received_alike s.id) ∙ fits.0,
      All-weaker (λ r. P (bare r)) P back h.sysmods (All_unmap P bare h.sysmods (subst (All P) alike.sysmods
          (All-map P bare g.sysmods (All-weaker P (λ r. P (bare r)) forth g.sysmods fits.1)))),
      fits.2,
    )
      where
        P : Sysmod → Type 0
        P r = r.id ≡ s.id → r.kind ≡ s.kind

        kind : (r : Sysmod) → (bare r).kind ≡ r.kind
        kind = given_same (λ r. r.kind) (λ r sources. refl) x []

        forth : (r : Sysmod) → P r → P (bare r)
        forth r p same = kind r ∙ p (sym (given_id x [] r) ∙ same)

        back : (r : Sysmod) → P (bare r) → P r
        back r p same = sym (kind r) ∙ p (given_id x [] r ∙ same)
    fits_alike (RemoveSysmod y) fits = tt

  -- An edit of these sources makes them the same.
  same_after : (stated g h : Global) (e : GlobalEdit) → Replaces x e → Alike g h
      → after_edit stated g e ≡ after_edit stated h e
  same_after stated g h (ReplaceSources s) same alike =
      ap (λ y. with_sources y s.sources g) same ∙ given_alike g h s.sources alike
      ∙ ap (λ y. with_sources y s.sources h) (sym same)
  same_after stated g h (PutHold hold) none alike = absurd none
  same_after stated g h (RemoveHold y kind reason) none alike = absurd none
  same_after stated g h (InsertSysmod y sources) none alike = absurd none
  same_after stated g h (RemoveSysmod y) none alike = absurd none

  replaced_by : (stated g : Global) (e : GlobalEdit) → Replaces x e → Alike (after_edit stated g e) g
  replaced_by stated g (ReplaceSources s) same =
      subst (λ y. Alike (with_sources y s.sources g) g) (sym same) (replaced g s.sources)
  replaced_by stated g (PutHold hold) none = absurd none
  replaced_by stated g (RemoveHold y kind reason) none = absurd none
  replaced_by stated g (InsertSysmod y sources) none = absurd none
  replaced_by stated g (RemoveSysmod y) none = absurd none

  -- So edits that have one of these sources make the same of both.
  agree : (stated g h : Global) (edits : List GlobalEdit) → Alike g h → HasLater edits x
      → (EachFits stated edits g → EachFits stated edits h) × (after_edits stated edits g ≡ after_edits stated edits h)
  agree stated g h [] alike none = absurd none
  agree stated g h (e ∷ edits) alike has =
      by (agree stated (after_edit stated g e) (after_edit stated h e) edits (after_alike stated g h alike e)) has
    where
      Agree : List GlobalEdit → Global → Global → Type 0
      Agree es a b = (EachFits stated es a → EachFits stated es b) × (after_edits stated es a ≡ after_edits stated es b)

      first : EachFits stated (e ∷ edits) g → Fits h e
      first fits = fits_alike stated g h alike e (fits zero e (omega arith) refl)

      by : (HasLater edits x → Agree edits (after_edit stated g e) (after_edit stated h e)) → HasLater (e ∷ edits) x
          → Agree (e ∷ edits) g h
      by rest (inl here) =
          let same = same_after stated g h e here alike in (
            λ fits. fits_first stated h e edits (first fits)
                (subst (EachFits stated edits) same (fits_rest stated g e edits fits)),
            ap (after_edits stated edits) same,
          )
      by rest (inr later) = (
        λ fits. fits_first stated h e edits (first fits) ((rest later).0 (fits_rest stated g e edits fits)),
        (rest later).1,
      )

  -- An edit of these sources before such edits is not needed.
  module _ (stated : Global) (e : GlobalEdit) (back : List GlobalEdit) (here : Replaces x e)
      (later : HasLater back x) where
    fits_without : (g : Global) (front : List GlobalEdit) → EachFits stated (front ++ e ∷ back) g
        → EachFits stated (front ++ back) g
    fits_without g [] fits = (agree stated (after_edit stated g e) g back (replaced_by stated g e here) later).0
        (fits_rest stated g e back fits)
    fits_without g (f ∷ front) fits = fits_first stated g f (front ++ back) (fits zero f (omega arith) refl)
        (fits_without (after_edit stated g f) front (fits_rest stated g f (front ++ e ∷ back) fits))

    after_without : (g : Global) (front : List GlobalEdit)
        → after_edits stated (front ++ back) g ≡ after_edits stated (front ++ e ∷ back) g
    after_without g [] = sym (agree stated (after_edit stated g e) g back (replaced_by stated g e here) later).1
    after_without g (f ∷ front) = after_without (after_edit stated g f) front

without : (edits : List GlobalEdit) (front : List GlobalEdit) (e : GlobalEdit) (back : List GlobalEdit) (x : Id)
    → Replaces x e → HasLater back x → MakesSame edits (front ++ e ∷ back) → MakesSame edits (front ++ back)
without edits front e back x here later so_far = record {
  receives = λ all. All_skip IsOfReceive front back e (so_far.receives all);
  written = λ all. All_skip HasWrittenForm front back e (so_far.written all);
  fits = λ stated g fits. fits_without x stated e back here later g front (so_far.fits stated g fits);
  after = λ stated g. after_without x stated e back here later g front ∙ so_far.after stated g;
}

-- An edit that the set does not have yet is the last, and then the set has it.
pub is_last_inserted : (e : GlobalEdit) (x : Id) (later new : List Id) (added : Bool) → Replaces x e
    → added ≡ not (list_any (λ y. is_eq (slice_cmp nat_cmp x y)) later)
    → new ≡ insert_key (slice_cmp nat_cmp) later x → OnFalse added (new ≡ later)
    → IsLast e later new added
is_last_inserted e x later new true here added grown same =
    let P : Id → Type 0 = λ y. Replaces y e ⊎ Contains later y in
    subst (All P) (sym grown) (All-insert_key (slice_cmp nat_cmp) x P later
    (All_from_each P later (λ y there. inr there)) (inl here))
is_last_inserted e x later new false here added grown same = (same, (x, here, there))
  where
    compared : Id → Id → Bool
    compared a b = is_eq (slice_cmp nat_cmp a b)

    met : (b : Bool) → false ≡ not b → b ≡ true
    met true is = refl
    met false is = absurd (true≢false (sym is))

    there : Contains later x
    there = Contains-from_any {eq = compared} (λ a b tied. same_from a b (sym (is_eq-slice_cmp a b) ∙ tied)) x later
        (met (list_any (compared x) later) added)

-- The edits before an edit, and the last ones of those after it in reverse: it is one more of these,
pub kept : (edits front back new : List GlobalEdit) (e : GlobalEdit) (later now : List Id)
    → IsLast e later now true → new ≡ back ++ e ∷ []
    → MakesSame edits ((front ++ e ∷ []) ++ reverse back) × All (HasLater (reverse back)) later
    → MakesSame edits (front ++ reverse new) × All (HasLater (reverse new)) now
kept edits front back new e later now last grown so_far =
    subst (λ es. MakesSame edits (front ++ es) × All (HasLater es) now)
    (sym (ap reverse grown ∙ reverse-append back (e ∷ []))) (
      subst (MakesSame edits) (append_assoc front (e ∷ []) (reverse back)) so_far.0,
      All-weaker (λ x. Replaces x e ⊎ Contains later x) (HasLater (e ∷ reverse back)) either now last,
    )
  where
    either : (x : Id) → Replaces x e ⊎ Contains later x → HasLater (e ∷ reverse back) x
    either x (inl here) = inl here
    either x (inr there) = inr (All-contains (HasLater (reverse back)) later x so_far.1 there)

-- or is left out.
pub left_out : (edits front back : List GlobalEdit) (e : GlobalEdit) (later now : List Id) → IsLast e later now false
    → MakesSame edits ((front ++ e ∷ []) ++ reverse back) × All (HasLater (reverse back)) later
    → MakesSame edits (front ++ reverse back) × All (HasLater (reverse back)) now
left_out edits front back e later now last so_far = (
  without edits front e (reverse back) last.1.0 last.1.1
      (All-contains (HasLater (reverse back)) later last.1.0 so_far.1 last.1.2)
      (subst (MakesSame edits) (append_assoc front (e ∷ []) (reverse back)) so_far.0),
  subst (All (HasLater (reverse back))) (sym last.0) so_far.1,
)
