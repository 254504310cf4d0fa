-- Heads and their sources, one by one and as a whole.
use Rattle.std.proofs.Common.{◌≡◌, ◌≢◌, List, [], ◌∷◌, ◌++◌, map, IsTrue, refl, sym, ap, ap₂, subst, ◌∙◌}
use Rattle.std.specs.List.{AllByRecursion}
use Rattle.std.proofs.lemmas.List.Elements.{All-from_recursion}
use Rattle.sqlite.specs.Tree.{IsAscending}
use Rattle.terms.proofs.Each.{recursion_front, recursion_back, recursion_weaker}
use Rattle.terms.specs.Types.{Text, Id}
use Rattle.terms.specs.Forms.{IsId, IsSource}
use Rattle.terms.specs.Lookups.{is_before}
use Rattle.store_schema.proofs.Spelled.{not_before_same}
use Rattle.store_sysmods.specs.declared.head.HeadRow.{HeadRow}
use Rattle.store_sysmods.specs.declared.head.BareHead.{BareHead}
use Rattle.store_sysmods.specs.declared.source.SourceRow.{SourceRow}
use Rattle.store_sysmods.specs.Heads.{HasBareForms, HasHeadForms}
use Rattle.store_sysmods.specs.Sources.{HasSourceForms}
use Rattle.store_sysmod_loads.specs.Runs.{parent_of_source, source_rows, HasSources}
use Rattle.store_sysmod_loads.specs.Joined.{bare_of, all_sources, AreJoined}
use Rattle.store_sysmod_loads.proofs.FlatLemmas.{recursion_flat, stands_apart, other_by}

-- ---- one by one

pub joined_step : (b : BareHead) (new : List BareHead) (sources : List SourceRow) (heads : List HeadRow)
    → AreJoined (b ∷ new) sources heads
    → (h : HeadRow) × (left : List HeadRow) × (rest : List SourceRow) × (heads ≡ h ∷ left) × (b ≡ bare_of h)
    × HasSources b.id sources h.sources rest × AreJoined new rest left
joined_step b new sources [] h = absurd h
joined_step b new sources (x ∷ left) h = (x, left, h.0, refl, h.1, h.2, h.3)

-- the head that the parts are of
pub whole_head : (b : BareHead) (h : HeadRow) (names : List Text) → b ≡ bare_of h → h.sources ≡ names
    → h ≡ record { id = b.id; kind = b.kind; sources = names }
whole_head b h names bare same =
    ap (λ x. record h { sources = x }) same
    ∙ ap (λ (x : BareHead). record { id = x.id; kind = x.kind; sources = names }) (sym bare)

pub joined_end : (sources : List SourceRow) (heads : List HeadRow) → AreJoined [] sources heads
    → (heads ≡ []) × (sources ≡ [])
joined_end sources [] h = (refl, h)
joined_end sources (x ∷ heads) h = absurd h

pub joined_as : (heads : List HeadRow) (bare b : List BareHead) (sources s : List SourceRow) → bare ≡ b → sources ≡ s
    → AreJoined b s heads → AreJoined bare sources heads
joined_as heads bare b sources s p q h = subst (λ x. AreJoined x sources heads) (sym p)
    (subst (λ x. AreJoined b x heads) (sym q) h)

-- ---- what was joined is all

pub joined_flat : (bare : List BareHead) (sources : List SourceRow) (heads : List HeadRow)
    → AreJoined bare sources heads → (bare ≡ map bare_of heads) × (sources ≡ all_sources heads)
joined_flat [] sources [] h = (refl, h)
joined_flat [] sources (x ∷ heads) h = absurd h
joined_flat (b ∷ bare) sources [] h = absurd h
joined_flat (b ∷ bare) sources (x ∷ heads) h =
    let rest = joined_flat bare h.0 heads h.3 in (
      ap₂ ◌∷◌ h.1 rest.0,
      h.2.0 ∙ ap₂ (λ (y : Id) (more : List SourceRow). source_rows y x.sources ++ more)
          (ap (λ (h : BareHead). h.id) h.1) rest.1,
    )

names_formed : (x : Id) (names : List Text) → AllByRecursion HasSourceForms (source_rows x names)
    → AllByRecursion IsSource names
names_formed x [] h = tt
names_formed x (n ∷ names) h = (h.0.1, names_formed x names h.1)

pub joined_formed : (bare : List BareHead) (sources : List SourceRow) (heads : List HeadRow)
    → AreJoined bare sources heads → AllByRecursion HasBareForms bare → AllByRecursion HasSourceForms sources
    → AllByRecursion HasHeadForms heads
joined_formed [] sources [] h p q = tt
joined_formed [] sources (x ∷ heads) h p q = absurd h
joined_formed (b ∷ bare) sources [] h p q = absurd h
joined_formed (b ∷ bare) sources (x ∷ heads) h p q =
    let all = subst (AllByRecursion HasSourceForms) h.2.0 q in
    let own = recursion_front HasSourceForms (source_rows b.id x.sources) h.0 all in
    let later = recursion_back HasSourceForms (source_rows b.id x.sources) h.0 all in (
      (
        subst IsId (ap (λ (h : BareHead). h.id) h.1) p.0,
        record {
          each = All-from_recursion IsSource x.sources (names_formed b.id x.sources own);
          rising = h.2.2;
        },
      ),
      joined_formed bare h.0 heads h.3 p.1 later,
    )

-- ---- all is joined

pub source_parents : (x : Id) (names : List Text) → AllByRecursion (λ r. parent_of_source r ≡ x) (source_rows x names)
source_parents x [] = tt
source_parents x (n ∷ names) = (refl, source_parents x names)

abbrev pub BelowHead : HeadRow → HeadRow → Type 0
BelowHead a b = IsTrue (is_before a.id b.id)

pub flat_joined : (heads : List HeadRow) → IsAscending BelowHead heads → AllByRecursion HasHeadForms heads
    → AreJoined (map bare_of heads) (all_sources heads) heads
flat_joined [] up forms = refl
flat_joined (h ∷ heads) up forms =
    let others : AllByRecursion (λ (t : HeadRow). t.id ≢ h.id) heads =
    recursion_weaker (BelowHead h) (λ t. t.id ≢ h.id) (λ t low same. not_before_same h.id t.id (sym same) low) heads
    up.0 in
    let of_others = recursion_flat (λ (t : HeadRow). source_rows t.id t.sources) (λ t. t.id ≢ h.id)
    (λ r. parent_of_source r ≢ h.id)
    (λ t other. recursion_weaker (λ r. parent_of_source r ≡ t.id) (λ r. parent_of_source r ≢ h.id)
    (λ r e. other_by h.id r.id t.id e other) _ (source_parents t.id t.sources)) heads others in (
      all_sources heads,
      refl,
      (refl, stands_apart parent_of_source h.id (all_sources heads) of_others, forms.0.1.rising),
      flat_joined heads up.1 forms.1,
    )

-- ---- the forms of what is joined

pub bare_formed : (heads : List HeadRow) → AllByRecursion HasHeadForms heads
    → AllByRecursion HasBareForms (map bare_of heads)
bare_formed [] h = tt
bare_formed (x ∷ heads) h = (h.0.0, bare_formed heads h.1)

list_formed : (x : Id) (names : List Text) → IsId x → AllByRecursion IsSource names
    → AllByRecursion HasSourceForms (source_rows x names)
list_formed x [] id h = tt
list_formed x (n ∷ names) id h = ((id, h.0), list_formed x names id h.1)

pub sources_formed : (heads : List HeadRow) → AllByRecursion HasHeadForms heads
    → AllByRecursion HasSourceForms (all_sources heads)
sources_formed heads h = recursion_flat (λ (t : HeadRow). source_rows t.id t.sources) HasHeadForms HasSourceForms
    (λ t f. list_formed t.id t.sources f.0
    (Rattle.std.proofs.lemmas.List.Elements.recursion_from_All IsSource t.sources f.1.each)) heads h
