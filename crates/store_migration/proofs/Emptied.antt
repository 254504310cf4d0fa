-- The rows of SYSMODs, as one after the other loses its sources.
use Rattle.std.proofs.Common.{◌≡◌, List, [], ◌∷◌, map, false, if◌then◌else◌, refl, ap, ◌∙◌}
use Rattle.std.specs.Prelude.{All, IsTrue}
use Rattle.std.specs.Ordering.{is_lt, nat_cmp}
use Rattle.std.specs.Cmp.Lexicographic.{slice_cmp}
use Rattle.std.specs.Str.{bytes_eq}
use Rattle.std.proofs.lemmas.List.Elements.{All-head, All-tail}
use Rattle.sqlite.specs.declared.types.Value.TheVariants.{Text}
use Rattle.sqlite.specs.Order.{Row}
use Rattle.terms.specs.Types.{Id, Sysmod}
use Rattle.terms.specs.Spelling.{kind_text}
use Rattle.terms.specs.Rising.{Rises}
use Rattle.terms.proofs.Orderings.{Less_from_is_lt}
use Rattle.terms.proofs.Pairs.{AllPairs_first, AllPairs_rest}
use Rattle.terms.proofs.TextOrder.{same_itself, same_back, other_from_less}
use Rattle.store_rows.specs.Rows.{has_key, in_place}
use Rattle.store_rows.proofs.Keys.{equals, and_true}
use Rattle.store_schema.specs.Earlier.{first_sysmod_row}
use Rattle.store_schema.specs.Rows.{joined, sysmod_row}
use Rattle.store_migration.specs.Moved.{head_of, bare_row}
use Rattle.store_migration.specs.declared.head.Head.{Head}

-- whatever its other cells are
pub begins : (x y : Id) (cells : Row) → has_key (Text x ∷ []) (Text y ∷ cells) ≡ bytes_eq y x
begins x y cells = and_true _ ∙ equals y x

-- the rows, where those of these SYSMODs have lost their sources
abbrev pub emptied : List Head → List Row → List Row
emptied [] rows = rows
emptied (h ∷ heads) rows = emptied heads (in_place (Text h.id ∷ []) (bare_row h) rows)

other_stays : (h : Head) (y : Id) (cells : Row) (rows : List Row) → bytes_eq y h.id ≡ false
    → in_place (Text h.id ∷ []) (bare_row h) ((Text y ∷ cells) ∷ rows)
    ≡ (Text y ∷ cells) ∷ in_place (Text h.id ∷ []) (bare_row h) rows
other_stays h y cells rows apart =
    ap (λ b. (if b then bare_row h else Text y ∷ cells) ∷ in_place (Text h.id ∷ []) (bare_row h) rows)
    (begins h.id y cells ∙ apart)

own_goes : (h : Head) (cells : Row) (rows : List Row)
    → in_place (Text h.id ∷ []) (bare_row h) ((Text h.id ∷ cells) ∷ rows)
    ≡ bare_row h ∷ in_place (Text h.id ∷ []) (bare_row h) rows
own_goes h cells rows =
    ap (λ b. (if b then bare_row h else Text h.id ∷ cells) ∷ in_place (Text h.id ∷ []) (bare_row h) rows)
    (begins h.id h.id cells ∙ same_itself h.id)

abbrev IsBelow : Id → Id → Type 0
IsBelow x y = IsTrue (is_lt (slice_cmp nat_cmp x y))

apart : (x y : Id) → IsBelow x y → bytes_eq x y ≡ false
apart x y below = other_from_less x y (Less_from_is_lt (slice_cmp nat_cmp x y) below)

-- the row of a SYSMOD that is none of these
stays : (ss : List Sysmod) (y : Id) (cells : Row) (rows : List Row) → All (λ s. IsBelow y s.id) ss
    → emptied (map head_of ss) ((Text y ∷ cells) ∷ rows) ≡ (Text y ∷ cells) ∷ emptied (map head_of ss) rows
stays [] y cells rows below = refl
stays (s ∷ ss) y cells rows below =
    ap (emptied (map head_of ss)) (other_stays (head_of s) y cells rows
    (apart y s.id (All-head (λ r. IsBelow y r.id) s ss below)))
    ∙ stays ss y cells (in_place (Text s.id ∷ []) (bare_row (head_of s)) rows)
    (All-tail (λ r. IsBelow y r.id) s ss below)

none_placed : (h : Head) (ss : List Sysmod) → All (λ s. IsBelow h.id s.id) ss
    → in_place (Text h.id ∷ []) (bare_row h) (map first_sysmod_row ss) ≡ map first_sysmod_row ss
none_placed h [] below = refl
none_placed h (s ∷ ss) below =
    other_stays h s.id (Text (kind_text s.kind) ∷ joined s.sources ∷ []) (map first_sysmod_row ss)
    (same_back s.id h.id ∙ apart h.id s.id (All-head (λ r. IsBelow h.id r.id) s ss below))
    ∙ ap (λ rows. first_sysmod_row s ∷ rows) (none_placed h ss (All-tail (λ r. IsBelow h.id r.id) s ss below))

-- all lose theirs
pub all_emptied : (ss : List Sysmod) → Rises (slice_cmp nat_cmp) (λ s. s.id) ss
    → emptied (map head_of ss) (map first_sysmod_row ss) ≡ map sysmod_row ss
all_emptied [] rises = refl
all_emptied (s ∷ ss) rises =
    let h = head_of s in
    let below = AllPairs_first (λ (a b : Sysmod). IsBelow a.id b.id) s ss rises in
    ap (emptied (map head_of ss)) (own_goes h (Text (kind_text s.kind) ∷ joined s.sources ∷ [])
    (map first_sysmod_row ss)
    ∙ ap (λ rows. bare_row h ∷ rows) (none_placed h ss below))
    ∙ (stays ss s.id (Text (kind_text s.kind) ∷ joined [] ∷ []) (map first_sysmod_row ss) below
    ∙ ap (λ rows. sysmod_row s ∷ rows) (all_emptied ss (AllPairs_rest (λ (a b : Sysmod). IsBelow a.id b.id) s ss
    rises)))
