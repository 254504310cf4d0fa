-- Which rows at the front of the tables, ordered by their keys, are those of a SYSMOD.
use Rattle.std.specs.Prelude.{◌≡◌, ℕ, ◌+◌, List, [], ◌∷◌, ◌++◌, map}
use Rattle.std.specs.List.{AllByRecursion}
use Rattle.terms.specs.Types.{Text, Id, IfReq, Ver, Change}
use Rattle.terms.specs.Lookups.{IsRising}
use Rattle.store_schema.specs.Rows.{numbered_behind}
use Rattle.store_sysmods.specs.declared.source.SourceRow.{SourceRow}
use Rattle.store_sysmods.specs.declared.ver.VerRow.{VerRow}
use Rattle.store_sysmods.specs.declared.ifreq.IfRow.{IfRow}
use Rattle.store_sysmods.specs.declared.elem.ElemRow.{ElemRow}

-- whether a row of the parent comes first
abbrev pub Begins : {X K : Type 0} → (X → K) → K → List X → Type 0
Begins parent k [] = ⊥
Begins parent k (x ∷ xs) = parent x ≡ k

abbrev pub StandsApart : {X K : Type 0} → (X → K) → K → List X → Type 0
StandsApart parent k xs = ¬ Begins parent k xs

-- the parents of rows
abbrev pub parent_of_source : SourceRow → Id
parent_of_source r = r.id

abbrev pub parent_of_ver : VerRow → Id
parent_of_ver r = r.id

abbrev pub parent_of_if : IfRow → Id × Text × ℕ
parent_of_if r = (r.id, r.srel, r.place)

abbrev pub parent_of_elem : ElemRow → Id
parent_of_elem r = r.id

-- the rows of sources
abbrev pub source_rows : Id → List Text → List SourceRow
source_rows x names = map (λ name. record { id = x; name = name }) names

-- the rows of the ++IFs of the ++VER of the place, whose numbers begin with n
abbrev pub if_rows : Id → Text → ℕ → ℕ → List IfReq → List IfRow
if_rows x srel place n [] = []
if_rows x srel place n (i ∷ ifs) =
    record { id = x; srel = srel; place = place; number = n; ifreq = i } ∷ if_rows x srel place (n + 1) ifs

-- the ++IFs of these ++VERs are elsewhere
abbrev pub AreBare : List VerRow → Type 0
AreBare rows = AllByRecursion (λ r. r.ver.ifs ≡ []) rows

-- the rows of ++VERs with their numbers, without their ++IFs
abbrev pub ver_rows : Id → List (ℕ × Ver) → List VerRow
ver_rows x vers = map (λ (v : ℕ × Ver). record { id = x; number = v.0; ver = record v.1 { ifs = [] } }) vers

abbrev pub elem_rows : Id → List Change → List ElemRow
elem_rows x changes = map (λ (c : Change). record { id = x; change = c }) changes

-- The rows begin with those of these sources, and the rest begins with those of another SYSMOD. They rise.
abbrev pub HasSources : Id → List SourceRow → List Text → List SourceRow → Type 0
HasSources x rows names rest = (rows ≡ source_rows x names ++ rest) × StandsApart parent_of_source x rest
    × IsRising names

-- the rows begin with those of these ++IFs, and the rest with those of another
abbrev pub HasIfs : Id → Text → ℕ → ℕ → List IfRow → List IfReq → List IfRow → Type 0
HasIfs x srel place n rows ifs rest = (rows ≡ if_rows x srel place n ifs ++ rest)
    × StandsApart parent_of_if (x, srel, place) rest

-- the rows of the ++IFs of these ++VERs follow, one after the other
abbrev pub HasAllIfs : Id → List IfRow → List (ℕ × Ver) → List IfRow → Type 0
HasAllIfs x rows [] rest = rows ≡ rest
HasAllIfs x rows (v ∷ vers) rest =
    (more : List IfRow) × HasIfs x v.1.srel v.0 1 rows v.1.ifs more × HasAllIfs x more vers rest

-- both tables begin with the rows of these ++VERs, whose numbers continue after others
abbrev pub HasVersBehind : List Ver → Id → List VerRow → List IfRow → List Ver → List VerRow → List IfRow → Type 0
HasVersBehind front x rows ifs vers rest more = (rows ≡ ver_rows x (numbered_behind front vers) ++ rest)
    × StandsApart parent_of_ver x rest × HasAllIfs x ifs (numbered_behind front vers) more

-- whose numbers count from 1
abbrev pub HasVers : Id → List VerRow → List IfRow → List Ver → List VerRow → List IfRow → Type 0
HasVers = HasVersBehind []

-- the rows begin with those of these element statements
abbrev pub HasChanges : Id → List ElemRow → List Change → List ElemRow → Type 0
HasChanges x rows changes rest = (rows ≡ elem_rows x changes ++ rest) × StandsApart parent_of_elem x rest
