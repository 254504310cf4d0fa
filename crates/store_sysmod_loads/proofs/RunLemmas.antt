-- Rows are taken off the front one by one.
use Rattle.std.proofs.Common.{◌≡◌, ℕ, ◌+◌, List, [], ◌∷◌, ◌++◌, length, Option, Some, None, append_assoc, arith, refl}
use Rattle.std.proofs.Common.{append-nil, sym, ap, subst, ◌∙◌}
use Rattle.std.specs.Prelude.{IfSome, option_to_list}
use Rattle.terms.specs.Types.{Text, Id, IfReq, Ver, Change}
use Rattle.store_schema.specs.Rows.{number_behind, numbered_behind}
use Rattle.store_sysmods.specs.declared.source.SourceRow.{SourceRow}
use Rattle.store_sysmods.specs.declared.ver.VerRow.{VerRow}
use Rattle.store_sysmods.specs.declared.ifreq.IfRow.{IfRow}
use Rattle.store_sysmods.specs.declared.elem.ElemRow.{ElemRow}
use Rattle.store_sysmod_loads.specs.Runs.{Begins, StandsApart, parent_of_source, parent_of_ver, parent_of_if}
use Rattle.store_sysmod_loads.specs.Runs.{parent_of_elem, source_rows, if_rows, ver_rows, elem_rows, HasIfs, HasAllIfs}
use Rattle.store_sysmod_loads.specs.Runs.{HasVersBehind, HasChanges}

pub popped : {X K : Type 0} (parent : X → K) (k : K) (old new : List X) (r : Option X) → Begins parent k old
    → old ≡ option_to_list r ++ new → IfSome r (λ row. (old ≡ row ∷ new) × (parent row ≡ k))
popped parent k [] new r h e = absurd h
popped parent k (x ∷ old) new None h e = tt
popped parent k (x ∷ old) new (Some row) h e = let first : x ≡ row = cc in (e, ap parent (sym first) ∙ h)

-- ---- sources

-- the rows begin with those of these sources, whether they rise or not
abbrev pub AreNamed : Id → List SourceRow → List Text → List SourceRow → Type 0
AreNamed x rows names rest = (rows ≡ source_rows x names ++ rest) × StandsApart parent_of_source x rest

source_rows_more : (x : Id) (names : List Text) (name : Text)
    → source_rows x (names ++ name ∷ []) ≡ source_rows x names ++ source_rows x (name ∷ [])
source_rows_more x [] name = refl
source_rows_more x (n ∷ names) name = ap (λ rows. source_rows x (n ∷ []) ++ rows) (source_rows_more x names name)

pub sources_told : (x : Id) (old : List SourceRow) (names : List Text) (row : SourceRow) (rows new : List SourceRow)
    → old ≡ source_rows x names ++ rows → rows ≡ row ∷ new → row.id ≡ x
    → old ≡ source_rows x (names ++ row.name ∷ []) ++ new
sources_told x old names row rows new told is id =
    let one : row ≡ record { id = x; name = row.name } = ap (λ y. record row { id = y }) id in
    told ∙ ap (λ r. source_rows x names ++ r) (is ∙ ap (λ r. r ∷ new) one)
    ∙ sym (append_assoc (source_rows x names) (source_rows x (row.name ∷ [])) new)
    ∙ ap (λ r. r ++ new) (sym (source_rows_more x names row.name))

pub sources_step : (x : Id) (row : SourceRow) (new : List SourceRow) (names : List Text) (rest : List SourceRow)
    → row.id ≡ x → AreNamed x (row ∷ new) names rest → (left : List Text) × (names ≡ row.name ∷ left)
    × AreNamed x new left rest
sources_step x row new [] rest id h = absurd (h.1 (subst (Begins parent_of_source x) h.0 id))
sources_step x row new (n ∷ names) rest id h =
    let e = h.0 in
    let head : row ≡ record { id = x; name = n } = cc in
    let tail : new ≡ source_rows x names ++ rest = cc in
    (names, ap (λ r. r ∷ names) (sym (ap (λ (r : SourceRow). r.name) head)), (tail, h.1))

pub sources_end : (x : Id) (rows : List SourceRow) (names : List Text) (rest : List SourceRow)
    → StandsApart parent_of_source x rows → AreNamed x rows names rest → (names ≡ []) × (rest ≡ rows)
sources_end x rows [] rest apart h = (refl, sym h.0)
sources_end x rows (n ∷ names) rest apart h = absurd (apart (subst (Begins parent_of_source x) (sym h.0) refl))

-- ---- ++IFs

abbrev pub if_row : Id → Text → ℕ → ℕ → IfReq → IfRow
if_row x srel place n i = record { id = x; srel = srel; place = place; number = n; ifreq = i }

if_rows_more : (x : Id) (srel : Text) (place n m : ℕ) (ifs : List IfReq) (i : IfReq) → m ≡ n + length ifs
    → if_rows x srel place n (ifs ++ i ∷ []) ≡ if_rows x srel place n ifs ++ if_row x srel place m i ∷ []
if_rows_more x srel place n m [] i e = let same : n ≡ m = omega (arith, e) in
    ap (λ k. if_row x srel place k i ∷ []) same
if_rows_more x srel place n m (j ∷ ifs) i e = ap (λ rows. if_row x srel place n j ∷ rows)
    (if_rows_more x srel place (n + 1) m ifs i (omega (arith, e)))

if_is : (row : IfRow) (x : Id) (srel : Text) (place n : ℕ) → parent_of_if row ≡ (x, srel, place) → row.number ≡ n
    → row ≡ if_row x srel place n row.ifreq
if_is row x srel place n key number =
    let id : row.id ≡ x = ap (λ (k : Id × Text × ℕ). k.0) key in
    let same_srel : row.srel ≡ srel = ap (λ (k : Id × Text × ℕ). k.1) key in
    let behind : row.place ≡ place = ap (λ (k : Id × Text × ℕ). k.2) key in
    ap (λ y. record row { id = y }) id ∙ ap (λ y. record row { id = x; srel = y }) same_srel
    ∙ ap (λ y. record row { id = x; srel = srel; place = y }) behind
    ∙ ap (λ y. record { id = x; srel = srel; place = place; number = y; ifreq = row.ifreq }) number

pub ifs_told : (x : Id) (srel : Text) (place : ℕ) (old : List IfRow) (ifs : List IfReq) (row : IfRow)
    (rows new : List IfRow) → old ≡ if_rows x srel place 1 ifs ++ rows → rows ≡ row ∷ new
    → parent_of_if row ≡ (x, srel, place) → row.number ≡ length ifs + 1
    → old ≡ if_rows x srel place 1 (ifs ++ row.ifreq ∷ []) ++ new
ifs_told x srel place old ifs row rows new told is key number =
    let one : row ≡ if_row x srel place (length ifs + 1) row.ifreq = if_is row x srel place (length ifs + 1) key number
    in
    told ∙ ap (λ r. if_rows x srel place 1 ifs ++ r) (is ∙ ap (λ r. r ∷ new) one)
    ∙ sym (append_assoc (if_rows x srel place 1 ifs) (if_row x srel place (length ifs + 1) row.ifreq ∷ []) new)
    ∙ ap (λ r. r ++ new) (sym (if_rows_more x srel place 1 (length ifs + 1) ifs row.ifreq (omega arith)))

pub ifs_step : (x : Id) (srel : Text) (place n : ℕ) (row : IfRow) (new : List IfRow) (more : List IfReq)
    (rest : List IfRow) → parent_of_if row ≡ (x, srel, place) → HasIfs x srel place n (row ∷ new) more rest
    → (left : List IfReq) × (more ≡ row.ifreq ∷ left) × (row.number ≡ n) × HasIfs x srel place (n + 1) new left rest
ifs_step x srel place n row new [] rest key h = absurd (h.1 (subst (Begins parent_of_if (x, srel, place)) h.0 key))
ifs_step x srel place n row new (i ∷ more) rest key h =
    let e = h.0 in
    let head : row ≡ if_row x srel place n i = cc in
    let tail : new ≡ if_rows x srel place (n + 1) more ++ rest = cc in
    (more, ap (λ r. r ∷ more) (sym (ap (λ (r : IfRow). r.ifreq) head)), ap (λ (r : IfRow). r.number) head, (tail, h.1))

pub ifs_end : (x : Id) (srel : Text) (place n : ℕ) (rows : List IfRow) (more : List IfReq) (rest : List IfRow)
    → StandsApart parent_of_if (x, srel, place) rows → HasIfs x srel place n rows more rest
    → (more ≡ []) × (rest ≡ rows)
ifs_end x srel place n rows [] rest apart h = (refl, sym h.0)
ifs_end x srel place n rows (i ∷ more) rest apart h =
    absurd (apart (subst (Begins parent_of_if (x, srel, place)) (sym h.0) refl))

-- ---- ++VERs

-- one more ++VER behind others
pub numbered_more : (front vers : List Ver) (v : Ver)
    → numbered_behind front (vers ++ v ∷ []) ≡ numbered_behind front vers ++ (number_behind (front ++ vers) v, v) ∷ []
numbered_more front [] v =
    ap (λ (ws : List Ver). (number_behind ws v, v) ∷ []) (sym (append-nil front))
numbered_more front (w ∷ vers) v =
    ap (λ (ns : List (ℕ × Ver)). (number_behind front w, w) ∷ ns)
    (numbered_more (front ++ w ∷ []) vers v
    ∙ ap (λ (ws : List Ver). numbered_behind (front ++ w ∷ []) vers ++ (number_behind ws v, v) ∷ [])
    (append_assoc front (w ∷ []) vers))

ver_rows_more : (x : Id) (vers : List (ℕ × Ver)) (v : ℕ × Ver)
    → ver_rows x (vers ++ v ∷ []) ≡ ver_rows x vers ++ ver_rows x (v ∷ [])
ver_rows_more x [] v = refl
ver_rows_more x (w ∷ vers) v = ap (λ rows. ver_rows x (w ∷ []) ++ rows) (ver_rows_more x vers v)

pub vers_told : (x : Id) (old : List VerRow) (vers : List Ver) (row : VerRow) (rows new : List VerRow)
    (ifs : List IfReq) → old ≡ ver_rows x (numbered_behind [] vers) ++ rows → rows ≡ row ∷ new → row.id ≡ x
    → row.number ≡ number_behind vers row.ver → row.ver.ifs ≡ []
    → old ≡ ver_rows x (numbered_behind [] (vers ++ record row.ver { ifs = ifs } ∷ [])) ++ new
vers_told x old vers row rows new ifs told is id number bare =
    let v = row.ver in
    let n = number_behind vers v in
    let last : Ver = record v { ifs = ifs } in
    let one : row ≡ record { id = x; number = n; ver = record v { ifs = [] } } =
    ap (λ y. record row { id = y }) id ∙ ap (λ y. record row { id = x; number = y }) number
    ∙ ap (λ y. record { id = x; number = n; ver = record v { ifs = y } }) bare in
    told ∙ ap (λ r. ver_rows x (numbered_behind [] vers) ++ r) (is ∙ ap (λ r. r ∷ new) one)
    ∙ sym (append_assoc (ver_rows x (numbered_behind [] vers)) (ver_rows x ((n, last) ∷ [])) new)
    ∙ ap (λ r. r ++ new) (sym (ver_rows_more x (numbered_behind [] vers) (n, last))
    ∙ ap (ver_rows x) (sym (numbered_more [] vers last)))

all_ifs_more : (x : Id) (old : List IfRow) (vers : List (ℕ × Ver)) (v : ℕ × Ver) (mid new : List IfRow)
    → HasAllIfs x old vers mid → HasIfs x v.1.srel v.0 1 mid v.1.ifs new → HasAllIfs x old (vers ++ v ∷ []) new
all_ifs_more x old [] v mid new told more = (
  new,
  subst (λ rows. HasIfs x v.1.srel v.0 1 rows v.1.ifs new) (sym told) more,
  refl,
)
all_ifs_more x old (w ∷ vers) v mid new told more = (told.0, told.1, all_ifs_more x told.0 vers v mid new told.2 more)

pub ver_ifs_more : (x : Id) (old : List IfRow) (vers : List Ver) (v : Ver) (mid new : List IfRow)
    → HasAllIfs x old (numbered_behind [] vers) mid → HasIfs x v.srel (number_behind vers v) 1 mid v.ifs new
    → HasAllIfs x old (numbered_behind [] (vers ++ v ∷ [])) new
ver_ifs_more x old vers v mid new told more =
    subst (λ (ns : List (ℕ × Ver)). HasAllIfs x old ns new) (sym (numbered_more [] vers v))
    (all_ifs_more x old (numbered_behind [] vers) (number_behind vers v, v) mid new told more)

-- what the first row of a ++VER says of those that are there
abbrev pub StepsVer : List Ver → Id → VerRow → List VerRow → List IfRow → List Ver → List VerRow → List IfRow → Type 0
StepsVer front x row new ifs vers rest more =
    (found : List IfReq) × (mid : List IfRow) × (left : List Ver) × (vers ≡ record row.ver { ifs = found } ∷ left)
    × (row.number ≡ number_behind front row.ver) × HasIfs x row.ver.srel row.number 1 ifs found mid
    × HasVersBehind (front ++ record row.ver { ifs = found } ∷ []) x new mid left rest more

pub vers_step : (front : List Ver) (x : Id) (row : VerRow) (new : List VerRow) (ifs : List IfRow) (vers : List Ver)
    (rest : List VerRow) (more : List IfRow) → row.id ≡ x → HasVersBehind front x (row ∷ new) ifs vers rest more
    → StepsVer front x row new ifs vers rest more
vers_step front x row new ifs [] rest more id h = absurd (h.1 (subst (Begins parent_of_ver x) h.0 id))
vers_step front x row new ifs (v ∷ vers) rest more id h =
    let e = h.0 in
    let head : row ≡ record { id = x; number = number_behind front v; ver = record v { ifs = [] } } = cc in
    let tail : new ≡ ver_rows x (numbered_behind (front ++ v ∷ []) vers) ++ rest = cc in
    subst (λ r. StepsVer front x r new ifs (v ∷ vers) rest more) (sym head)
    (v.ifs, h.2.0, vers, refl, refl, h.2.1, (tail, h.1, h.2.2))

pub vers_end : (front : List Ver) (x : Id) (rows : List VerRow) (ifs : List IfRow) (vers : List Ver)
    (rest : List VerRow) (more : List IfRow) → StandsApart parent_of_ver x rows
    → HasVersBehind front x rows ifs vers rest more → (vers ≡ []) × (rest ≡ rows) × (more ≡ ifs)
vers_end front x rows ifs [] rest more apart h = (refl, sym h.0, sym h.2)
vers_end front x rows ifs (v ∷ vers) rest more apart h =
    absurd (apart (subst (Begins parent_of_ver x) (sym h.0) refl))

-- ---- element statements

elem_rows_more : (x : Id) (changes : List Change) (d : Change)
    → elem_rows x (changes ++ d ∷ []) ≡ elem_rows x changes ++ elem_rows x (d ∷ [])
elem_rows_more x [] d = refl
elem_rows_more x (e ∷ changes) d = ap (λ rows. elem_rows x (e ∷ []) ++ rows) (elem_rows_more x changes d)

pub changes_told : (x : Id) (old : List ElemRow) (changes : List Change) (row : ElemRow) (rows new : List ElemRow)
    → old ≡ elem_rows x changes ++ rows → rows ≡ row ∷ new → row.id ≡ x
    → old ≡ elem_rows x (changes ++ row.change ∷ []) ++ new
changes_told x old changes row rows new told is id =
    let one : row ≡ record { id = x; change = row.change } = ap (λ y. record row { id = y }) id in
    told ∙ ap (λ r. elem_rows x changes ++ r) (is ∙ ap (λ r. r ∷ new) one)
    ∙ sym (append_assoc (elem_rows x changes) (elem_rows x (row.change ∷ [])) new)
    ∙ ap (λ r. r ++ new) (sym (elem_rows_more x changes row.change))

pub changes_step : (x : Id) (row : ElemRow) (new : List ElemRow) (changes : List Change) (rest : List ElemRow)
    → row.id ≡ x → HasChanges x (row ∷ new) changes rest → (left : List Change) × (changes ≡ row.change ∷ left)
    × HasChanges x new left rest
changes_step x row new [] rest id h = absurd (h.1 (subst (Begins parent_of_elem x) h.0 id))
changes_step x row new (d ∷ changes) rest id h =
    let e = h.0 in
    let head : row ≡ record { id = x; change = d } = cc in
    let tail : new ≡ elem_rows x changes ++ rest = cc in
    (changes, ap (λ r. r ∷ changes) (sym (ap (λ (r : ElemRow). r.change) head)), (tail, h.1))

pub changes_end : (x : Id) (rows : List ElemRow) (changes : List Change) (rest : List ElemRow)
    → StandsApart parent_of_elem x rows → HasChanges x rows changes rest → (changes ≡ []) × (rest ≡ rows)
changes_end x rows [] rest apart h = (refl, sym h.0)
changes_end x rows (d ∷ changes) rest apart h = absurd (apart (subst (Begins parent_of_elem x) (sym h.0) refl))

-- the next of those that are left
pub next_left : {X : Type 0} (others done : List X) (x : X) (more left : List X) → others ≡ done ++ more
    → more ≡ x ∷ left → others ≡ (done ++ x ∷ []) ++ left
next_left others done x more left e f = e ∙ ap (λ xs. done ++ xs) f ∙ sym (append_assoc done (x ∷ []) left)
