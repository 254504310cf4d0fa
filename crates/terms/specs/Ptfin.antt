-- PTFIN: the order of its statements, the SYSMODs and assignments that they make, and its first fault. (IBM z/OS SMP/E
-- Reference, MCS: a SYSMOD is a header, then ++VERs with their ++IFs, then holds, then elements; ++ASSIGN comes between
-- SYSMODs.)
use Rattle.std.specs.Prelude.{◌≡◌, ◌≢◌, ◌≤◌, ◌<◌, ℕ, false, List, [], ◌∷◌, ◌++◌, length, All, Any, Option}
use Rattle.std.specs.Prelude.{Some, None, IsSomeAnd, IfSome, option_map, ◌⊎◌, IsTrue, take, drop, slice_get, set}
use Rattle.std.specs.Prelude.{codes}
use Rattle.std.specs.List.{position_or_len}
use Rattle.std.specs.Option.{option_map_or, option_and_then}
use Rattle.terms.specs.declared.codes.StatementCode.{StatementCode}
use Rattle.terms.specs.declared.codes.StatementCode.TheVariants.{BadStatementForm, UnknownStatementWord}
use Rattle.terms.specs.declared.codes.StatementCode.TheVariants.{BadStatementOperand}
use Rattle.terms.specs.declared.codes.StatementCode.TheVariants.{WrongPlace, BadText, OverLimit}
use Rattle.terms.specs.declared.kinds.Kind.{Kind}
use Rattle.terms.specs.declared.kinds.Kind.TheVariants.{Function}
use Rattle.terms.specs.declared.statement_words.StatementWord.{StatementWord}
use Rattle.terms.specs.declared.statement_words.StatementWord.TheVariants as word
use Rattle.terms.specs.Types.{Text, Id, Lines, IfReq, Ver, Hold, Change, Sysmod, Item, ASysmod, AnAssign}
use Rattle.terms.specs.Rising.{with_item}
use Rattle.terms.specs.Lookups.{at_most_one, is_before}
use Rattle.terms.specs.Global.{change_cmp}
use Rattle.terms.specs.Forms.{IsId, IsSrel, IsName}
use Rattle.terms.specs.Records.{HasRecords, RecFault, IsRecFault, rec_fault_record}
use Rattle.terms.specs.Groups.{starts_outside, Group, TakesGroup}
use Rattle.terms.specs.Statement.{Piece, IsStatement, StFault, IsStFault}
use Rattle.terms.specs.Words.{Word, HasWords, TakesWord, IsShort}
use Rattle.terms.specs.Operands.{HasOwn, words_in, list_behind, is_often}
use Rattle.terms.specs.Texts.{IsActionOf}
use Rattle.terms.specs.HoldStatements.{HasShortComment}
use Rattle.terms.specs.Statements.{statement_text, changed_type, Statement, SaysHeader, SaysVer, SaysIf, SaysHold}
use Rattle.terms.specs.Statements.{SaysAssign, SaysChange, lists_of, Says}

-- A SYSMOD to which the next statement may belong, and the place of its last ++VER, to which an ++IF belongs.
pub record Begun : Type 0 where
  pub sysmod : Sysmod
  pub last : Option ℕ

-- What the statements so far make: whole items, and the SYSMOD that has begun.
pub record SoFar : Type 0 where
  pub whole : List Item
  pub current : Option Begun

abbrev pub nothing : SoFar
nothing = record { whole = []; current = None }

abbrev pub items_of : SoFar → List Item
items_of c = c.whole ++ at_most_one (option_map (λ b. ASysmod b.sysmod) c.current)

abbrev pub begun : Kind → Id → Begun
begun kind id = record {
  sysmod = record { id = id; kind = kind; sources = []; vers = []; changes = []; holds = [] };
  last = None;
}

-- the place of a ++VER among others: before the first of a later SREL, or after all of them
abbrev pub place_of : Ver → List Ver → ℕ
place_of v vs = position_or_len (λ w. is_before v.srel w.srel) vs

-- the ++VERs with one more at this place
abbrev pub with_ver_at : ℕ → Ver → List Ver → List Ver
with_ver_at n v vs = take n vs ++ v ∷ drop n vs

-- ++VERs are ordered by SREL, those of one SREL by their statements, and element statements by type and name.
abbrev pub with_ver : Ver → Begun → Begun
with_ver v b = record {
  sysmod = record b.sysmod { vers = with_ver_at (place_of v b.sysmod.vers) v b.sysmod.vers };
  last = Some (place_of v b.sysmod.vers);
}

abbrev pub with_change : Change → Begun → Begun
with_change c b = record b { sysmod = record b.sysmod { changes = with_item change_cmp (λ x. x) b.sysmod.changes c } }

-- the ++VERs, with one more ++IF at the end of the ++VER at this place
abbrev pub with_if_at : IfReq → List Ver → ℕ → List Ver
with_if_at i vs n = option_map_or (λ v. set vs n (record v { ifs = v.ifs ++ i ∷ [] })) (slice_get vs n) vs

-- An ++IF belongs to the last ++VER, and a hold follows those that the SYSMOD has.
abbrev pub with_if : IfReq → Begun → Begun
with_if i b = record b {
  sysmod = record b.sysmod { vers = option_map_or (with_if_at i b.sysmod.vers) b.last b.sysmod.vers };
}

-- the last ++VER
abbrev pub last_of : Begun → Option Ver
last_of b = option_and_then (slice_get b.sysmod.vers) b.last

abbrev pub with_hold : Hold → Begun → Begun
with_hold h b = record b { sysmod = record b.sysmod { holds = b.sysmod.holds ++ h ∷ [] } }

-- what they make with one more statement
abbrev pub after : SoFar → Statement → SoFar
after c (SaysHeader kind id) = record { whole = items_of c; current = Some (begun kind id) }
after c (SaysVer v) = record c { current = option_map (with_ver v) c.current }
after c (SaysIf i) = record c { current = option_map (with_if i) c.current }
after c (SaysHold h) = record c { current = option_map (with_hold h) c.current }
after c (SaysAssign a) = record { whole = items_of c ++ AnAssign a ∷ []; current = None }
after c (SaysChange x) = record c { current = option_map (with_change x) c.current }

abbrev pub sysmod_in : Option Begun → Option Sysmod
sysmod_in current = option_map (λ b. b.sysmod) current

-- A header and an ++ASSIGN may come first, and after a SYSMOD that has a ++VER. A header is followed by ++VERs, each
-- with its ++IFs, then by holds, then by elements. ++RELEASE does not occur in PTFIN.
abbrev pub MayStand : Option Sysmod → StatementWord → Type 0
MayStand None (word.Header kind) = Unit {0}
MayStand None word.Assign = Unit {0}
MayStand None _ = ⊥
MayStand (Some s) (word.Header kind) = s.vers ≢ []
MayStand (Some s) word.Ver = (s.holds ≡ []) × (s.changes ≡ [])
MayStand (Some s) word.If = (s.vers ≢ []) × (s.holds ≡ []) × (s.changes ≡ [])
MayStand (Some s) word.Hold = (s.vers ≢ []) × (s.changes ≡ [])
MayStand (Some s) word.Release = ⊥
MayStand (Some s) word.Assign = s.vers ≢ []
MayStand (Some s) (word.Replace type) = s.vers ≢ []
MayStand (Some s) word.UpdateMac = s.vers ≢ []
MayStand (Some s) word.UpdateSrc = s.vers ≢ []

-- FMID occurs once among the pieces, whatever else does, and its list is this one id.
abbrev pub NamesFmid : List Piece → Id → Type 0
NamesFmid rest f = (is_often 2 (words_in rest) (codes "FMID") ≡ false)
    × HasOwn IsId (list_behind (codes "FMID") rest) f

-- The SYSMOD has a ++VER of the SREL: for a function any, otherwise one of the FMID that the pieces name.
abbrev pub HasVerLike : Sysmod → Text → List Piece → Type 0
HasVerLike s srel rest = Any (λ v. (v.srel ≡ srel)
    × ((s.kind ≡ Function) ⊎ IsSomeAnd v.fmid (NamesFmid rest))) s.vers

-- A second ++VER of one SREL in a function, one of the same SREL and FMID in another SYSMOD, or a second change of one
-- element, be it replaced or updated. The statement word's own list and its FMID decide this, whatever else the
-- statement has.
abbrev pub IsSecond : Sysmod → StatementWord → Option Text → List Piece → Type 0
IsSecond s word.Ver own rest = (srel : Text) × HasOwn IsSrel own srel × HasVerLike s srel rest
IsSecond s w own rest = (name : Text) × HasOwn IsName own name × Any
    (λ c. (changed_type w ≡ Some c.elem_type) × (c.name ≡ name)) s.changes

abbrev pub IsHeader : StatementWord → Type 0
IsHeader (word.Header kind) = Unit {0}
IsHeader _ = ⊥

abbrev pub IsUpdateWord : StatementWord → Type 0
IsUpdateWord word.UpdateMac = Unit {0}
IsUpdateWord word.UpdateSrc = Unit {0}
IsUpdateWord _ = ⊥

-- why a statement is out of order
pub data Disorder : Type 0 where
  CannotStand : Disorder
  LastHeader : Disorder
  TextBehind : Disorder
  Second : Disorder
  UpdateInFunction : Disorder

-- The parts of a statement as it was read: its word, the word's own list, the pieces after that, and its inline text.
pub record Parts : Type 0 where
  pub word : StatementWord
  pub own : Option Text
  pub rest : List Piece
  pub inline : Lines

abbrev pub these_parts : StatementWord → Option Text → List Piece → Lines → Parts
these_parts w own rest inline = record { word = w; own = own; rest = rest; inline = inline }

-- After the statements so far, a statement of these parts that `later` records follow is out of order.
abbrev pub IsMisplaced : Option Sysmod → Lines → Parts → Disorder → Type 0
IsMisplaced current later p CannotStand = ¬ MayStand current p.word
IsMisplaced current later p LastHeader = IsHeader p.word × (later ≡ [])
IsMisplaced current later p TextBehind = (changed_type p.word ≡ None) × (p.inline ≢ [])
IsMisplaced current later p Second = IsSomeAnd current (λ s. IsSecond s p.word p.own p.rest)
IsMisplaced current later p UpdateInFunction = IsUpdateWord p.word × IsSomeAnd current (λ s. s.kind ≡ Function)

abbrev pub IsPlaced : Option Sysmod → Lines → Parts → Type 0
IsPlaced current later p = (why : Disorder) → ¬ IsMisplaced current later p why

-- the statement's words, and what they say
abbrev pub HasValue : Option Sysmod → Parts → Statement → Type 0
HasValue current p s = (operands : List Word) × HasWords p.rest operands × Says current p.word p.own operands p.inline s

-- the limits of a statement after those before it
abbrev pub IsWithin : Option Begun → Statement → Lines → Type 0
IsWithin current (SaysHeader kind id) inline = Unit {0}
IsWithin current (SaysVer v) inline = IfSome current (λ b. length b.sysmod.vers < 8) × All IsShort (lists_of v)
IsWithin current (SaysIf i) inline =
    IfSome current (λ b. IfSome (last_of b) (λ v. length v.ifs < 100)) × IsShort i.req
IsWithin current (SaysHold h) inline = HasShortComment h
IsWithin current (SaysAssign a) inline = IsShort a.to
IsWithin current (SaysChange c) inline = IfSome current (λ b. length b.sysmod.changes < 999) × (length inline ≤ 99999)

abbrev pub HasGoodText : Statement → Type 0
HasGoodText (SaysChange c) = IsActionOf c.elem_type c.name c.action
HasGoodText _ = Unit {0}

-- The statement of these parts says so, and has no fault.
pub record IsGood (current : Option Begun) (later : Lines) (p : Parts) (s : Statement) : Type 0 where
  pub placed : IsPlaced (sysmod_in current) later p
  pub value : HasValue (sysmod_in current) p s
  pub within : IsWithin current s p.inline
  pub text : HasGoodText s

-- What is wrong with a statement of a known word. The answer is the first that applies of WrongPlace,
-- BadStatementOperand, OverLimit and BadText.
abbrev pub IsFault : Option Begun → Lines → Parts → StatementCode → Type 0
IsFault current later p WrongPlace = (why : Disorder) × IsMisplaced (sysmod_in current) later p why
IsFault current later p BadStatementOperand =
    IsPlaced (sysmod_in current) later p × ((s : Statement) → ¬ HasValue (sysmod_in current) p s)
IsFault current later p OverLimit = (s : Statement)
    × IsPlaced (sysmod_in current) later p × HasValue (sysmod_in current) p s × (¬ IsWithin current s p.inline)
IsFault current later p BadText = (s : Statement)
    × IsPlaced (sysmod_in current) later p × HasValue (sysmod_in current) p s × IsWithin current s p.inline
    × (¬ HasGoodText s)
IsFault current later p _ = ⊥

-- The records are a statement of these parts. It begins with the word and its own list.
pub record HasParts (records : Lines) (p : Parts) : Type 0 where
  pub pieces : List Piece
  pub statement : IsStatement records pieces p.inline
  pub begins : TakesWord pieces (record { word = statement_text p.word; list = p.own }) p.rest

-- the records are a statement that begins with an unknown word
pub record IsUnknown (records : Lines) : Type 0 where
  pub pieces : List Piece
  pub inline : Lines
  pub statement : IsStatement records pieces inline
  pub unknown : (w : StatementWord) (own : Option Text) (rest : List Piece)
      → ¬ TakesWord pieces (record { word = statement_text w; list = own }) rest

-- The records are this statement, and have no fault.
abbrev pub IsGoodStatement : Option Begun → Lines → Lines → Statement → Type 0
IsGoodStatement current later records s = (p : Parts) × HasParts records p × IsGood current later p s

-- What is wrong with a statement. Its form (BadStatementForm) and its word (UnknownStatementWord) come first.
abbrev pub IsStatementFault : Option Begun → Lines → Lines → StatementCode → Type 0
IsStatementFault current later records BadStatementForm = (why : StFault) × IsStFault records why
IsStatementFault current later records UnknownStatementWord = IsUnknown records
IsStatementFault current later records code = (p : Parts) × HasParts records p × IsFault current later p code

-- After c, the records that count from n begin with these statements. The statements make d, and the rest follows,
-- which counts from m.
abbrev pub BeginsWithStatements : SoFar → ℕ → Lines → List Statement → SoFar → ℕ → Lines → Type 0
BeginsWithStatements c n records [] d m rest = (c ≡ d) × (n ≡ m) × (records ≡ rest)
BeginsWithStatements c n records (s ∷ ss) d m rest =
    (g : Group) × (next : ℕ) × (later : Lines) × TakesGroup n records g next later
    × IsGoodStatement c.current later g.records s × BeginsWithStatements (after c s) next later ss d m rest

-- The file consists of these items.
abbrev pub IsPtfin : List ℕ → List Item → Type 0
IsPtfin bytes items = (records : Lines) × (ss : List Statement) × (d : SoFar) × (m : ℕ)
    × HasRecords bytes records × BeginsWithStatements nothing 1 records ss d m [] × (items ≡ items_of d)

-- a fault of PTFIN, with the number of the statement's first record
pub record McsFault : Type 0 where
  pub number : ℕ
  pub code : StatementCode

-- The fault of the records (BadStatementForm), or a first record that begins no statement (WrongPlace).
abbrev pub IsFileFault : List ℕ → McsFault → Type 0
IsFileFault bytes fault =
    ((fault.code ≡ BadStatementForm) × (r : RecFault) × IsRecFault bytes r × (fault.number ≡ rec_fault_record r))
    ⊎ ((fault.code ≡ WrongPlace) × (fault.number ≡ 1) × (records : Lines) × HasRecords bytes records
    × IsTrue (starts_outside records))

-- After the statements that make c, the next one has a fault.
abbrev pub IsNextFault : SoFar → ℕ → Lines → McsFault → Type 0
IsNextFault c n records fault = (g : Group) × (next : ℕ) × (later : Lines) × TakesGroup n records g next later
    × (fault.number ≡ g.number) × IsStatementFault c.current later g.records fault.code

-- The first fault of the file: of its records, or of the first statement that is not good.
abbrev pub IsPtfinFault : List ℕ → McsFault → Type 0
IsPtfinFault bytes fault = IsFileFault bytes fault
    ⊎ ((records : Lines) × (ss : List Statement) × (d : SoFar) × (m : ℕ) × (rest : Lines)
    × HasRecords bytes records × BeginsWithStatements nothing 1 records ss d m rest × IsNextFault d m rest fault)
