-- Statements, one by one.
use Rattle.std.proofs.Common.{◌≡◌, ◌≢◌, ◌∙◌, ℕ, List, [], ◌∷◌, ◌++◌, Option, Some, None, refl, sym, ap, subst, inr}
use Rattle.std.proofs.Common.{inl}
use Rattle.std.specs.Prelude.{IsSome, IsSomeAnd, IfSome}
use Rattle.std.proofs.lemmas.Option.{none-some}
use Rattle.std.specs.Option.{option_map, option_map_or}
use Rattle.terms.specs.declared.codes.StatementCode.{StatementCode}
use Rattle.terms.specs.declared.kinds.ElemType.{ElemType}
use Rattle.terms.specs.declared.statement_words.StatementWord.{StatementWord}
use Rattle.terms.specs.declared.statement_words.StatementWord.TheVariants as word
use Rattle.terms.specs.Types.{Text, Lines, IfReq, Ver, Hold, Change, Sysmod, Item}
use Rattle.terms.specs.Records.{HasRecords}
use Rattle.terms.specs.Groups.{Group, TakesGroup}
use Rattle.terms.specs.Words.{Word}
use Rattle.terms.specs.Statements.{Statement, SaysHeader, SaysVer, SaysIf, SaysHold, SaysAssign, SaysChange}
use Rattle.terms.specs.Statements.{IsOwnHoldOf, changed_type}
use Rattle.terms.specs.Ptfin.{Begun, sysmod_in, with_ver, with_if_at, with_if, with_hold, with_change, SoFar, nothing}
use Rattle.terms.specs.Ptfin.{after, MayStand, CannotStand, Parts, IsGood, IsGoodStatement}
use Rattle.terms.specs.Ptfin.{IsStatementFault, BeginsWithStatements, IsPtfin}
use Rattle.terms.proofs.ExactPtfin.{ptfin_fault_no_items}
use Rattle.mcs.specs.declared.fault.StatementError.{StatementError}
use Rattle.mcs.specs.declared.fault.StatementError.TheVariants as statement
use Rattle.mcs.specs.FileFaults.{error_at, IsFileError}
use Rattle.mcs.specs.declared.error.McsError.{McsError}
use Rattle.mcs.specs.declared.error.McsError.TheVariants.{Memory, Fault}
use Rattle.mcs.specs.declared.file.Begun.{Begun as Read}
use Rattle.mcs.specs.Files.{begun_in, Suits, IsPtfinError, IsRestError}
use Rattle.mcs.specs.Said.{IsStatementError}

pub begins_more : (c : SoFar) (n : ℕ) (records : Lines) (ss : List Statement) (d : SoFar) (m : ℕ) (rest : Lines)
    (g : Group) (next : ℕ) (later : Lines) (s : Statement) → BeginsWithStatements c n records ss d m rest
    → TakesGroup m rest g next later → IsGoodStatement d.current later g.records s
    → BeginsWithStatements c n records (ss ++ s ∷ []) (after d s) next later
begins_more c n records [] d m rest g next later s b t good =
    let takes = subst (λ k. TakesGroup k records g next later) (sym b.1)
    (subst (λ r. TakesGroup m r g next later) (sym b.2) t) in (
      g,
      next,
      later,
      takes,
      subst (λ x. IsGoodStatement x.current later g.records s) (sym b.0) good,
      (ap (λ x. after x s) b.0, refl, refl),
    )
begins_more c n records (s' ∷ ss) d m rest g next later s b t good =
    (b.0, b.1, b.2, b.3, b.4, begins_more (after c s') b.1 b.2 ss d m rest g next later s b.5 t good)

rest_fault : (c : SoFar) (n : ℕ) (records : Lines) (ss : List Statement) (d : SoFar) (m : ℕ) (rest : Lines) (g : Group)
    (next : ℕ) (later : Lines) (code : StatementCode) → BeginsWithStatements c n records ss d m rest
    → TakesGroup m rest g next later → IsStatementFault d.current later g.records code
    → IsRestError c n records (Fault g.number code)
rest_fault c n records ss d m rest g next later code b t f = (ss, d, m, rest, b, (g, next, later, t, refl, f))

pub rest_error : (c : SoFar) (n : ℕ) (records : Lines) (ss : List Statement) (d : SoFar) (m : ℕ) (rest : Lines)
    (g : Group) (next : ℕ) (later : Lines) (error : StatementError) → BeginsWithStatements c n records ss d m rest
    → TakesGroup m rest g next later → IsStatementError d.current later g.records error
    → IsRestError c n records (error_at g.number error)
rest_error c n records ss d m rest g next later statement.Memory b t f = tt
rest_error c n records ss d m rest g next later (statement.Fault code) b t f =
    rest_fault c n records ss d m rest g next later code b t f

pub first_error : (bytes : List ℕ) (error : McsError) → IsFileError bytes error → IsPtfinError bytes error
first_error bytes Memory f = tt
first_error bytes (Fault n code) f = inl f

pub file_error : (bytes : List ℕ) (records : Lines) (error : McsError) → HasRecords bytes records
    → IsRestError nothing 1 records error → IsPtfinError bytes error
file_error bytes records Memory h r = tt
file_error bytes records (Fault number code) h r = inr (records, r.0, r.1, r.2, r.3, h, r.4, r.5)

-- What is a PTFIN is not read only where memory is wanting.
pub error_is : (bytes : List ℕ) (error : McsError) (items : List Item) → IsPtfinError bytes error → IsPtfin bytes items
    → error ≡ Memory
error_is bytes Memory items e p = refl
error_is bytes (Fault number code) items e p = absurd (ptfin_fault_no_items bytes
    (record { number = number; code = code }) items e p)

-- The place of the last ++VER is known if the SYSMOD has one.
abbrev pub KnowsLast : Option Begun → Type 0
KnowsLast current = IfSome current (λ b. b.last ≡ None → b.sysmod.vers ≡ [])

-- Each statement keeps it known: a header begins a SYSMOD without ++VERs, a ++VER becomes the last, and an ++IF outside
-- every ++VER changes nothing.
knows_after : (c : SoFar) (s : Statement) → KnowsLast c.current → KnowsLast (after c s).current
knows_after c (SaysHeader kind id) knows = λ none. refl
knows_after c (SaysVer v) knows = of_ver c.current
  where
    of_ver : (current : Option Begun) → KnowsLast (option_map (with_ver v) current)
    of_ver None = tt
    of_ver (Some b) = λ none. absurd (none-some _ (sym none))
knows_after c (SaysIf i) knows = of_if c.current knows
  where
    of_if : (current : Option Begun) → KnowsLast current → KnowsLast (option_map (with_if i) current)
    of_if None knows = tt
    of_if (Some b) knows = λ none.
        ap (λ o. option_map_or (with_if_at i b.sysmod.vers) o b.sysmod.vers) none ∙ knows none
knows_after c (SaysHold h) knows = of_hold c.current knows
  where
    of_hold : (current : Option Begun) → KnowsLast current → KnowsLast (option_map (with_hold h) current)
    of_hold None knows = tt
    of_hold (Some b) knows = knows
knows_after c (SaysAssign a) knows = tt
knows_after c (SaysChange x) knows = of_change c.current knows
  where
    of_change : (current : Option Begun) → KnowsLast current → KnowsLast (option_map (with_change x) current)
    of_change None knows = tt
    of_change (Some b) knows = knows

-- So it is known after any statements.
pub knows_last : (c : SoFar) (n : ℕ) (records : Lines) (ss : List Statement) (d : SoFar) (m : ℕ) (rest : Lines)
    → KnowsLast c.current → BeginsWithStatements c n records ss d m rest → KnowsLast d.current
knows_last c n records [] d m rest knows b = subst (λ x. KnowsLast x.current) b.0 knows
knows_last c n records (s ∷ ss) d m rest knows b =
    knows_last (after c s) b.1 b.2 ss d m rest (knows_after c s knows) b.5

has_begun : (current : Option Read) (P : Sysmod → Type 0) → IsSomeAnd (sysmod_in (begun_in current)) P → IsSome current
has_begun None P says = absurd says
has_begun (Some b) P says = refl

own_holds : (current : Option Read) (own : Option Text) (operands : List Word) (h : Hold)
    → IsSomeAnd (sysmod_in (begun_in current)) (λ s. IsOwnHoldOf s own operands h) → Suits current (SaysHold h)
own_holds None own operands h says = absurd says
own_holds (Some b) own operands h says = (says.internal, says.kind, says.own_id)

-- An element statement is not the first.
not_first : (w : StatementWord) (type : ElemType) → changed_type w ≡ Some type → MayStand None w → ⊥
not_first (word.Header kind) type is may = none-some type is
not_first word.Assign type is may = none-some type is
not_first w type is may = may

change_begun : (current : Option Read) (later : Lines) (p : Parts) (c : Change)
    → IsGood (begun_in current) later p (SaysChange c) → IsSome current
change_begun None later p c good =
    absurd (good.placed CannotStand (not_first p.word c.elem_type good.value.2.type_is))
change_begun (Some b) later p c good = refl

last_there : (last : Option ℕ) (vers : List Ver) → (last ≡ None → vers ≡ []) → ((vers ≢ [] → ⊥) → ⊥) → IsSome last
last_there None vers knows some = absurd (some (λ has. has (knows refl)))
last_there (Some n) vers knows some = refl

-- An ++IF follows a ++VER.
if_last : (current : Option Read) (later : Lines) (p : Parts) (i : IfReq) → KnowsLast (begun_in current)
    → IsGood (begun_in current) later p (SaysIf i) → Suits current (SaysIf i)
if_last None later p i knows good = absurd good.value.2.1
if_last (Some b) later p i knows good =
    last_there b.last b.sysmod.vers knows (λ no. good.placed CannotStand
    (λ may. no (subst (MayStand (Some b.sysmod)) good.value.2.0 may).0))

-- What a good statement says suits the SYSMOD.
pub good_suits : (current : Option Read) (later records : Lines) (s : Statement) → KnowsLast (begun_in current)
    → IsGoodStatement (begun_in current) later records s → Suits current s
good_suits current later records (SaysHeader kind id) knows good = tt
good_suits current later records (SaysVer v) knows good = has_begun current _ good.2.value.2.1
good_suits current later records (SaysIf i) knows good = if_last current later good.0 i knows good.2
good_suits current later records (SaysHold h) knows good =
    own_holds current good.0.own good.2.value.0 h good.2.value.2.1
good_suits current later records (SaysAssign a) knows good = tt
good_suits current later records (SaysChange c) knows good = change_begun current later good.0 c good.2
