-- What a statement of a hold file says, and what is at fault with it.
use Rattle.std.proofs.Common.{◌≡◌, ◌≢◌, false, List, [], Option, Result, Ok, Err, sym, subst}
use Rattle.std.specs.Prelude.{IfOk, IfErr}
use Rattle.terms.specs.declared.codes.StatementCode.TheVariants.{BadStatementForm, UnknownStatementWord}
use Rattle.terms.specs.declared.codes.StatementCode.TheVariants.{BadStatementOperand}
use Rattle.terms.specs.declared.codes.StatementCode.TheVariants.{WrongPlace, BadText, OverLimit}
use Rattle.terms.specs.declared.statement_words.StatementWord.{StatementWord}
use Rattle.terms.specs.declared.statement_words.StatementWord.TheVariants as word
use Rattle.terms.specs.Types as terms
use Rattle.terms.specs.Types.{Text, Lines}
use Rattle.terms.specs.Statement.{Piece}
use Rattle.terms.specs.Words.{Word, HasWords}
use Rattle.terms.specs.HoldStatements.{IsHoldOf, IsReleaseOf}
use Rattle.terms.specs.HoldFile.{StandsInHoldFile, HasItem, IsGoodItem}
use Rattle.terms.specs.Ptfin.{Parts, HasParts}
use Rattle.rec80.specs.declared.operand_errors.OperandError.{OperandError}
use Rattle.rec80.specs.declared.operand_errors.OperandError.TheVariants as operand
use Rattle.rec80.specs.Failing.{Excludes}
use Rattle.mcs.specs.declared.fault.StatementError.{StatementError}
use Rattle.mcs.specs.declared.fault.StatementError.TheVariants.{Memory, Fault}
use Rattle.mcs.specs.Faults.{value_error}
use Rattle.mcs.specs.Forms.{IsFormError}
use Rattle.mcs.specs.declared.hold_item.HoldItem.{HoldItem}
use Rattle.mcs.specs.HoldItems.{item_of, IsItemSaid, IsSaidError, IsItemError}

-- a hold as its statement's words have it
abbrev pub SaysHold : Option Text → List Piece → terms.Hold → Type 0
SaysHold own rest h = (ws : List Word) × HasWords rest ws × IsHoldOf own ws h

abbrev pub SaysRelease : Option Text → List Piece → terms.Release → Type 0
SaysRelease own rest r = (ws : List Word) × HasWords rest ws × IsReleaseOf own ws r

pub hold_value : (w : StatementWord) (own : Option Text) (rest : List Piece) (h : terms.Hold) → w ≡ word.Hold
    → SaysHold own rest h → h.internal ≡ false → HasItem w own rest (terms.AHold h)
hold_value w own rest h is says external = (says.0, says.1, (is, says.2, external))

pub release_value : (w : StatementWord) (own : Option Text) (rest : List Piece) (r : terms.Release) → w ≡ word.Release
    → SaysRelease own rest r → HasItem w own rest (terms.ARelease r)
release_value w own rest r is says = (says.0, says.1, (is, says.2))

no_hold : (w : StatementWord) (own : Option Text) (rest : List Piece) → w ≡ word.Hold
    → ((ws : List Word) (h : terms.Hold) → HasWords rest ws → IsHoldOf own ws h → ⊥) → (item : terms.HoldItem)
    → HasItem w own rest item → ⊥
no_hold w own rest is none (terms.AHold h) v = none v.0 h v.1 v.2.1
no_hold w own rest is none (terms.ARelease r) v = absurd (cc (is, v.2.0))

pub no_release : (w : StatementWord) (own : Option Text) (rest : List Piece) → w ≡ word.Release
    → ((ws : List Word) (r : terms.Release) → HasWords rest ws → IsReleaseOf own ws r → ⊥) → (item : terms.HoldItem)
    → HasItem w own rest item → ⊥
no_release w own rest is none (terms.AHold h) v = absurd (cc (is, v.2.0))
no_release w own rest is none (terms.ARelease r) v = none v.0 r v.1 v.2.1

pub hold_error : (w : StatementWord) (own : Option Text) (rest : List Piece) (error : OperandError) → w ≡ word.Hold
    → Excludes error ((ws : List Word) × (h : terms.Hold) × HasWords rest ws × IsHoldOf own ws h)
    → IsSaidError w own rest (value_error error)
hold_error w own rest operand.Memory is x = tt
hold_error w own rest operand.Bad is x = no_hold w own rest is (λ ws h words i. x (ws, h, words, i))

-- a fault of the statement's form, or of its word
pub form_error : (records : Lines) (e : StatementError) → IsFormError records e → IsItemError records e
form_error records Memory f = tt
form_error records (Fault BadStatementForm) f = f
form_error records (Fault UnknownStatementWord) f = f
form_error records (Fault BadStatementOperand) f = absurd f
form_error records (Fault WrongPlace) f = absurd f
form_error records (Fault BadText) f = absurd f
form_error records (Fault OverLimit) f = absurd f

pub text_behind : (w : StatementWord) (inline : Lines) → inline ≢ [] → StandsInHoldFile w inline → ⊥
text_behind (word.Header kind) inline some m = m
text_behind word.Ver inline some m = m
text_behind word.If inline some m = m
text_behind word.Hold inline some m = some m
text_behind word.Release inline some m = some m
text_behind word.Assign inline some m = m
text_behind (word.Replace type) inline some m = m
text_behind word.UpdateMac inline some m = m
text_behind word.UpdateSrc inline some m = m

pub good_item : (records : Lines) (p : Parts) (r : Result HoldItem StatementError) → HasParts records p
    → StandsInHoldFile p.word p.inline → IfOk r (λ i. IsItemSaid p.word p.own p.rest (item_of i))
    → IfOk r (λ i. IsGoodItem records (item_of i))
good_item records p (Ok i) known may said = (p, known, may, said.value, said.within)
good_item records p (Err e) known may said = tt

error_of : (records : Lines) (p : Parts) (e : StatementError) → HasParts records p
    → StandsInHoldFile p.word p.inline → IsSaidError p.word p.own p.rest e → IsItemError records e
error_of records p Memory known may f = tt
error_of records p (Fault BadStatementForm) known may f = absurd f
error_of records p (Fault UnknownStatementWord) known may f = absurd f
error_of records p (Fault BadStatementOperand) known may f = (p, known, may, f)
error_of records p (Fault WrongPlace) known may f = absurd f
error_of records p (Fault BadText) known may f = absurd f
error_of records p (Fault OverLimit) known may f = (p, f.0, known, may, f.1, f.2)

pub bad_item : (records : Lines) (p : Parts) (r : Result HoldItem StatementError) → HasParts records p
    → StandsInHoldFile p.word p.inline → IfErr r (IsSaidError p.word p.own p.rest) → IfErr r (IsItemError records)
bad_item records p (Ok i) known may f = tt
bad_item records p (Err e) known may f = error_of records p e known may f

pub may_hold : (w : StatementWord) (inline : Lines) → w ≡ word.Hold → inline ≡ [] → StandsInHoldFile w inline
may_hold w inline is none = subst (λ x. StandsInHoldFile x inline) (sym is) none

pub may_release : (w : StatementWord) (inline : Lines) → w ≡ word.Release → inline ≡ [] → StandsInHoldFile w inline
may_release w inline is none = subst (λ x. StandsInHoldFile x inline) (sym is) none

-- a statement that may not stand there
pub misplaced : (records : Lines) (p : Parts) → HasParts records p → (StandsInHoldFile p.word p.inline → ⊥)
    → IsItemError records (Fault WrongPlace)
misplaced records p known not_there = (p, known, not_there)
