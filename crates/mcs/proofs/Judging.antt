-- Statements that stand in order, and what is said of them.
use Rattle.std.proofs.Common.{◌≡◌, Bool, false, Option, Some, None, Result, Ok, Err, sym, ◌∙◌, subst}
use Rattle.std.specs.Prelude.{IfOk, IfErr, IsTrue, ◌↔◌}
use Rattle.std.proofs.lemmas.Bool.{true≢false}
use Rattle.terms.specs.declared.codes.StatementCode.TheVariants.{BadStatementForm, UnknownStatementWord}
use Rattle.terms.specs.declared.codes.StatementCode.TheVariants.{BadStatementOperand}
use Rattle.terms.specs.declared.codes.StatementCode.TheVariants.{WrongPlace, BadText, OverLimit}
use Rattle.terms.specs.declared.statement_words.StatementWord.{StatementWord}
use Rattle.terms.specs.declared.statement_words.StatementWord.TheVariants as word
use Rattle.terms.specs.Types.{Lines, Sysmod}
use Rattle.terms.specs.Ptfin.{Begun, Parts, sysmod_in, MayStand, HasParts, IsPlaced, IsMisplaced, Disorder}
use Rattle.terms.specs.Ptfin.{CannotStand, IsGoodStatement}
use Rattle.mcs.specs.declared.said.Statement.{Statement as Read}
use Rattle.mcs.specs.declared.fault.StatementError.{StatementError}
use Rattle.mcs.specs.declared.fault.StatementError.TheVariants.{Memory, Fault}
use Rattle.mcs.specs.Forms.{IsFormError}
use Rattle.mcs.specs.Said.{IsStatementSaid, IsSaidError, IsStatementError}
use Rattle.mcs.specs.Statements.{statement_of}

-- a statement of a known word in order
pub record Stands (current : Option Begun) (later records : Lines) (p : Parts) : Type 0 where
  pub known : HasParts records p
  pub placed : IsPlaced (sysmod_in current) later p

pub stands : (current : Option Begun) (later records : Lines) (p : Parts) (b : Bool) → HasParts records p
    → (IsTrue b ↔ ((why : Disorder) × IsMisplaced (sysmod_in current) later p why)) → b ≡ false
    → Stands current later records p
stands current later records p b known test in_order =
    record { known = known; placed = λ why m. true≢false (sym (test.1 (why, m)) ∙ in_order) }

pub good_statement : (current : Option Begun) (later records : Lines) (p : Parts) (r : Result Read StatementError)
    → Stands current later records p → IfOk r (λ s. IsStatementSaid current p (statement_of s))
    → IfOk r (λ s. IsGoodStatement current later records (statement_of s))
good_statement current later records p (Ok s) at said = (
  p,
  at.known,
  record {
    placed = at.placed;
    value = said.value;
    within = said.within;
    text = said.text;
  },
)
good_statement current later records p (Err e) at said = tt

error_of : (current : Option Begun) (later records : Lines) (p : Parts) (e : StatementError)
    → Stands current later records p → IsSaidError current p e → IsStatementError current later records e
error_of current later records p Memory at f = tt
error_of current later records p (Fault BadStatementForm) at f = absurd f
error_of current later records p (Fault UnknownStatementWord) at f = absurd f
error_of current later records p (Fault BadStatementOperand) at f = (p, at.known, (at.placed, f))
error_of current later records p (Fault WrongPlace) at f = absurd f
error_of current later records p (Fault BadText) at f = (p, at.known, (f.0, at.placed, f.1, f.2, f.3))
error_of current later records p (Fault OverLimit) at f = (p, at.known, (f.0, at.placed, f.1, f.2))

pub bad_statement : (current : Option Begun) (later records : Lines) (p : Parts) (r : Result Read StatementError)
    → Stands current later records p → IfErr r (IsSaidError current p)
    → IfErr r (IsStatementError current later records)
bad_statement current later records p (Ok s) at f = tt
bad_statement current later records p (Err e) at f = error_of current later records p e at f

-- a fault of the statement's form, or of its word
pub form_error : (current : Option Begun) (later records : Lines) (e : StatementError) → IsFormError records e
    → IsStatementError current later records e
form_error current later records Memory f = tt
form_error current later records (Fault BadStatementForm) f = f
form_error current later records (Fault UnknownStatementWord) f = f
form_error current later records (Fault BadStatementOperand) f = absurd f
form_error current later records (Fault WrongPlace) f = absurd f
form_error current later records (Fault BadText) f = absurd f
form_error current later records (Fault OverLimit) f = absurd f

may_not_release : (s : Option Sysmod) → MayStand s word.Release → ⊥
may_not_release None h = h
may_not_release (Some s) h = h

-- ++RELEASE stands nowhere.
pub no_release : (current : Option Begun) (later records : Lines) (p : Parts) → Stands current later records p
    → p.word ≡ word.Release → ⊥
no_release current later records p at is =
    at.placed CannotStand (λ may. may_not_release (sysmod_in current) (subst (MayStand (sysmod_in current)) is may))

-- a word that is known not to be one that may not come first
may_come_first : (w : StatementWord) → ((MayStand None w → ⊥) → ⊥) → MayStand None w
may_come_first (word.Header kind) may = tt
may_come_first word.Assign may = tt
may_come_first w may = absurd (may (λ h. h))

-- If no SYSMOD has begun, a statement in its place is one that may come first.
pub may_begin : (current : Option Begun) (later records : Lines) (p : Parts) → Stands current later records p
    → current ≡ None → MayStand None p.word
may_begin current later records p at outside =
    may_come_first p.word (λ cannot. at.placed CannotStand
    (λ may. cannot (subst (λ c. MayStand (sysmod_in c) p.word) outside may)))
