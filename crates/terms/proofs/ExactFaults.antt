-- The first fault of a PTFIN is determined.
use Rattle.std.proofs.Common.{◌≡◌, ℕ, true, false, List, [], ◌∷◌, Option, refl, sym, ◌∙◌, ap, ap₂, subst, inl, inr}
use Rattle.std.proofs.lemmas.Bool.{true≢false}
use Rattle.terms.specs.declared.codes.StatementCode.{StatementCode}
use Rattle.terms.specs.declared.codes.StatementCode.TheVariants.{BadStatementForm, UnknownStatementWord}
use Rattle.terms.specs.declared.codes.StatementCode.TheVariants.{BadStatementOperand}
use Rattle.terms.specs.declared.codes.StatementCode.TheVariants.{WrongPlace, BadText, OverLimit}
use Rattle.terms.specs.Types.{Lines}
use Rattle.terms.specs.Records.{HasRecords, rec_fault_record}
use Rattle.terms.specs.Groups.{Group, TakesGroup, starts_outside}
use Rattle.terms.specs.Words.{TakesWord}
use Rattle.terms.specs.Statements.{Statement, statement_text}
use Rattle.terms.specs.Ptfin.{Begun, SoFar, sysmod_in, nothing, after, Parts, HasParts, IsUnknown}
use Rattle.terms.specs.Ptfin.{IsWithin, IsFault}
use Rattle.terms.specs.Ptfin.{IsGoodStatement, IsStatementFault, BeginsWithStatements, McsFault, IsNextFault}
use Rattle.terms.specs.Ptfin.{IsPtfinFault}
use Rattle.terms.proofs.Exact.{statement_only, fault_no_statement}
use Rattle.terms.proofs.ExactFiles.{records_only, rec_fault_no_records, rec_fault_only, group_only, begins_inside}
use Rattle.terms.proofs.ExactStatements.{value_only}
use Rattle.terms.proofs.ExactPtfin.{parts_only, good_only, same_step, statement_fault_no_good}

fault_codes : (current : Option Begun) (later : Lines) (p : Parts) (a b : StatementCode) → IsFault current later p a
    → IsFault current later p b → a ≡ b
fault_codes current later p BadStatementForm b f g = absurd f
fault_codes current later p UnknownStatementWord b f g = absurd f
fault_codes current later p BadStatementOperand BadStatementForm f g = absurd g
fault_codes current later p BadStatementOperand UnknownStatementWord f g = absurd g
fault_codes current later p BadStatementOperand BadStatementOperand f g = refl
fault_codes current later p BadStatementOperand WrongPlace f g = absurd (f.0 g.0 g.1)
fault_codes current later p BadStatementOperand BadText f g = absurd (f.1 g.0 g.2)
fault_codes current later p BadStatementOperand OverLimit f g = absurd (f.1 g.0 g.2)
fault_codes current later p WrongPlace BadStatementForm f g = absurd g
fault_codes current later p WrongPlace UnknownStatementWord f g = absurd g
fault_codes current later p WrongPlace BadStatementOperand f g = absurd (g.0 f.0 f.1)
fault_codes current later p WrongPlace WrongPlace f g = refl
fault_codes current later p WrongPlace BadText f g = absurd (g.1 f.0 f.1)
fault_codes current later p WrongPlace OverLimit f g = absurd (g.1 f.0 f.1)
fault_codes current later p BadText BadStatementForm f g = absurd g
fault_codes current later p BadText UnknownStatementWord f g = absurd g
fault_codes current later p BadText BadStatementOperand f g = absurd (g.1 f.0 f.2)
fault_codes current later p BadText WrongPlace f g = absurd (f.1 g.0 g.1)
fault_codes current later p BadText BadText f g = refl
fault_codes current later p BadText OverLimit f g =
    let same = value_only (sysmod_in current) p f.0 g.0 f.2 g.2 in
    absurd (g.3 (subst (λ t. IsWithin current t p.inline) same f.3))
fault_codes current later p OverLimit BadStatementForm f g = absurd g
fault_codes current later p OverLimit UnknownStatementWord f g = absurd g
fault_codes current later p OverLimit BadStatementOperand f g = absurd (g.1 f.0 f.2)
fault_codes current later p OverLimit WrongPlace f g = absurd (f.1 g.0 g.1)
fault_codes current later p OverLimit BadText f g =
    let same = value_only (sysmod_in current) p g.0 f.0 g.2 f.2 in
    absurd (f.3 (subst (λ t. IsWithin current t p.inline) same g.3))
fault_codes current later p OverLimit OverLimit f g = refl

-- a fault behind a known word
record KnownFault (current : Option Begun) (later records : Lines) (code : StatementCode) : Type 0 where
  p : Parts
  known : HasParts records p
  fault : IsFault current later p code

known_codes : (current : Option Begun) (later records : Lines) (a b : StatementCode)
    → KnownFault current later records a
    → KnownFault current later records b → a ≡ b
known_codes current later records a b f g =
    fault_codes current later g.p a b
    (subst (λ p. IsFault current later p a) (parts_only records f.p g.p f.known g.known) f.fault) g.fault

unknown_known : (current : Option Begun) (later records : Lines) (code : StatementCode) → IsUnknown records
    → KnownFault current later records code → ⊥
unknown_known current later records code u f =
    let same = statement_only records f.known.pieces u.pieces f.p.inline u.inline f.known.statement u.statement in
    u.unknown f.p.word f.p.own f.p.rest
    (subst (λ p. TakesWord p (record { word = statement_text f.p.word; list = f.p.own }) f.p.rest) same.0 f.known.begins)

-- whether a fault is of the form, of the word, or behind a known word
data Judged (current : Option Begun) (later records : Lines) : StatementCode → Type 0 where
  OfForm : IsStatementFault current later records BadStatementForm → Judged current later records BadStatementForm
  OfWord : IsUnknown records → Judged current later records UnknownStatementWord
  Behind : (code : StatementCode) → KnownFault current later records code → Judged current later records code

behind : (current : Option Begun) (later records : Lines) (code : StatementCode)
    → (p : Parts) × HasParts records p × IsFault current later p code → Judged current later records code
behind current later records code f = Behind code (record { p = f.0; known = f.1; fault = f.2 })

judged : (current : Option Begun) (later records : Lines) (code : StatementCode)
    → IsStatementFault current later records code
    → Judged current later records code
judged current later records BadStatementForm f = OfForm f
judged current later records UnknownStatementWord f = OfWord f
judged current later records BadStatementOperand f = behind current later records BadStatementOperand f
judged current later records WrongPlace f = behind current later records WrongPlace f
judged current later records BadText f = behind current later records BadText f
judged current later records OverLimit f = behind current later records OverLimit f

judged_codes : (current : Option Begun) (later records : Lines) (a b : StatementCode) → Judged current later records a
    → Judged current later records b → a ≡ b
judged_codes current later records a b (OfForm f) (OfForm g) = refl
judged_codes current later records a b (OfForm f) (OfWord g) =
    absurd (fault_no_statement records f.0 g.pieces g.inline f.1 g.statement)
judged_codes current later records a b (OfForm f) (Behind code g) =
    absurd (fault_no_statement records f.0 g.known.pieces g.p.inline f.1 g.known.statement)
judged_codes current later records a b (OfWord f) (OfForm g) =
    absurd (fault_no_statement records g.0 f.pieces f.inline g.1 f.statement)
judged_codes current later records a b (OfWord f) (OfWord g) = refl
judged_codes current later records a b (OfWord f) (Behind code g) =
    absurd (unknown_known current later records code f g)
judged_codes current later records a b (Behind code f) (OfForm g) =
    absurd (fault_no_statement records g.0 f.known.pieces f.p.inline g.1 f.known.statement)
judged_codes current later records a b (Behind code f) (OfWord g) =
    absurd (unknown_known current later records code g f)
judged_codes current later records a b (Behind code f) (Behind code' g) =
    known_codes current later records code code' f g

-- The code of a statement's fault is determined.
pub statement_fault_only : (current : Option Begun) (later records : Lines) (a b : StatementCode)
    → IsStatementFault current later records a → IsStatementFault current later records b → a ≡ b
statement_fault_only current later records a b f g = judged_codes current later records a b
    (judged current later records a f) (judged current later records b g)

-- faults of one number and code are one
pub faults_same : (f g : McsFault) → f.number ≡ g.number → f.code ≡ g.code → f ≡ g
faults_same f g n c = ap₂ (λ a b. record { number = a; code = b }) n c

-- what follows at a place is what follows at the same place
at_place : (c d : SoFar) (n m : ℕ) (records rest : Lines) (fault : McsFault) → c ≡ d → n ≡ m → records ≡ rest
    → IsNextFault d m rest fault → IsNextFault c n records fault
at_place c d n m records rest fault e f g h =
    subst (λ x. IsNextFault x n records fault) (sym e) (subst (λ k. IsNextFault d k records fault) (sym f)
    (subst (λ r. IsNextFault d m r fault) (sym g) h))

first_faults : (c : SoFar) (n : ℕ) (records : Lines) (f g : McsFault) → IsNextFault c n records f
    → IsNextFault c n records g → f ≡ g
first_faults c n records f g h k =
    let same = group_only n h.1 k.1 records h.2 k.2 h.0 k.0 h.3 k.3 in
    let moved = subst (λ x. IsStatementFault c.current k.2 x.records f.code) same.0
    (subst (λ l. IsStatementFault c.current l h.0.records f.code) same.2 h.5) in
    faults_same f g (h.4 ∙ ap (λ (x : Group). x.number) same.0 ∙ sym k.4)
    (statement_fault_only c.current k.2 k.0.records f.code g.code moved k.5)

good_first : (c : SoFar) (n : ℕ) (records : Lines) (fault : McsFault) (g : Group) (next : ℕ) (later : Lines)
    (s : Statement) → IsNextFault c n records fault → TakesGroup n records g next later
    → IsGoodStatement c.current later g.records s → ⊥
good_first c n records fault g next later s f t good =
    statement_fault_no_good c.current f.2 f.0.records fault.code s f.5
    (same_step c n next f.1 records later f.2 g f.0 s t f.3 good)

next_faults : (c : SoFar) (n : ℕ) (records : Lines) (ss : List Statement) (d : SoFar) (m : ℕ) (rest : Lines)
    (ss' : List Statement) (d' : SoFar) (m' : ℕ) (rest' : Lines) (f g : McsFault)
    → BeginsWithStatements c n records ss d m rest → BeginsWithStatements c n records ss' d' m' rest'
    → IsNextFault d m rest f → IsNextFault d' m' rest' g → f ≡ g
next_faults c n records [] d m rest [] d' m' rest' f g b b' h k =
    first_faults c n records f g (at_place c d n m records rest f b.0 b.1 b.2 h)
    (at_place c d' n m' records rest' g b'.0 b'.1 b'.2 k)
next_faults c n records [] d m rest (s' ∷ ss') d' m' rest' f g b b' h k =
    absurd (good_first c n records f b'.0 b'.1 b'.2 s' (at_place c d n m records rest f b.0 b.1 b.2 h) b'.3 b'.4)
next_faults c n records (s ∷ ss) d m rest [] d' m' rest' f g b b' h k =
    absurd (good_first c n records g b.0 b.1 b.2 s (at_place c d' n m' records rest' g b'.0 b'.1 b'.2 k) b.3 b.4)
next_faults c n records (s ∷ ss) d m rest (s' ∷ ss') d' m' rest' f g b b' h k =
    let same = group_only n b.1 b'.1 records b.2 b'.2 b.0 b'.0 b.3 b'.3 in
    let good = same_step c n b.1 b'.1 records b.2 b'.2 b.0 b'.0 s b.3 b'.3 b.4 in
    let says = good_only c.current b'.2 b'.0.records s s' good b'.4 in
    let more = subst (λ x. BeginsWithStatements (after c x) b.1 b.2 ss d m rest) says b.5 in
    let more' = subst (λ k. BeginsWithStatements (after c s') k b'.2 ss d m rest) same.1
    (subst (λ r. BeginsWithStatements (after c s') b.1 r ss d m rest) same.2 more) in
    next_faults (after c s') b'.1 b'.2 ss d m rest ss' d' m' rest' f g more' b'.5 h k

inside : (c : SoFar) (n : ℕ) (records : Lines) (ss : List Statement) (d : SoFar) (m : ℕ) (rest : Lines)
    (fault : McsFault) → BeginsWithStatements c n records ss d m rest → IsNextFault d m rest fault
    → starts_outside records ≡ false
inside c n records [] d m rest fault b f =
    let at = at_place c d n m records rest fault b.0 b.1 b.2 f in
    begins_inside n at.1 records at.2 at.0 at.3
inside c n records (s ∷ ss) d m rest fault b f = begins_inside n b.1 records b.2 b.0 b.3

outside_excludes : (bytes : List ℕ) (records others : Lines) (ss : List Statement) (d : SoFar) (m : ℕ) (rest : Lines)
    (fault : McsFault) → HasRecords bytes records → HasRecords bytes others → starts_outside records ≡ true
    → BeginsWithStatements nothing 1 others ss d m rest → IsNextFault d m rest fault → ⊥
outside_excludes bytes records others ss d m rest fault h k out b f =
    true≢false (sym out ∙ ap starts_outside (records_only bytes records others h k)
    ∙ inside nothing 1 others ss d m rest fault b f)

-- The first fault of a file is determined.
pub ptfin_fault_only : (bytes : List ℕ) (f g : McsFault) → IsPtfinFault bytes f → IsPtfinFault bytes g → f ≡ g
ptfin_fault_only bytes f g (inl (inl h)) (inl (inl k)) =
    faults_same f g (h.3 ∙ ap rec_fault_record (rec_fault_only bytes h.1 k.1 h.2 k.2) ∙ sym k.3) (h.0 ∙ sym k.0)
ptfin_fault_only bytes f g (inl (inl h)) (inl (inr k)) = absurd (rec_fault_no_records bytes h.1 k.2 h.2 k.3)
ptfin_fault_only bytes f g (inl (inl h)) (inr k) = absurd (rec_fault_no_records bytes h.1 k.0 h.2 k.5)
ptfin_fault_only bytes f g (inl (inr h)) (inl (inl k)) = absurd (rec_fault_no_records bytes k.1 h.2 k.2 h.3)
ptfin_fault_only bytes f g (inl (inr h)) (inl (inr k)) = faults_same f g (h.1 ∙ sym k.1) (h.0 ∙ sym k.0)
ptfin_fault_only bytes f g (inl (inr h)) (inr k) = absurd (outside_excludes bytes h.2 k.0 k.1 k.2 k.3 k.4 g h.3 k.5 h.4
    k.6 k.7)
ptfin_fault_only bytes f g (inr h) (inl (inl k)) = absurd (rec_fault_no_records bytes k.1 h.0 k.2 h.5)
ptfin_fault_only bytes f g (inr h) (inl (inr k)) = absurd (outside_excludes bytes k.2 h.0 h.1 h.2 h.3 h.4 f k.3 h.5 k.4
    h.6 h.7)
ptfin_fault_only bytes f g (inr h) (inr k) =
    let same = records_only bytes h.0 k.0 h.5 k.5 in
    next_faults nothing 1 k.0 h.1 h.2 h.3 h.4 k.1 k.2 k.3 k.4 f g
    (subst (λ r. BeginsWithStatements nothing 1 r h.1 h.2 h.3 h.4) same h.6) k.6 h.7 k.7
