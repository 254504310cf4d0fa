-- A file has one list of items at most, or one fault, and never both.
use Rattle.std.proofs.Common.{◌≡◌, ℕ, true, false, List, [], ◌∷◌, Option, refl, sym, ◌∙◌, ap, subst, inl, inr}
use Rattle.std.proofs.lemmas.Bool.{true≢false}
use Rattle.terms.specs.declared.codes.StatementCode.{StatementCode}
use Rattle.terms.specs.declared.codes.StatementCode.TheVariants.{BadStatementForm, UnknownStatementWord}
use Rattle.terms.specs.declared.codes.StatementCode.TheVariants.{BadStatementOperand}
use Rattle.terms.specs.declared.codes.StatementCode.TheVariants.{WrongPlace, BadText, OverLimit}
use Rattle.terms.specs.Types.{Lines, HoldItem}
use Rattle.terms.specs.Records.{HasRecords, rec_fault_record}
use Rattle.terms.specs.Groups.{Group, TakesGroup, starts_outside}
use Rattle.terms.specs.Words.{TakesWord}
use Rattle.terms.specs.Statements.{statement_text}
use Rattle.terms.specs.Commands.{IsCommandFile, IsCommandFileFault}
use Rattle.terms.specs.Ptfin.{Parts, HasParts, IsUnknown, McsFault, IsPtfin, IsPtfinFault}
use Rattle.terms.specs.HoldFile.{StandsInHoldFile, HasItem, IsWithin, IsGoodItem, IsItemFault, BeginsWithItems}
use Rattle.terms.specs.HoldFile.{IsNextItemFault, IsHoldFile, IsHoldFileFault}
use Rattle.terms.proofs.Exact.{statement_only, fault_no_statement}
use Rattle.terms.proofs.ExactFiles.{records_only, rec_fault_no_records, rec_fault_only, group_only}
use Rattle.terms.proofs.ExactFiles.{begins_inside}
use Rattle.terms.proofs.ExactPtfin.{parts_only, ptfin_only, ptfin_fault_no_items}
use Rattle.terms.proofs.ExactFaults.{ptfin_fault_only}
use Rattle.terms.proofs.ExactHoldFile.{item_fault_no_good, hold_file_only, hold_file_fault_no_items}
use Rattle.terms.proofs.ExactCommandFiles.{file_only, file_fault_only, fault_no_file}
use Rattle.machine_laws.specs.Answers.{IsReadOnce}
use Rattle.terms.proofs.ExactFaults.{faults_same}

-- what is at fault behind a known word
abbrev IsBehind : Parts → StatementCode → Type 0
IsBehind p WrongPlace = ¬ StandsInHoldFile p.word p.inline
IsBehind p BadStatementOperand = StandsInHoldFile p.word p.inline
    × ((item : HoldItem) → ¬ HasItem p.word p.own p.rest item)
IsBehind p OverLimit = (item : HoldItem) × StandsInHoldFile p.word p.inline × HasItem p.word p.own p.rest item
    × (¬ IsWithin item)
IsBehind p _ = ⊥

behind_codes : (p : Parts) (a b : StatementCode) → IsBehind p a → IsBehind p b → a ≡ b
behind_codes p BadStatementForm b f g = absurd f
behind_codes p UnknownStatementWord b f g = absurd f
behind_codes p BadText b f g = absurd f
behind_codes p BadStatementOperand BadStatementForm f g = absurd g
behind_codes p BadStatementOperand UnknownStatementWord f g = absurd g
behind_codes p BadStatementOperand BadStatementOperand f g = refl
behind_codes p BadStatementOperand WrongPlace f g = absurd (g f.0)
behind_codes p BadStatementOperand BadText f g = absurd g
behind_codes p BadStatementOperand OverLimit f g = absurd (f.1 g.0 g.2)
behind_codes p WrongPlace BadStatementForm f g = absurd g
behind_codes p WrongPlace UnknownStatementWord f g = absurd g
behind_codes p WrongPlace BadStatementOperand f g = absurd (f g.0)
behind_codes p WrongPlace WrongPlace f g = refl
behind_codes p WrongPlace BadText f g = absurd g
behind_codes p WrongPlace OverLimit f g = absurd (f g.1)
behind_codes p OverLimit BadStatementForm f g = absurd g
behind_codes p OverLimit UnknownStatementWord f g = absurd g
behind_codes p OverLimit BadStatementOperand f g = absurd (g.1 f.0 f.2)
behind_codes p OverLimit WrongPlace f g = absurd (g f.1)
behind_codes p OverLimit BadText f g = absurd g
behind_codes p OverLimit OverLimit f g = refl

record KnownFault (records : Lines) (code : StatementCode) : Type 0 where
  p : Parts
  known : HasParts records p
  fault : IsBehind p code

known_codes : (records : Lines) (a b : StatementCode) → KnownFault records a → KnownFault records b → a ≡ b
known_codes records a b f g = behind_codes g.p a b
    (subst (λ p. IsBehind p a) (parts_only records f.p g.p f.known g.known) f.fault) g.fault

unknown_known : (records : Lines) (code : StatementCode) → IsUnknown records → KnownFault records code → ⊥
unknown_known records code u f =
    let same = statement_only records f.known.pieces u.pieces f.p.inline u.inline f.known.statement u.statement in
    u.unknown f.p.word f.p.own f.p.rest
    (subst (λ p. TakesWord p (record { word = statement_text f.p.word; list = f.p.own }) f.p.rest) same.0
    f.known.begins)

-- whether a fault is of the form, of the word, or behind a known word
data Judged (records : Lines) : StatementCode → Type 0 where
  OfForm : IsItemFault records BadStatementForm → Judged records BadStatementForm
  OfWord : IsUnknown records → Judged records UnknownStatementWord
  Behind : (code : StatementCode) → KnownFault records code → Judged records code

judged : (records : Lines) (code : StatementCode) → IsItemFault records code → Judged records code
judged records BadStatementForm f = OfForm f
judged records UnknownStatementWord f = OfWord f
judged records BadStatementOperand (p, known, stands, none) =
    Behind BadStatementOperand (record { p = p; known = known; fault = (stands, none) })
judged records WrongPlace (p, known, fault) = Behind WrongPlace (record { p = p; known = known; fault = fault })
judged records BadText f = absurd f
judged records OverLimit (p, item, known, stands, has, over) =
    Behind OverLimit (record { p = p; known = known; fault = (item, stands, has, over) })

judged_codes : (records : Lines) (a b : StatementCode) → Judged records a → Judged records b → a ≡ b
judged_codes records a b (OfForm f) (OfForm g) = refl
judged_codes records a b (OfForm f) (OfWord g) =
    absurd (fault_no_statement records f.0 g.pieces g.inline f.1 g.statement)
judged_codes records a b (OfForm f) (Behind code g) =
    absurd (fault_no_statement records f.0 g.known.pieces g.p.inline f.1 g.known.statement)
judged_codes records a b (OfWord f) (OfForm g) =
    absurd (fault_no_statement records g.0 f.pieces f.inline g.1 f.statement)
judged_codes records a b (OfWord f) (OfWord g) = refl
judged_codes records a b (OfWord f) (Behind code g) = absurd (unknown_known records code f g)
judged_codes records a b (Behind code f) (OfForm g) =
    absurd (fault_no_statement records g.0 f.known.pieces f.p.inline g.1 f.known.statement)
judged_codes records a b (Behind code f) (OfWord g) = absurd (unknown_known records code g f)
judged_codes records a b (Behind code f) (Behind code' g) = known_codes records code code' f g

-- The code of a statement's fault is determined.
item_fault_only : (records : Lines) (a b : StatementCode) → IsItemFault records a → IsItemFault records b → a ≡ b
item_fault_only records a b f g = judged_codes records a b (judged records a f) (judged records b g)

-- what follows at a place is what follows at the same place
at_place : (n m : ℕ) (records rest : Lines) (fault : McsFault) → n ≡ m → records ≡ rest → IsNextItemFault m rest fault
    → IsNextItemFault n records fault
at_place n m records rest fault f g h =
    subst (λ k. IsNextItemFault k records fault) (sym f) (subst (λ r. IsNextItemFault m r fault) (sym g) h)

first_faults : (n : ℕ) (records : Lines) (f g : McsFault) → IsNextItemFault n records f → IsNextItemFault n records g
    → f ≡ g
first_faults n records f g h k =
    let same = group_only n h.1 k.1 records h.2 k.2 h.0 k.0 h.3 k.3 in
    faults_same f g (h.4 ∙ ap (λ (x : Group). x.number) same.0 ∙ sym k.4)
    (item_fault_only k.0.records f.code g.code (subst (λ (x : Group). IsItemFault x.records f.code) same.0 h.5) k.5)

good_first : (n : ℕ) (records : Lines) (fault : McsFault) (g : Group) (next : ℕ) (later : Lines) (item : HoldItem)
    → IsNextItemFault n records fault → TakesGroup n records g next later → IsGoodItem g.records item → ⊥
good_first n records fault g next later item f t good =
    let same = group_only n next f.1 records later f.2 g f.0 t f.3 in
    item_fault_no_good f.0.records fault.code item f.5
    (subst (λ (x : Group). IsGoodItem x.records item) same.0 good)

next_faults : (n : ℕ) (records : Lines) (items : List HoldItem) (m : ℕ) (rest : Lines) (items' : List HoldItem) (m' : ℕ)
    (rest' : Lines) (f g : McsFault) → BeginsWithItems n records items m rest
    → BeginsWithItems n records items' m' rest' → IsNextItemFault m rest f → IsNextItemFault m' rest' g → f ≡ g
next_faults n records [] m rest [] m' rest' f g b b' h k =
    first_faults n records f g (at_place n m records rest f b.0 b.1 h) (at_place n m' records rest' g b'.0 b'.1 k)
next_faults n records [] m rest (i' ∷ items') m' rest' f g b b' h k =
    absurd (good_first n records f b'.0 b'.1 b'.2 i' (at_place n m records rest f b.0 b.1 h) b'.3 b'.4)
next_faults n records (i ∷ items) m rest [] m' rest' f g b b' h k =
    absurd (good_first n records g b.0 b.1 b.2 i (at_place n m' records rest' g b'.0 b'.1 k) b.3 b.4)
next_faults n records (i ∷ items) m rest (i' ∷ items') m' rest' f g b b' h k =
    let same = group_only n b.1 b'.1 records b.2 b'.2 b.0 b'.0 b.3 b'.3 in
    let more = subst (λ k. BeginsWithItems k b'.2 items m rest) same.1
    (subst (λ r. BeginsWithItems b.1 r items m rest) same.2 b.5) in
    next_faults b'.1 b'.2 items m rest items' m' rest' f g more b'.5 h k

inside : (n : ℕ) (records : Lines) (items : List HoldItem) (m : ℕ) (rest : Lines) (fault : McsFault)
    → BeginsWithItems n records items m rest → IsNextItemFault m rest fault → starts_outside records ≡ false
inside n records [] m rest fault b f =
    let at = at_place n m records rest fault b.0 b.1 f in
    begins_inside n at.1 records at.2 at.0 at.3
inside n records (i ∷ items) m rest fault b f = begins_inside n b.1 records b.2 b.0 b.3

outside_excludes : (bytes : List ℕ) (records others : Lines) (items : List HoldItem) (m : ℕ) (rest : Lines)
    (fault : McsFault) → HasRecords bytes records → HasRecords bytes others → starts_outside records ≡ true
    → BeginsWithItems 1 others items m rest → IsNextItemFault m rest fault → ⊥
outside_excludes bytes records others items m rest fault h k out b f =
    true≢false (sym out ∙ ap starts_outside (records_only bytes records others h k)
    ∙ inside 1 others items m rest fault b f)

-- The first fault of a hold file is determined.
pub hold_file_fault_only : (bytes : List ℕ) (f g : McsFault) → IsHoldFileFault bytes f → IsHoldFileFault bytes g
    → f ≡ g
hold_file_fault_only bytes f g (inl (inl h)) (inl (inl k)) =
    faults_same f g (h.3 ∙ ap rec_fault_record (rec_fault_only bytes h.1 k.1 h.2 k.2) ∙ sym k.3) (h.0 ∙ sym k.0)
hold_file_fault_only bytes f g (inl (inl h)) (inl (inr k)) = absurd (rec_fault_no_records bytes h.1 k.2 h.2 k.3)
hold_file_fault_only bytes f g (inl (inl h)) (inr k) = absurd (rec_fault_no_records bytes h.1 k.0 h.2 k.4)
hold_file_fault_only bytes f g (inl (inr h)) (inl (inl k)) = absurd (rec_fault_no_records bytes k.1 h.2 k.2 h.3)
hold_file_fault_only bytes f g (inl (inr h)) (inl (inr k)) = faults_same f g (h.1 ∙ sym k.1) (h.0 ∙ sym k.0)
hold_file_fault_only bytes f g (inl (inr h)) (inr k) =
    absurd (outside_excludes bytes h.2 k.0 k.1 k.2 k.3 g h.3 k.4 h.4 k.5 k.6)
hold_file_fault_only bytes f g (inr h) (inl (inl k)) = absurd (rec_fault_no_records bytes k.1 h.0 k.2 h.4)
hold_file_fault_only bytes f g (inr h) (inl (inr k)) =
    absurd (outside_excludes bytes k.2 h.0 h.1 h.2 h.3 f k.3 h.4 k.4 h.5 h.6)
hold_file_fault_only bytes f g (inr h) (inr k) =
    let same = records_only bytes h.0 k.0 h.4 k.4 in
    next_faults 1 k.0 h.1 h.2 h.3 k.1 k.2 k.3 f g (subst (λ r. BeginsWithItems 1 r h.1 h.2 h.3) same h.5) k.5 h.6 k.6

-- ---- each of the three files

pub ptfin_once : (bytes : List ℕ) → IsReadOnce (IsPtfin bytes) (IsPtfinFault bytes)
ptfin_once bytes = record {
  items = ptfin_only bytes;
  faults = ptfin_fault_only bytes;
  apart = λ items fault is at. ptfin_fault_no_items bytes fault items at is;
}

pub hold_file_once : (bytes : List ℕ) → IsReadOnce (IsHoldFile bytes) (IsHoldFileFault bytes)
hold_file_once bytes = record {
  items = hold_file_only bytes;
  faults = hold_file_fault_only bytes;
  apart = λ items fault is at. hold_file_fault_no_items bytes fault items at is;
}

pub command_file_once : (bytes : List ℕ) → IsReadOnce (IsCommandFile bytes) (IsCommandFileFault bytes)
command_file_once bytes = record {
  items = file_only bytes;
  faults = file_fault_only bytes;
  apart = fault_no_file bytes;
}
