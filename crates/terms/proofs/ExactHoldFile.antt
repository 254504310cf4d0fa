-- No file is both a hold file and at fault, and its items are determined.
use Rattle.std.proofs.Common.{◌≡◌, ℕ, false, List, [], ◌∷◌, Option, refl, sym, ◌∙◌, ap, subst, inl, inr}
use Rattle.std.proofs.lemmas.Bool.{true≢false}
use Rattle.terms.specs.declared.codes.StatementCode.{StatementCode}
use Rattle.terms.specs.declared.codes.StatementCode.TheVariants.{BadStatementForm, UnknownStatementWord}
use Rattle.terms.specs.declared.codes.StatementCode.TheVariants.{BadStatementOperand}
use Rattle.terms.specs.declared.codes.StatementCode.TheVariants.{WrongPlace, BadText, OverLimit}
use Rattle.terms.specs.declared.statement_words.StatementWord.{StatementWord}
use Rattle.terms.specs.Types.{Text, Lines, HoldItem, AHold, ARelease}
use Rattle.terms.specs.Groups.{TakesGroup, starts_outside}
use Rattle.terms.specs.Statement.{Piece}
use Rattle.terms.specs.Words.{TakesWord}
use Rattle.terms.specs.Statements.{statement_text}
use Rattle.terms.specs.HoldStatements.{IsHoldOf, IsReleaseOf}
use Rattle.terms.specs.Ptfin.{Parts, McsFault}
use Rattle.terms.specs.HoldFile.{StandsInHoldFile, HasItem, IsWithin, IsGoodItem, IsItemFault, BeginsWithItems}
use Rattle.terms.specs.HoldFile.{IsHoldFile}
use Rattle.terms.specs.HoldFile.{IsNextItemFault, IsHoldFileFault}
use Rattle.terms.proofs.Exact.{statement_only, fault_no_statement}
use Rattle.terms.proofs.ExactFiles.{records_only, rec_fault_no_records, group_only, no_group, begins_inside}
use Rattle.terms.proofs.ExactHolds.{hold_only, release_only}
use Rattle.terms.proofs.ExactPtfin.{parts_only}
use Rattle.terms.proofs.ExactWords.{words_only}

-- A statement says one item at most.
pub item_only : (w : StatementWord) (own : Option Text) (rest : List Piece) (a b : HoldItem) → HasItem w own rest a
    → HasItem w own rest b → a ≡ b
item_only w own rest (AHold a) (AHold b) h k =
    let words = words_only rest h.0 k.0 h.1 k.1 in
    ap (λ x. AHold x) (hold_only own k.0 a b (subst (λ l. IsHoldOf own l a) words h.2.1) k.2.1 (h.2.2 ∙ sym k.2.2))
item_only w own rest (AHold a) (ARelease b) h k = absurd (cc (h.2.0, k.2.0))
item_only w own rest (ARelease a) (AHold b) h k = absurd (cc (h.2.0, k.2.0))
item_only w own rest (ARelease a) (ARelease b) h k =
    let words = words_only rest h.0 k.0 h.1 k.1 in
    ap (λ x. ARelease x) (release_only own k.0 a b (subst (λ l. IsReleaseOf own l a) words h.2.1) k.2.1)

-- what the parts of a statement say
abbrev HasItemIn : Parts → HoldItem → Type 0
HasItemIn p item = HasItem p.word p.own p.rest item

good_item_only : (records : Lines) (a b : HoldItem) → IsGoodItem records a → IsGoodItem records b → a ≡ b
good_item_only records a b h k =
    let parts = parts_only records h.0 k.0 h.1 k.1 in
    item_only k.0.word k.0.own k.0.rest a b (subst (λ p. HasItemIn p a) parts h.3) k.3

-- No statement is both good and at fault.
pub item_fault_no_good : (records : Lines) (code : StatementCode) (item : HoldItem) → IsItemFault records code
    → IsGoodItem records item → ⊥
item_fault_no_good records BadStatementForm item f g =
    fault_no_statement records f.0 g.1.pieces g.0.inline f.1 g.1.statement
item_fault_no_good records UnknownStatementWord item f g =
    let same = statement_only records g.1.pieces f.pieces g.0.inline f.inline g.1.statement f.statement in
    f.unknown g.0.word g.0.own g.0.rest
    (subst (λ p. TakesWord p (record { word = statement_text g.0.word; list = g.0.own }) g.0.rest) same.0 g.1.begins)
item_fault_no_good records BadStatementOperand item f g =
    f.3 item (subst (λ p. HasItemIn p item) (parts_only records g.0 f.0 g.1 f.1) g.3)
item_fault_no_good records WrongPlace item f g =
    f.2 (subst (λ p. StandsInHoldFile p.word p.inline) (parts_only records g.0 f.0 g.1 f.1) g.2)
item_fault_no_good records BadText item f g = f
item_fault_no_good records OverLimit item f g =
    let parts = parts_only records g.0 f.0 g.1 f.2 in
    let same = item_only f.0.word f.0.own f.0.rest item f.1 (subst (λ p. HasItemIn p item) parts g.3) f.4 in
    f.5 (subst IsWithin same g.4)

no_next : (n : ℕ) (records : Lines) (fault : McsFault) → records ≡ [] → IsNextItemFault n records fault → ⊥
no_next n records fault none f = no_group n f.1 f.2 f.0 (subst (λ r. TakesGroup n r f.0 f.1 f.2) none f.3)

-- Items up to the end of the file leave no place for a fault.
fault_behind : (n : ℕ) (records : Lines) (items : List HoldItem) (m : ℕ) (items' : List HoldItem) (m' : ℕ)
    (rest : Lines) (fault : McsFault) → BeginsWithItems n records items m [] → BeginsWithItems n records items' m' rest
    → IsNextItemFault m' rest fault → ⊥
fault_behind n records [] m [] m' rest fault b b' f = no_next m' rest fault (sym b'.1 ∙ b.1) f
fault_behind n records (i ∷ items) m [] m' rest fault b b' f =
    let takes = subst (λ k. TakesGroup k records f.0 f.1 f.2) (sym b'.0)
    (subst (λ r. TakesGroup m' r f.0 f.1 f.2) (sym b'.1) f.3) in
    let same = group_only n b.1 f.1 records b.2 f.2 b.0 f.0 b.3 takes in
    item_fault_no_good f.0.records fault.code i f.5 (subst (λ x. IsGoodItem x.records i) same.0 b.4)
fault_behind n records [] m (i' ∷ items') m' rest fault b b' f =
    no_group n b'.1 b'.2 b'.0 (subst (λ r. TakesGroup n r b'.0 b'.1 b'.2) b.1 b'.3)
fault_behind n records (i ∷ items) m (i' ∷ items') m' rest fault b b' f =
    let same = group_only n b.1 b'.1 records b.2 b'.2 b.0 b'.0 b.3 b'.3 in
    let more = subst (λ k. BeginsWithItems k b'.2 items m []) same.1
    (subst (λ r. BeginsWithItems b.1 r items m []) same.2 b.5) in
    fault_behind b'.1 b'.2 items m items' m' rest fault more b'.5 f

first_inside : (n : ℕ) (records : Lines) (items : List HoldItem) (m : ℕ) → BeginsWithItems n records items m []
    → starts_outside records ≡ false
first_inside n records [] m b = ap starts_outside b.1
first_inside n records (i ∷ items) m b = begins_inside n b.1 records b.2 b.0 b.3

-- No file is both a hold file and at fault.
pub hold_file_fault_no_items : (bytes : List ℕ) (fault : McsFault) (items : List HoldItem) → IsHoldFileFault bytes fault
    → IsHoldFile bytes items → ⊥
hold_file_fault_no_items bytes fault items (inl (inl f)) p = rec_fault_no_records bytes f.1 p.0 f.2 p.2
hold_file_fault_no_items bytes fault items (inl (inr f)) p =
    let same = records_only bytes p.0 f.2 p.2 f.3 in
    true≢false (sym f.4 ∙ ap starts_outside (sym same) ∙ first_inside 1 p.0 items p.1 p.3)
hold_file_fault_no_items bytes fault items (inr f) p =
    let same = records_only bytes f.0 p.0 f.4 p.2 in
    fault_behind 1 p.0 items p.1 f.1 f.2 f.3 fault p.3 (subst (λ r. BeginsWithItems 1 r f.1 f.2 f.3) same f.5) f.6

items_only : (n : ℕ) (records : Lines) (items : List HoldItem) (m : ℕ) (items' : List HoldItem) (m' : ℕ)
    → BeginsWithItems n records items m [] → BeginsWithItems n records items' m' [] → items ≡ items'
items_only n records [] m [] m' b b' = refl
items_only n records (i ∷ items) m [] m' b b' = absurd (no_group n b.1 b.2 b.0
    (subst (λ r. TakesGroup n r b.0 b.1 b.2) b'.1 b.3))
items_only n records [] m (i' ∷ items') m' b b' = absurd (no_group n b'.1 b'.2 b'.0
    (subst (λ r. TakesGroup n r b'.0 b'.1 b'.2) b.1 b'.3))
items_only n records (i ∷ items) m (i' ∷ items') m' b b' =
    let same = group_only n b.1 b'.1 records b.2 b'.2 b.0 b'.0 b.3 b'.3 in
    let more = subst (λ k. BeginsWithItems k b'.2 items m []) same.1
    (subst (λ r. BeginsWithItems b.1 r items m []) same.2 b.5) in
    let first = good_item_only b'.0.records i i' (subst (λ x. IsGoodItem x.records i) same.0 b.4) b'.4 in
    let others = items_only b'.1 b'.2 items m items' m' more b'.5 in
    cc (first, others)

-- A hold file has one list of items.
pub hold_file_only : (bytes : List ℕ) (a b : List HoldItem) → IsHoldFile bytes a → IsHoldFile bytes b → a ≡ b
hold_file_only bytes a b p q =
    let same = records_only bytes p.0 q.0 p.2 q.2 in
    items_only 1 q.0 a p.1 b q.1 (subst (λ r. BeginsWithItems 1 r a p.1 []) same p.3) q.3
