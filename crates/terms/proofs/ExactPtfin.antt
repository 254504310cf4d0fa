-- No file is both a PTFIN and at fault, and its items are determined.
use Rattle.std.proofs.Common.{◌≡◌, ℕ, false, List, [], ◌∷◌, Option, sym, refl, ◌∙◌, ap, subst, inl, inr}
use Rattle.std.proofs.lemmas.Bool.{true≢false}
use Rattle.terms.specs.declared.codes.StatementCode.{StatementCode}
use Rattle.terms.specs.declared.codes.StatementCode.TheVariants.{BadStatementForm, UnknownStatementWord}
use Rattle.terms.specs.declared.codes.StatementCode.TheVariants.{BadStatementOperand}
use Rattle.terms.specs.declared.codes.StatementCode.TheVariants.{WrongPlace, BadText, OverLimit}
use Rattle.terms.specs.Types.{Lines, Item}
use Rattle.terms.specs.Groups.{Group, TakesGroup, starts_outside}
use Rattle.terms.specs.Words.{TakesWord}
use Rattle.terms.specs.Statements.{Statement, statement_text}
use Rattle.terms.specs.Ptfin.{Begun, SoFar, sysmod_in, nothing, items_of, after, Parts, HasParts, IsGood, IsWithin, these_parts}
use Rattle.terms.specs.Ptfin.{HasValue, HasGoodText}
use Rattle.terms.specs.Ptfin.{IsFault, IsGoodStatement, IsStatementFault, BeginsWithStatements, IsPtfin, McsFault}
use Rattle.terms.specs.Ptfin.{IsNextFault, IsPtfinFault}
use Rattle.terms.proofs.Exact.{statement_only, fault_no_statement}
use Rattle.terms.proofs.ExactFiles.{records_only, rec_fault_no_records, group_only, no_group, begins_inside}
use Rattle.terms.proofs.ExactStatements.{spelled_only, takes_only, value_only}

same_parts : (p q : Parts) → p.word ≡ q.word → p.own ≡ q.own → p.rest ≡ q.rest → p.inline ≡ q.inline → p ≡ q
same_parts p q words owns rests inlines =
    subst (λ i. p ≡ these_parts q.word q.own q.rest i) inlines
    (subst (λ r. p ≡ these_parts q.word q.own r p.inline) rests
    (subst (λ o. p ≡ these_parts q.word o p.rest p.inline) owns
    (subst (λ w. p ≡ these_parts w p.own p.rest p.inline) words refl)))

-- the parts of a statement that begins with a known word are determined
pub parts_only : (records : Lines) (p q : Parts) → HasParts records p → HasParts records q → p ≡ q
parts_only records p q h k =
    let same = statement_only records h.pieces k.pieces p.inline q.inline h.statement k.statement in
    let begins = subst (λ ps. TakesWord ps (record { word = statement_text p.word; list = p.own }) p.rest) same.0
    h.begins in
    let takes = takes_only k.pieces (statement_text p.word) (statement_text q.word) p.own q.own p.rest q.rest begins
    k.begins in
    same_parts p q (spelled_only p.word q.word takes.0) takes.1 takes.2 same.1

pub good_only : (current : Option Begun) (later records : Lines) (s t : Statement)
    → IsGoodStatement current later records s → IsGoodStatement current later records t → s ≡ t
good_only current later records s t h k =
    let parts = parts_only records h.0 k.0 h.1 k.1 in
    value_only (sysmod_in current) k.0 s t (subst (λ p. HasValue (sysmod_in current) p s) parts h.2.value) k.2.value

fault_excludes : (current : Option Begun) (later : Lines) (p : Parts) (code : StatementCode) (s : Statement)
    → IsFault current later p code → IsGood current later p s → ⊥
fault_excludes current later p BadStatementForm s f g = f
fault_excludes current later p UnknownStatementWord s f g = f
fault_excludes current later p BadStatementOperand s f g = f.1 s g.value
fault_excludes current later p WrongPlace s f g = g.placed f.0 f.1
fault_excludes current later p BadText s f g =
    let same = value_only (sysmod_in current) p s f.0 g.value f.2 in
    f.4 (subst HasGoodText same g.text)
fault_excludes current later p OverLimit s f g =
    let same = value_only (sysmod_in current) p s f.0 g.value f.2 in
    f.3 (subst (λ t. IsWithin current t p.inline) same g.within)

known_excludes : (current : Option Begun) (later records : Lines) (code : StatementCode) (s : Statement)
    → ((p : Parts) × HasParts records p × IsFault current later p code)
    → IsGoodStatement current later records s → ⊥
known_excludes current later records code s f g =
    fault_excludes current later f.0 code s f.2
    (subst (λ p. IsGood current later p s) (parts_only records g.0 f.0 g.1 f.1) g.2)

-- No statement is both good and at fault.
pub statement_fault_no_good : (current : Option Begun) (later records : Lines) (code : StatementCode) (s : Statement)
    → IsStatementFault current later records code → IsGoodStatement current later records s → ⊥
statement_fault_no_good current later records BadStatementForm s f g =
    fault_no_statement records f.0 g.1.pieces g.0.inline f.1 g.1.statement
statement_fault_no_good current later records UnknownStatementWord s f g =
    let same = statement_only records g.1.pieces f.pieces g.0.inline f.inline g.1.statement f.statement in
    f.unknown g.0.word g.0.own g.0.rest
    (subst (λ p. TakesWord p (record { word = statement_text g.0.word; list = g.0.own }) g.0.rest) same.0 g.1.begins)
statement_fault_no_good current later records BadStatementOperand s f g =
    known_excludes current later records BadStatementOperand s f g
statement_fault_no_good current later records WrongPlace s f g = known_excludes current later records WrongPlace s f g
statement_fault_no_good current later records BadText s f g = known_excludes current later records BadText s f g
statement_fault_no_good current later records OverLimit s f g = known_excludes current later records OverLimit s f g

-- the first statement of two ways is the same, and so is what follows it
pub same_step : (c : SoFar) (n next next' : ℕ) (records later later' : Lines) (g g' : Group) (s : Statement)
    → TakesGroup n records g next later → TakesGroup n records g' next' later'
    → IsGoodStatement c.current later g.records s → IsGoodStatement c.current later' g'.records s
same_step c n next next' records later later' g g' s t u good =
    let same = group_only n next next' records later later' g g' t u in
    subst (λ x. IsGoodStatement c.current later' x.records s) same.0
    (subst (λ l. IsGoodStatement c.current l g.records s) same.2 good)

no_next : (c : SoFar) (n : ℕ) (records : Lines) (fault : McsFault) → records ≡ [] → IsNextFault c n records fault → ⊥
no_next c n records fault none f = no_group n f.1 f.2 f.0 (subst (λ r. TakesGroup n r f.0 f.1 f.2) none f.3)

-- Statements up to the end of the file leave no place for a fault.
fault_behind : (c : SoFar) (n : ℕ) (records : Lines) (ss : List Statement) (d : SoFar) (m : ℕ) (ss' : List Statement)
    (d' : SoFar) (m' : ℕ) (rest : Lines) (fault : McsFault) → BeginsWithStatements c n records ss d m []
    → BeginsWithStatements c n records ss' d' m' rest → IsNextFault d' m' rest fault → ⊥
fault_behind c n records [] d m [] d' m' rest fault b b' f = no_next d' m' rest fault (sym b'.2 ∙ b.2) f
fault_behind c n records (s ∷ ss) d m [] d' m' rest fault b b' f =
    let takes = subst (λ k. TakesGroup k records f.0 f.1 f.2) (sym b'.1)
    (subst (λ r. TakesGroup m' r f.0 f.1 f.2) (sym b'.2) f.3) in
    let good = same_step c n b.1 f.1 records b.2 f.2 b.0 f.0 s b.3 takes b.4 in
    statement_fault_no_good c.current f.2 f.0.records fault.code s
    (subst (λ x. IsStatementFault x.current f.2 f.0.records fault.code) (sym b'.0) f.5) good
fault_behind c n records [] d m (s' ∷ ss') d' m' rest fault b b' f =
    no_group n b'.1 b'.2 b'.0 (subst (λ r. TakesGroup n r b'.0 b'.1 b'.2) b.2 b'.3)
fault_behind c n records (s ∷ ss) d m (s' ∷ ss') d' m' rest fault b b' f =
    let same = group_only n b.1 b'.1 records b.2 b'.2 b.0 b'.0 b.3 b'.3 in
    let good = same_step c n b.1 b'.1 records b.2 b'.2 b.0 b'.0 s b.3 b'.3 b.4 in
    let says = good_only c.current b'.2 b'.0.records s s' good b'.4 in
    let more = subst (λ x. BeginsWithStatements (after c x) b.1 b.2 ss d m []) says b.5 in
    let more' = subst (λ k. BeginsWithStatements (after c s') k b'.2 ss d m []) same.1
    (subst (λ r. BeginsWithStatements (after c s') b.1 r ss d m []) same.2 more) in
    fault_behind (after c s') b'.1 b'.2 ss d m ss' d' m' rest fault more' b'.5 f

first_inside : (c : SoFar) (n : ℕ) (records : Lines) (ss : List Statement) (d : SoFar) (m : ℕ)
    → BeginsWithStatements c n records ss d m [] → starts_outside records ≡ false
first_inside c n records [] d m b = ap starts_outside b.2
first_inside c n records (s ∷ ss) d m b = begins_inside n b.1 records b.2 b.0 b.3

-- No file is both a PTFIN and at fault.
pub ptfin_fault_no_items : (bytes : List ℕ) (fault : McsFault) (items : List Item) → IsPtfinFault bytes fault
    → IsPtfin bytes items → ⊥
ptfin_fault_no_items bytes fault items (inl (inl f)) p = rec_fault_no_records bytes f.1 p.0 f.2 p.4
ptfin_fault_no_items bytes fault items (inl (inr f)) p =
    let same = records_only bytes p.0 f.2 p.4 f.3 in
    true≢false (sym f.4 ∙ ap starts_outside (sym same) ∙ first_inside nothing 1 p.0 p.1 p.2 p.3 p.5)
ptfin_fault_no_items bytes fault items (inr f) p =
    let same = records_only bytes f.0 p.0 f.5 p.4 in
    fault_behind nothing 1 p.0 p.1 p.2 p.3 f.1 f.2 f.3 f.4 fault p.5
    (subst (λ r. BeginsWithStatements nothing 1 r f.1 f.2 f.3 f.4) same f.6) f.7

made_only : (c : SoFar) (n : ℕ) (records : Lines) (ss : List Statement) (d : SoFar) (m : ℕ) (ss' : List Statement)
    (d' : SoFar) (m' : ℕ) → BeginsWithStatements c n records ss d m [] → BeginsWithStatements c n records ss' d' m' []
    → d ≡ d'
made_only c n records [] d m [] d' m' b b' = sym b.0 ∙ b'.0
made_only c n records (s ∷ ss) d m [] d' m' b b' = absurd (no_group n b.1 b.2 b.0
    (subst (λ r. TakesGroup n r b.0 b.1 b.2) b'.2 b.3))
made_only c n records [] d m (s' ∷ ss') d' m' b b' = absurd (no_group n b'.1 b'.2 b'.0
    (subst (λ r. TakesGroup n r b'.0 b'.1 b'.2) b.2 b'.3))
made_only c n records (s ∷ ss) d m (s' ∷ ss') d' m' b b' =
    let same = group_only n b.1 b'.1 records b.2 b'.2 b.0 b'.0 b.3 b'.3 in
    let good = same_step c n b.1 b'.1 records b.2 b'.2 b.0 b'.0 s b.3 b'.3 b.4 in
    let says = good_only c.current b'.2 b'.0.records s s' good b'.4 in
    let more = subst (λ x. BeginsWithStatements (after c x) b.1 b.2 ss d m []) says b.5 in
    let more' = subst (λ k. BeginsWithStatements (after c s') k b'.2 ss d m []) same.1
    (subst (λ r. BeginsWithStatements (after c s') b.1 r ss d m []) same.2 more) in
    made_only (after c s') b'.1 b'.2 ss d m ss' d' m' more' b'.5

-- A file has one list of items at most.
pub ptfin_only : (bytes : List ℕ) (a b : List Item) → IsPtfin bytes a → IsPtfin bytes b → a ≡ b
ptfin_only bytes a b p q =
    let same = records_only bytes p.0 q.0 p.4 q.4 in
    let made = made_only nothing 1 q.0 p.1 p.2 p.3 q.1 q.2 q.3
    (subst (λ r. BeginsWithStatements nothing 1 r p.1 p.2 p.3 []) same p.5) q.5 in
    p.6 ∙ ap items_of made ∙ sym q.6
