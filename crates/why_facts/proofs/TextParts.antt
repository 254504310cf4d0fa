-- Texts of facts, as the lines that are put one behind the other.
use Rattle.std.proofs.Common.{◌≡◌, ◌∙◌, ◌<◌, ◌+◌, ℕ, Bool, true, false, List, [], ◌∷◌, ◌++◌, None, Some, length, map}
use Rattle.std.proofs.Common.{drop, get_or, refl, sym, ap, arith, append_assoc, add-one, drop-cons}
use Rattle.std.specs.Prelude.{codes, max, if◌then◌else◌}
use Rattle.std.specs.List.{flat_map}
use Rattle.std.proofs.lemmas.List.{append-nil}
use Rattle.terms.specs.declared.kinds.ElemType.{ElemType}
use Rattle.terms.specs.Types.{Hold}
use Rattle.terms.specs.Spelling.{need_text, hold_text, type_text}
use Rattle.machine.specs.Report.{words_line, left_in, optional_text}
use Rattle.report.specs.Facts.{Requisite, Resolution, ElementLevel, RequisiteFact, HoldFact, ElementFact}
use Rattle.report.specs.FactViews.{fact_view}
use Rattle.report.specs.WordTexts.{inner_line}
use Rattle.report.specs.declared.fact.Fact.{Fact}
use Rattle.report.proofs.Listings.{mark_is}
use Rattle.report.proofs.Texts.{max_parts}
use Rattle.why_facts.specs.FactText.{id_lines, answer_word, answer_lines, owned_text, change_text, word_if}
use Rattle.why_facts.specs.FactText.{maker_line, comment_line, fact_text, fact_code, facts_code}

-- the lines of no ids, and of some
pub id_lines_none : (word : List ℕ) (xs : List (List ℕ)) → length xs ≡ 0
    → inner_line (word ∷ codes "-" ∷ []) ≡ id_lines word xs
id_lines_none word [] none = refl
id_lines_none word (x ∷ xs) none = absurd (omega (arith, none))

pub id_lines_some : (word : List ℕ) (xs : List (List ℕ)) → 0 < length xs
    → flat_map (λ id. inner_line (word ∷ id ∷ [])) xs ≡ id_lines word xs
id_lines_some word [] some = absurd (omega (arith, some))
id_lines_some word (x ∷ xs) some = refl

-- words that tell whether something is so
pub flag_is : (b : Bool) (word : List ℕ) → (if b then word else codes "-") ≡ word_if b word
flag_is true word = refl
flag_is false word = refl

owned_is : (b : Bool) → (if b then codes "OWNED" else codes "NOTOWNED") ≡ owned_text b
owned_is true = refl
owned_is false = refl

change_is : (b : Bool) → (if b then codes "REPLACES" else codes "UPDATES") ≡ change_text b
change_is true = refl
change_is false = refl

-- lines behind others
lines_behind : (old line lines : List ℕ) {t : List ℕ} → t ≡ old ++ line → t ++ lines ≡ old ++ (line ++ lines)
lines_behind old line lines is = ap (λ t. t ++ lines) is ∙ append_assoc old line lines

-- something that is asked for by an ++IF, or otherwise
pub requisite_by_if : (r : Requisite) (a : Resolution) (f old : List ℕ) {kind id fmid by answered t : List ℕ}
    → r.function ≡ Some f → kind ≡ need_text r.kind → id ≡ r.id → fmid ≡ f → by ≡ r.by → answered ≡ answer_word a
    → t ≡ old ++ words_line (codes " " ∷ kind ∷ id ∷ codes "FMID" ∷ fmid ∷ codes "BY" ∷ by ∷ answered ∷ [])
    → t ++ answer_lines a ≡ old ++ fact_text (RequisiteFact r a)
requisite_by_if r a f old is kind id fmid by answered put =
    lines_behind old _ (answer_lines a) put ∙ rw (is, kind, id, fmid, by, answered) refl

pub requisite_by_itself : (r : Requisite) (a : Resolution) (old : List ℕ) {kind id answered t : List ℕ}
    → r.function ≡ None → kind ≡ need_text r.kind → id ≡ r.id → answered ≡ answer_word a
    → t ≡ old ++ words_line (codes " " ∷ kind ∷ id ∷ answered ∷ [])
    → t ++ answer_lines a ≡ old ++ fact_text (RequisiteFact r a)
requisite_by_itself r a old is kind id answered put =
    lines_behind old _ (answer_lines a) put ∙ rw (is, kind, id, answered) refl

-- a hold whose reason has an answer, or none
pub hold_answered : (h : Hold) (a : Resolution) (old : List ℕ) {kind reason class date answered t1 t2 : List ℕ}
    → kind ≡ hold_text h.kind → reason ≡ h.reason → class ≡ optional_text h.class → date ≡ optional_text h.date
    → answered ≡ answer_word a
    → t1 ≡ old ++ words_line (codes "  HOLD" ∷ left_in 6 kind ∷ reason
    ∷ (if h.internal then codes "INTERNAL" else codes "EXTERNAL") ∷ codes "CLASS" ∷ class ∷ codes "DATE" ∷ date
    ∷ answered ∷ [])
    → t2 ≡ t1 ++ comment_line h.comment
    → t2 ++ answer_lines a ≡ old ++ fact_text (HoldFact h (Some a))
hold_answered h a old kind reason class date answered put more =
    lines_behind old _ (answer_lines a) (more ∙ lines_behind old _ (comment_line h.comment) put)
    ∙ rw (kind, reason, class, date, answered, mark_is h.internal) refl

pub hold_unanswered : (h : Hold) (old : List ℕ) {kind reason class date t : List ℕ}
    → kind ≡ hold_text h.kind → reason ≡ h.reason → class ≡ optional_text h.class → date ≡ optional_text h.date
    → t ≡ old ++ words_line (codes "  HOLD" ∷ left_in 6 kind ∷ reason
    ∷ (if h.internal then codes "INTERNAL" else codes "EXTERNAL") ∷ codes "CLASS" ∷ class ∷ codes "DATE" ∷ date ∷ [])
    → t ++ comment_line h.comment ≡ old ++ fact_text (HoldFact h None)
hold_unanswered h old kind reason class date put =
    lines_behind old _ (comment_line h.comment) put
    ∙ rw (kind, reason, class, date, mark_is h.internal) (ap (λ t. old ++ t) (sym (append-nil _)))

-- an element that the zone has, or has not
pub element_there : (type : ElemType) (name : List ℕ) (replaces brought : Bool) (f : ElementLevel) (old : List ℕ)
    {spelled text fmid t1 t2 : List ℕ} → spelled ≡ type_text type → text ≡ name → fmid ≡ f.fmid
    → t1 ≡ old ++ words_line (codes "  ELEM" ∷ left_in 5 spelled ∷ left_in 8 text
    ∷ (if replaces then codes "REPLACES" else codes "UPDATES") ∷ codes "FMID" ∷ fmid
    ∷ (if f.owned then codes "OWNED" else codes "NOTOWNED") ∷ [])
    → t2 ≡ t1 ++ maker_line (codes "RMID") f.rmid
    → t2 ++ flat_map (maker_line (codes "UMID")) f.umids
    ≡ old ++ fact_text (ElementFact type name replaces brought (Some f))
element_there type name replaces brought f old spelled text fmid put more =
    let rmid : List ℕ = maker_line (codes "RMID") f.rmid in
    let umids : List ℕ = flat_map (maker_line (codes "UMID")) f.umids in
    ap (λ t. t ++ umids) more ∙ append_assoc _ rmid umids ∙ lines_behind old _ (rmid ++ umids) put
    ∙ rw (spelled, text, fmid, change_is replaces, owned_is f.owned) refl

pub element_missing : (type : ElemType) (name : List ℕ) (replaces brought : Bool) (old : List ℕ)
    {spelled text t : List ℕ}
    → spelled ≡ type_text type → text ≡ name
    → t ≡ old ++ words_line (codes "  ELEM" ∷ left_in 5 spelled ∷ left_in 8 text
    ∷ (if replaces then codes "REPLACES" else codes "UPDATES") ∷ codes "FMID" ∷ codes "-" ∷ [])
    → t ≡ old ++ fact_text (ElementFact type name replaces brought None)
element_missing type name replaces brought old spelled text put =
    put ∙ rw (spelled, text, change_is replaces) (ap (λ t. old ++ t) (sym (append-nil _)))

-- the code of one fact more
pub codes_more : (facts : List Fact) (i : ℕ) (d : Fact) (code : ℕ) → i < length facts
    → max (max code (fact_code (fact_view (get_or facts i d)))) (facts_code (map fact_view (drop (i + 1) facts)))
    ≡ max code (facts_code (map fact_view (drop i facts)))
codes_more facts i d code below =
    max_parts code (fact_code (fact_view (get_or facts i d))) (facts_code (map fact_view (drop (i + 1) facts)))
    ∙ sym (ap (λ fs. max code (facts_code (map fact_view fs)))
    (drop-cons facts i d below ∙ ap (λ k. get_or facts i d ∷ drop k facts) (sym (add-one i))))
