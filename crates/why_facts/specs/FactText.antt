-- The text of facts, and the status of an answer.
use Rattle.std.specs.Prelude.{ℕ, Bool, true, false, List, [], ◌∷◌, ◌++◌, Option, None, Some, codes, decimal, max}
use Rattle.std.specs.List.{flat_map}
use Rattle.terms.specs.declared.kinds.Kind.{Kind}
use Rattle.terms.specs.Types.{Text, Id, Hold}
use Rattle.terms.specs.Spelling.{kind_text, hold_text, type_text, need_text}
use Rattle.report.specs.Facts.{Standing, StandsApplied, StandsSuperseded, StandsDeleted, StandsReceived, StandsMissing}
use Rattle.report.specs.Facts.{Requisite, Resolution, Supplied, Waived, ByItself, Open, Relation, Itself, Over, NotOver}
use Rattle.report.specs.Facts.{Maker, ElementLevel, Fact}
use Rattle.report.specs.Facts.{StandingFact, SupersederFact, EntryFact, VerFact, RequisiteFact, HoldFact, ElementFact, DeleteFact}
use Rattle.report.specs.Facts.{TakesFact, NpreFact, ForbiddenFact, NeededFact}
use Rattle.report.specs.Views.{applied_word}
use Rattle.report.specs.WordTexts.{inner_line}
use Rattle.machine.specs.Report.{words_line, detail_line, left_in, optional_text, mark_text, entry_text}

-- the word if it is so, otherwise -
abbrev pub word_if : Bool → Text → Text
word_if true word = word
word_if false word = codes "-"

abbrev pub type_word : Option Kind → Text
type_word None = codes "-"
type_word (Some kind) = kind_text kind

abbrev pub standing_word : Standing → Text
standing_word (StandsApplied kind) = applied_word kind
standing_word StandsSuperseded = codes "SUPERSEDED"
standing_word StandsDeleted = codes "DELETED"
standing_word StandsReceived = codes "RECEIVED"
standing_word StandsMissing = codes "MISSING"

-- the word of an answer
abbrev pub answer_word : Resolution → Text
answer_word (Supplied ids) = codes "SUPPLIED"
answer_word Waived = codes "WAIVED"
answer_word ByItself = codes "ITSELF"
answer_word (Open ids) = codes "OPEN"

-- an id on each line; for no id one line with -
abbrev pub id_lines : Text → List Id → Text
id_lines word [] = inner_line (word ∷ codes "-" ∷ [])
id_lines word (x ∷ xs) = flat_map (λ id. inner_line (word ∷ id ∷ [])) (x ∷ xs)

-- the SYSMODs that supply it, or that would serve it
abbrev pub answer_lines : Resolution → Text
answer_lines (Supplied ids) = id_lines (codes "SUPPLIER") ids
answer_lines Waived = []
answer_lines ByItself = []
answer_lines (Open ids) = id_lines (codes "CANDIDATE") ids

-- the function of an ++IF, and the SYSMOD that states it
abbrev pub condition_words : Option Id → Id → List Text
condition_words None by = []
condition_words (Some f) by = codes "FMID" ∷ f ∷ codes "BY" ∷ by ∷ []

abbrev pub requisite_text : Requisite → Resolution → Text
requisite_text r a =
    detail_line (need_text r.kind ∷ r.id ∷ condition_words r.function r.by ++ answer_word a ∷ []) ++ answer_lines a

abbrev pub resolution_words : Option Resolution → List Text
resolution_words None = []
resolution_words (Some a) = answer_word a ∷ []

abbrev pub resolution_lines : Option Resolution → Text
resolution_lines None = []
resolution_lines (Some a) = answer_lines a

abbrev pub comment_line : Option Text → Text
comment_line None = []
comment_line (Some text) = inner_line (codes "COMMENT" ∷ text ∷ [])

abbrev pub hold_lines : Hold → Option Resolution → Text
hold_lines h o =
    detail_line (codes "HOLD" ∷ left_in 6 (hold_text h.kind) ∷ h.reason ∷ mark_text h.internal
    ∷ codes "CLASS" ∷ optional_text h.class ∷ codes "DATE" ∷ optional_text h.date ∷ resolution_words o)
    ++ comment_line h.comment ++ resolution_lines o

abbrev pub relation_word : Relation → Text
relation_word Itself = codes "ITSELF"
relation_word Over = codes "OVER"
relation_word NotOver = codes "NOTOVER"

abbrev pub owned_text : Bool → Text
owned_text true = codes "OWNED"
owned_text false = codes "NOTOWNED"

abbrev pub maker_line : Text → Maker → Text
maker_line word m = inner_line (word ∷ m.id ∷ relation_word m.relation ∷ [])

-- what the zone has of an element, or - if it has none
abbrev pub level_words : Option ElementLevel → List Text
level_words None = codes "-" ∷ []
level_words (Some f) = f.fmid ∷ owned_text f.owned ∷ []

abbrev pub level_lines : Option ElementLevel → Text
level_lines None = []
level_lines (Some f) = maker_line (codes "RMID") f.rmid ++ flat_map (maker_line (codes "UMID")) f.umids

abbrev pub change_text : Bool → Text
change_text true = codes "REPLACES"
change_text false = codes "UPDATES"

-- the lines of a fact
abbrev pub fact_text : Fact → Text
fact_text (StandingFact x kind s) = words_line (x ∷ left_in 8 (type_word kind) ∷ standing_word s ∷ [])
fact_text (SupersederFact y) = detail_line (codes "SUPBY" ∷ y ∷ codes "RECEIVED" ∷ [])
fact_text (EntryFact kind e) = 32 ∷ 32 ∷ entry_text kind e
fact_text (VerFact n fmid fit counts) =
    detail_line (codes "VER" ∷ decimal n ∷ codes "FMID" ∷ optional_text fmid ∷ word_if fit (codes "FITS")
    ∷ word_if counts (codes "COUNTS") ∷ [])
fact_text (RequisiteFact r a) = requisite_text r a
fact_text (HoldFact h o) = hold_lines h o
fact_text (ElementFact type name replaces brought f) =
    detail_line (codes "ELEM" ∷ left_in 5 (type_text type) ∷ left_in 8 name ∷ change_text replaces ∷ codes "FMID"
    ∷ level_words f) ++ level_lines f
fact_text (DeleteFact z own) = detail_line (codes "DELETE" ∷ z ∷ word_if own (codes "CHAIN") ∷ [])
fact_text (TakesFact y) = detail_line (codes "TAKES" ∷ y ∷ [])
fact_text (NpreFact y applied) = detail_line (codes "NPRE" ∷ y ∷ word_if applied (codes "APPLIED") ∷ [])
fact_text (ForbiddenFact y) = detail_line (codes "FORBIDDEN" ∷ y ∷ [])
fact_text (NeededFact y) = detail_line (codes "NEEDED" ∷ y ∷ [])

-- the text of an answer
abbrev pub facts_text : List Fact → Text
facts_text facts = flat_map fact_text facts

-- 4 for an unknown id
abbrev pub fact_code : Fact → ℕ
fact_code (StandingFact x kind StandsMissing) = 4
fact_code _ = 0

-- the status of an answer: the greatest of its facts'
abbrev pub facts_code : List Fact → ℕ
facts_code [] = 0
facts_code (f ∷ fs) = max (fact_code f) (facts_code fs)
