-- The text of an outcome.
use Rattle.std.specs.Prelude.{ℕ, ◌+◌, ◌-◌, ◌/◌, ◌%◌, Bool, true, false, List, [], ◌∷◌, ◌++◌, length, replicate, Option}
use Rattle.std.specs.Prelude.{Some, None, codes, decimal, if◌then◌else◌}
use Rattle.std.specs.List.{flat_map, join_with_byte}
use Rattle.terms.specs.declared.kinds.ZoneKind.{ZoneKind}
use Rattle.terms.specs.declared.kinds.ZoneKind.TheVariants.{Target, Distribution}
use Rattle.terms.specs.Bytes.{newline, blank, comma, digit_zero}
use Rattle.terms.specs.Types.{Text, Id, Entry}
use Rattle.terms.specs.Lookups.{date_of}
use Rattle.terms.specs.Spelling.{word_text, kind_text, hold_text, type_text, statement_code_text, command_code_text}
use Rattle.terms.specs.Spelling.{test_text, need_text}
use Rattle.terms.specs.Spelling.{refusal_text}
use Rattle.machine.specs.Outcome.{Header, Refusal, NoBoundary, NoZone, WrongKind, BadPtfin}
use Rattle.machine.specs.Outcome.{BadHoldFile, Place, OfKind, OfHold, NotReceived, Failure}
use Rattle.machine.specs.Outcome.{Status, Received, Already, RefusedId, Assigned, Unknown, Held, Replaced, Released}
use Rattle.machine.specs.Outcome.{Rejected, Applied, Accepted, Superseded, Failed, Deleted, Missing, NoVer, Restored}
use Rattle.machine.specs.Outcome.{NotApplied, ElementRow, Line, StatusLine, NothingLine, SysmodLine, HoldLine}
use Rattle.machine.specs.Outcome.{EntryLine, ElementLine, TextLine, ErrsysmodLine, Outcome, Ran, Refused, Control}
use Rattle.machine.specs.Outcome.{lines_code}

-- words with one blank between them, and the newline
abbrev pub words_line : List Text → Text
words_line words = join_with_byte blank words ++ newline ∷ []

-- the same with two blanks before
abbrev pub detail_line : List Text → Text
detail_line words = blank ∷ blank ∷ words_line words

-- the text, padded to so many places
abbrev pub left_in : ℕ → Text → Text
left_in n text = text ++ replicate (n - length text) blank

-- the members joined by commas, or -
abbrev pub list_text : List Text → Text
list_text [] = codes "-"
list_text (x ∷ xs) = join_with_byte comma (x ∷ xs)

abbrev pub optional_text : Option Text → Text
optional_text None = codes "-"
optional_text (Some text) = text

abbrev pub header_text : Header → Text
header_text h =
    words_line (word_text h.word ∷ optional_text h.boundary ∷ (if h.check then codes "CHECK" ∷ [] else []))

-- the one line of a refused command
abbrev pub refused_text : Refusal → Text
refused_text NoBoundary = words_line (codes "REFUSED" ∷ codes "Cm1" ∷ [])
refused_text NoZone = words_line (codes "REFUSED" ∷ codes "Cm2" ∷ [])
refused_text WrongKind = words_line (codes "REFUSED" ∷ codes "Cm3" ∷ [])
refused_text (BadPtfin n code) =
    words_line (codes "REFUSED" ∷ codes "Cm4" ∷ codes "RECORD" ∷ decimal n ∷ statement_code_text code ∷ [])
refused_text (BadHoldFile n code) =
    words_line (codes "REFUSED" ∷ codes "Cm5" ∷ codes "RECORD" ∷ decimal n ∷ statement_code_text code ∷ [])

abbrev pub place_text : Place → Text
place_text (OfKind kind) = kind_text kind
place_text (OfHold kind) = hold_text kind
place_text NotReceived = codes "-"

-- the word of a status, and what may follow it
abbrev pub status_word : Status → Text
status_word Received = codes "RECEIVED"
status_word Already = codes "ALREADY"
status_word (RefusedId why) = codes "REFUSED"
status_word (Assigned source) = codes "ASSIGNED"
status_word Unknown = codes "UNKNOWN"
status_word (Held reason) = codes "HELD"
status_word (Replaced reason) = codes "REPLACED"
status_word (Released reason) = codes "RELEASED"
status_word Rejected = codes "REJECTED"
status_word Applied = codes "APPLIED"
status_word Accepted = codes "ACCEPTED"
status_word Superseded = codes "SUPERSEDED"
status_word (Failed why) = codes "FAILED"
status_word Deleted = codes "DELETED"
status_word Missing = codes "MISSING"
status_word NoVer = codes "NOVER"
status_word Restored = codes "RESTORED"
status_word NotApplied = codes "NOTAPPLIED"

abbrev pub status_detail : Status → List Text
status_detail (RefusedId why) = refusal_text why ∷ []
status_detail (Assigned source) = source ∷ []
status_detail (Held reason) = reason ∷ []
status_detail (Replaced reason) = reason ∷ []
status_detail (Released reason) = reason ∷ []
status_detail _ = []

-- the lines after FAILED: tests, needs, causers
abbrev pub failure_text : Failure → Text
failure_text f =
    flat_map (λ t. detail_line (codes "TEST" ∷ test_text t ∷ [])) f.tests
    ++ flat_map (λ n. detail_line (codes "NEED" ∷ need_text n.kind ∷ n.id ∷ [])) f.needs
    ++ flat_map (λ id. detail_line (codes "CAUSER" ∷ id ∷ [])) f.causers

abbrev pub details : Status → Text
details (Failed why) = failure_text why
details _ = []

abbrev pub mark_text : Bool → Text
mark_text true = codes "INTERNAL"
mark_text false = codes "EXTERNAL"

-- the word and date of an applied entry, or -
abbrev pub applied_words : ZoneKind → Option Text → List Text
applied_words kind None = codes "-" ∷ []
applied_words Target (Some date) = codes "APPLIED" ∷ date ∷ []
applied_words Distribution (Some date) = codes "ACCEPTED" ∷ date ∷ []

abbrev pub entry_text : ZoneKind → Entry → Text
entry_text kind e =
    words_line (codes "ENTRY" ∷ e.id ∷ applied_words kind (date_of e)
    ++ codes "SUPBY" ∷ list_text e.supby ∷ codes "DELBY" ∷ optional_text e.delby
    ∷ codes "WAIVED" ∷ list_text e.waived ∷ [])

abbrev pub element_text : ElementRow → Text
element_text e =
    words_line (codes "ELEM" ∷ left_in 5 (type_text e.elem_type) ∷ left_in 8 e.name
    ∷ codes "FMID" ∷ e.fmid ∷ codes "RMID" ∷ e.rmid ∷ codes "UMID" ∷ list_text e.umids
    ∷ codes "DISTLIB" ∷ e.distlib ∷ codes "SYSLIB" ∷ e.syslib ∷ [])

-- the resolvers of a held SYSMOD, or -
abbrev pub resolver_text : List Id → Text
resolver_text [] = detail_line (codes "RESOLVER" ∷ codes "-" ∷ [])
resolver_text (y ∷ ys) = flat_map (λ id. detail_line (codes "RESOLVER" ∷ id ∷ [])) (y ∷ ys)

-- a line with the lines that belong to it
abbrev pub line_text : Line → Text
line_text (StatusLine id place status) =
    words_line (id ∷ left_in 8 (place_text place) ∷ status_word status ∷ status_detail status) ++ details status
line_text NothingLine = words_line (codes "NOTHING" ∷ [])
line_text (SysmodLine id kind sources) =
    words_line (codes "SYSMOD" ∷ id ∷ left_in 8 (kind_text kind) ∷ codes "SOURCEID" ∷ list_text sources ∷ [])
line_text (HoldLine id kind reason internal) =
    words_line (codes "HOLD" ∷ id ∷ left_in 6 (hold_text kind) ∷ reason ∷ mark_text internal ∷ [])
line_text (EntryLine kind entry) = entry_text kind entry
line_text (ElementLine row) = element_text row
line_text (TextLine r) = blank ∷ blank ∷ r ++ newline ∷ []
line_text (ErrsysmodLine id reason resolvers) =
    words_line (codes "ERRSYSMOD" ∷ id ∷ reason ∷ []) ++ resolver_text resolvers

-- RC and two digits
abbrev pub code_text : ℕ → Text
code_text n = words_line (codes "RC" ∷ ((digit_zero + n / 10) ∷ (digit_zero + n % 10) ∷ []) ∷ [])

unfoldable pub text : Outcome → Text
text (Ran h lines) = header_text h ++ flat_map line_text lines ++ code_text (lines_code lines)
text (Refused h why) = header_text h ++ refused_text why ++ code_text 12
text (Control fault) =
    words_line (codes "CONTROL" ∷ codes "RECORD" ∷ decimal fault.number ∷ command_code_text fault.code ∷ [])
