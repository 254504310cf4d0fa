-- What an APPLY or ACCEPT would make of an id, in words: what its line says, and what each failed test and each open
-- need rests on. The words name the facts of the id, the other candidates, and what BYPASS covers.
use Rattle.std.specs.Prelude.{◌&&◌, Bool, true, false, not, List, [], ◌∷◌, ◌++◌, Option, None, Some, codes, decimal}
use Rattle.std.specs.Prelude.{if◌then◌else◌}
use Rattle.std.specs.List.{flat_map}
use Rattle.std.specs.Str.{bytes_eq}
use Rattle.terms.specs.declared.kinds.HoldKind.{HoldKind}
use Rattle.terms.specs.declared.kinds.HoldKind.TheVariants.{System, User}
use Rattle.terms.specs.declared.kinds.ElemType.{ElemType}
use Rattle.terms.specs.declared.codes.Test.{Test}
use Rattle.terms.specs.declared.codes.Test.TheVariants.{HeldBySystem, HeldByUser, ForbiddenByNpre, OwnedByAnother}
use Rattle.terms.specs.declared.codes.Test.TheVariants.{Regression, NothingToUpdate, NotInTarget, SeveralFit}
use Rattle.terms.specs.declared.codes.NeedKind.{NeedKind}
use Rattle.terms.specs.declared.codes.NeedKind.TheVariants.{HoldError}
use Rattle.terms.specs.Types.{Text, Id, Hold, Bypass}
use Rattle.terms.specs.Tests.{is_bypassed_hold}
use Rattle.terms.specs.Needs.{is_bypassed}
use Rattle.terms.specs.Spelling.{hold_text, type_text, need_text, test_text}
use Rattle.machine.specs.Outcome.{Status, Applied, Accepted, Superseded, Failed}
use Rattle.machine.specs.Outcome.{Failure, OpenNeed, Line, StatusLine}
use Rattle.machine.specs.Report.{detail_line, optional_text, list_text, status_word}
use Rattle.report.specs.Facts.{Resolution, Supplied, ByItself, Open, is_over, Maker, ElementLevel, Fact}
use Rattle.report.specs.Facts.{VerFact, RequisiteFact, HoldFact, ElementFact, DeleteFact, NpreFact, ForbiddenFact}
use Rattle.report.specs.WordTexts.{inner_line, named}
use Rattle.why_verdict.specs.declared.conflict.Apart.{Apart}
use Rattle.why_verdict.specs.declared.conflict.Apart.TheVariants.{OtherOwner, Unordered}
use Rattle.why_verdict.specs.declared.conflict.Conflict.{Conflict}
use Rattle.why_verdict.specs.declared.conflict.Conflict.TheVariants.{Deletes, Forbids, ForbiddenBy, Shares}
use Rattle.why_verdict.specs.Conflicts.{by_delete, by_clash}

-- What the words rest on: BYPASS, the facts of the id, its conflicts with other candidates, and the lines of the
-- report.
pub record Basis : Type 0 where
  pub bypass : Bypass
  pub facts : List Fact
  pub conflicts : List Conflict
  pub lines : List Line

-- ---- failed tests

-- what the test looks at: holds of this kind, the owner or the makers of an element, an element to update, DELETE,
-- NPRE, ++VERs, or the related target zone
abbrev pub by_hold : Test → HoldKind → Bool
by_hold HeldBySystem System = true
by_hold HeldByUser User = true
by_hold _ _ = false

abbrev pub by_npre : Test → Bool
by_npre ForbiddenByNpre = true
by_npre _ = false

abbrev pub by_owner : Test → Bool
by_owner OwnedByAnother = true
by_owner _ = false

abbrev pub by_makers : Test → Bool
by_makers Regression = true
by_makers _ = false

abbrev pub by_update : Test → Bool
by_update NothingToUpdate = true
by_update _ = false

abbrev pub by_target : Test → Bool
by_target NotInTarget = true
by_target _ = false

abbrev pub by_vers : Test → Bool
by_vers SeveralFit = true
by_vers _ = false

-- the lines of a hold that BYPASS does not cover, of an element that exists, and of one that does not
abbrev pub hold_reason : Bypass → Test → Hold → Text
hold_reason b t h =
    if by_hold t h.kind && not (is_bypassed_hold b h)
    then inner_line (test_text t ∷ hold_text h.kind ∷ codes "hold" ∷ h.reason ∷ []) else []

abbrev pub element_reason : Test → ElemType → Text → List Text → Text
element_reason t type name words = inner_line (test_text t ∷ type_text type ∷ named name ∷ words)

abbrev pub maker_reason : Test → ElemType → Text → Text → Maker → Text
maker_reason t type name word m =
    if is_over m.relation then []
    else element_reason t type name (word ∷ m.id ∷ codes "is not required or superseded by it" ∷ [])

abbrev pub owner_reason : Test → ElemType → Text → ElementLevel → Text
owner_reason t type name f =
    if f.owned then [] else element_reason t type name (codes "it belongs to" ∷ f.fmid ∷ [])

abbrev pub makers_reason : Test → ElemType → Text → ElementLevel → Text
makers_reason t type name f =
    maker_reason t type name (codes "RMID") f.rmid ++ flat_map (maker_reason t type name (codes "UMID")) f.umids

abbrev pub there_reason : Test → ElemType → Text → ElementLevel → Text
there_reason t type name f =
    if by_owner t then owner_reason t type name f
    else if by_makers t then makers_reason t type name f
    else []

abbrev pub missing_reason : Test → ElemType → Text → Bool → Bool → Text
missing_reason t type name replaces brought =
    if by_update t && not replaces && not brought
    then element_reason t type name (codes "there is none to update" ∷ []) else []

-- the lines of a failed test that rests on this fact
abbrev pub reason : Bypass → Test → Fact → Text
reason b t (VerFact n fmid fit counts) =
    if by_vers t && fit
    then inner_line (test_text t ∷ codes "VER" ∷ decimal n ∷ codes "FMID" ∷ optional_text fmid ∷ codes "fits" ∷ [])
    else []
reason b t (HoldFact h o) = hold_reason b t h
reason b t (ElementFact type name replaces brought (Some f)) = there_reason t type name f
reason b t (ElementFact type name replaces brought None) = missing_reason t type name replaces brought
reason b t (DeleteFact z own) =
    if by_delete t && own then inner_line (test_text t ∷ codes "DELETE" ∷ z ∷ codes "is in its own chain" ∷ []) else []
reason b t (NpreFact y applied) =
    if by_npre t && applied then inner_line (test_text t ∷ codes "NPRE" ∷ y ∷ codes "is applied" ∷ []) else []
reason b t (ForbiddenFact y) =
    if by_npre t then inner_line (test_text t ∷ y ∷ codes "is applied and has it in NPRE" ∷ []) else []
reason b t _ = []

-- the lines of a failed test that rests on this conflict
abbrev pub apart_text : Apart → Text
apart_text OtherOwner = codes "changes it for another function"
apart_text Unordered = codes "changes it too, and neither requires or supersedes the other"

abbrev pub conflict_reason : Test → Conflict → Text
conflict_reason t (Deletes y z) =
    if by_delete t
    then inner_line (test_text t ∷ codes "DELETE" ∷ z ∷ codes "of" ∷ y ∷ codes "is in its chain" ∷ []) else []
conflict_reason t (Forbids y) =
    if by_clash t then inner_line (test_text t ∷ codes "NPRE" ∷ y ∷ codes "is selected too" ∷ []) else []
conflict_reason t (ForbiddenBy y) =
    if by_clash t then inner_line (test_text t ∷ y ∷ codes "is selected too and has it in NPRE" ∷ []) else []
conflict_reason t (Shares s) =
    if by_clash t then element_reason t s.elem_type s.name (s.with ∷ apart_text s.apart ∷ []) else []

-- all lines of a failed test. NotInTarget rests on no fact.
abbrev pub test_told : Basis → Test → Text
test_told a t =
    if by_target t then inner_line (test_text t ∷ codes "no related target zone has applied it" ∷ [])
    else flat_map (reason a.bypass t) a.facts ++ flat_map (conflict_reason t) a.conflicts

-- ---- open needs

-- the answer of the fact to what is needed
abbrev pub answered : NeedKind → Id → Fact → Option Resolution
answered kind z (RequisiteFact r a) =
    if bytes_eq (need_text kind) (need_text r.kind) && bytes_eq z r.id then Some a else None
answered kind z (HoldFact h o) =
    if bytes_eq (need_text kind) (need_text HoldError) && bytes_eq z h.reason then o else None
answered kind z _ = None

abbrev pub or_other : Option Resolution → Option Resolution → Option Resolution
or_other (Some a) other = Some a
or_other None other = other

-- the answer of the first fact that has one
abbrev pub first_answer : NeedKind → Id → List Fact → Option Resolution
first_answer kind z [] = None
first_answer kind z (f ∷ fs) = or_other (answered kind z f) (first_answer kind z fs)

-- the SYSMODs that would supply it, or that supply it until the command deletes them
abbrev pub supply_words : Option Resolution → List Text
supply_words (Some ByItself) = codes "it supplies this itself" ∷ []
supply_words (Some (Open (y ∷ ys))) = list_text (y ∷ ys) ∷ codes "would supply it" ∷ []
supply_words (Some (Open [])) = codes "no SYSMOD that supplies it can be installed" ∷ []
supply_words (Some (Supplied ids)) = codes "another candidate's DELETE takes out" ∷ list_text ids ∷ []
supply_words _ = codes "nothing supplies it" ∷ []

abbrev pub need_line : OpenNeed → List Text → Text
need_line n words = inner_line (codes "NEED" ∷ need_text n.kind ∷ named n.id ∷ words)

-- the line of an open need
abbrev pub need_told : List Fact → OpenNeed → Text
need_told facts n = need_line n (supply_words (first_answer n.kind n.id facts))

-- ---- the verdict

-- the status that it would get; an id that is not a candidate has the word of its line
abbrev pub verdict_word : Status → Text
verdict_word Applied = codes "WOULD BE APPLIED"
verdict_word Accepted = codes "WOULD BE ACCEPTED"
verdict_word Superseded = codes "WOULD BE SUPERSEDED"
verdict_word (Failed why) = codes "WOULD FAIL"
verdict_word status = status_word status

abbrev pub is_candidate : Status → Bool
is_candidate Applied = true
is_candidate Accepted = true
is_candidate Superseded = true
is_candidate (Failed why) = true
is_candidate _ = false

-- ---- other candidates, and what BYPASS covers

-- the line of a candidate that serves what is asked for: y, if this line is about it
abbrev pub supply_by : NeedKind → Id → Id → Line → Text
supply_by kind z y (StatusLine x place status) =
    if bytes_eq y x && is_candidate status
    then inner_line (codes "SUPPLY" ∷ need_text kind ∷ named z ∷ y ∷ verdict_word status ∷ []) else []
supply_by kind z y _ = []

-- of the received SYSMODs that would serve it
abbrev pub supply_of : List Line → NeedKind → Id → Resolution → Text
supply_of lines kind z (Open ids) = flat_map (λ y. flat_map (supply_by kind z y) lines) ids
supply_of lines kind z _ = []

abbrev pub supply_told : List Line → Fact → Text
supply_told lines (RequisiteFact r a) = supply_of lines r.kind r.id a
supply_told lines (HoldFact h (Some a)) = supply_of lines HoldError h.reason a
supply_told lines _ = []

abbrev pub is_lacking : Resolution → Bool
is_lacking (Supplied ids) = false
is_lacking _ = true

-- the line of a requisite that BYPASS covers and that is not supplied, and of a hold that it covers
abbrev pub bypassed_told : Bypass → Fact → Text
bypassed_told b (RequisiteFact r a) =
    if is_bypassed b r.kind && is_lacking a then inner_line (codes "BYPASSED" ∷ need_text r.kind ∷ r.id ∷ []) else []
bypassed_told b (HoldFact h o) =
    if is_bypassed_hold b h
    then inner_line (codes "BYPASSED" ∷ hold_text h.kind ∷ codes "hold" ∷ h.reason ∷ codes "CLASS"
    ∷ optional_text h.class ∷ codes "DATE" ∷ optional_text h.date ∷ codes "COMMENT" ∷ optional_text h.comment ∷ [])
    else []
bypassed_told b _ = []

abbrev pub besides_told : Basis → Status → Text
besides_told a status =
    if is_candidate status
    then flat_map (supply_told a.lines) a.facts ++ flat_map (bypassed_told a.bypass) a.facts else []

-- ---- all of it

-- a causer of a failure, except x itself
abbrev pub causer_told : Id → Id → Text
causer_told x y = if bytes_eq x y then [] else inner_line (codes "CAUSER" ∷ y ∷ [])

abbrev pub failure_told : Id → Basis → Failure → Text
failure_told x a f =
    flat_map (test_told a) f.tests ++ flat_map (need_told a.facts) f.needs ++ flat_map (causer_told x) f.causers

abbrev pub why_told : Id → Basis → Status → Text
why_told x a (Failed why) = failure_told x a why
why_told x a _ = []

abbrev pub status_told : Id → Basis → Status → Text
status_told x a status = detail_line (verdict_word status ∷ []) ++ why_told x a status ++ besides_told a status

-- what a line of APPLY or ACCEPT says about x; the lines of other ids say nothing about it
abbrev pub verdict_told : Id → Basis → Line → Text
verdict_told x a (StatusLine y place status) = if bytes_eq x y then status_told x a status else []
verdict_told x a _ = []

abbrev pub verdict_text : Id → Basis → Text
verdict_text x a = flat_map (verdict_told x a) a.lines
