-- What is read from the values in JSON is what was told.
use Rattle.std.proofs.Common.{◌≡◌, List, [], ◌∷◌, Option, Some, None, refl, map}
use Rattle.terms.specs.declared.kinds.Kind.TheVariants.{Function, Ptf, Apar, Usermod}
use Rattle.terms.specs.declared.kinds.HoldKind.TheVariants.{Error, System, User}
use Rattle.terms.specs.declared.codes.CommandWord.{CommandWord}
use Rattle.terms.specs.declared.codes.CommandWord.TheVariants as word
use Rattle.terms.specs.declared.codes.Test.{Test}
use Rattle.terms.specs.declared.codes.Test.TheVariants as test
use Rattle.terms.specs.declared.codes.NeedKind.{NeedKind}
use Rattle.terms.specs.declared.codes.NeedKind.TheVariants as need
use Rattle.terms.specs.declared.codes.IdRefusal.{IdRefusal}
use Rattle.terms.specs.declared.codes.IdRefusal.TheVariants as refused
use Rattle.terms.specs.Types.{Text, Id}
use Rattle.terms.specs.Spelling.{word_text, need_text}
use Rattle.terms.specs.Failures.{all_needs}
use Rattle.machine.specs.Outcome.{Place, OfKind, OfHold, NotReceived, OpenNeed, Status, Received, RefusedId}
use Rattle.machine.specs.Outcome.{Failed, Header, StatusLine, Ran}
use Rattle.machine.specs.Report.{place_text}
use Rattle.report.specs.declared.outcome.ReportLine.{ReportLine}
use Rattle.report.specs.declared.outcome.ReportLine.TheVariants as line
use Rattle.report.specs.Views.{place_view, status_view, line_view}
use Rattle.serde_json.specs.Data.{Data, string}
use Rattle.serde_json.specs.Find.{as_str}
use Rattle.serde_json.specs.View.{items_of}
use Rattle.smpe_json.specs.Values.{each_in, spelled}
use Rattle.smpe_json.specs.Lines.{test_value, need_value, line_value, zone_value, command_value}
use Rattle.smpe_json.specs.Reading.{test_in, need_in, all_places, all_words, line_in, zone_in, command_in}
use Rattle.smpe_json.specs.Laws.{DocumentTells}

-- an array is read as the list whose values it has
each_read : {X : Type 0} (value : X → Data) (read : Data → Option X) → ((x : X) → read (value x) ≡ Some x)
    → (xs : List X) → each_in read (items_of (map value xs)) ≡ Some xs
each_read value read back [] = refl
each_read value read back (x ∷ xs) = rw (back x, each_read value read back xs) refl

test_read : (t : Test) → test_in (test_value t) ≡ Some t
test_read test.HeldBySystem = refl
test_read test.HeldByUser = refl
test_read test.ForbiddenByNpre = refl
test_read test.OwnedByAnother = refl
test_read test.Regression = refl
test_read test.NothingToUpdate = refl
test_read test.NotInTarget = refl
test_read test.ChainDeleted = refl
test_read test.InClash = refl
test_read test.AlreadyAccepted = refl
test_read test.HasDelete = refl
test_read test.OtherLevel = refl
test_read test.SeveralFit = refl

need_spelled : (kind : NeedKind) → spelled need_text all_needs (need_text kind) ≡ Some kind
need_spelled need.Fmid = refl
need_spelled need.Pre = refl
need_spelled need.Req = refl
need_spelled need.Ifreq = refl
need_spelled need.HoldError = refl
need_spelled need.Orphan = refl
need_spelled need.Elem = refl
need_spelled need.Dep = refl

need_read : (n : OpenNeed) → need_in (need_value n) ≡ Some n
need_read n = rw (need_spelled n.kind) refl

id_read : (id : Id) → as_str (string id) ≡ Some id
id_read id = refl

place_spelled : (place : Place) → spelled place_text all_places (place_text place) ≡ Some place
place_spelled (OfKind Function) = refl
place_spelled (OfKind Ptf) = refl
place_spelled (OfKind Apar) = refl
place_spelled (OfKind Usermod) = refl
place_spelled (OfHold Error) = refl
place_spelled (OfHold System) = refl
place_spelled (OfHold User) = refl
place_spelled NotReceived = refl

word_spelled : (w : CommandWord) → spelled word_text all_words (word_text w) ≡ Some w
word_spelled word.Set = refl
word_spelled word.Receive = refl
word_spelled word.Reject = refl
word_spelled word.Apply = refl
word_spelled word.Accept = refl
word_spelled word.Restore = refl
word_spelled word.List = refl
word_spelled word.Report = refl

refused_read : (id : Id) (place : Place) (why : IdRefusal)
    → line_in (line_value (StatusLine id place (RefusedId why))) ≡ Some (StatusLine id place (RefusedId why))
refused_read id place refused.MakesLoop = rw (place_spelled place) refl
refused_read id place why = rw (place_spelled place) refl

status_read : (id : Id) (place : Place) (status : Status)
    → line_in (line_value (StatusLine id place status)) ≡ Some (StatusLine id place status)
status_read id place (Failed why) =
    rw (
      each_read test_value test_in test_read why.tests,
      each_read need_value need_in need_read why.needs,
      each_read string as_str id_read why.causers,
      place_spelled place,
    ) refl
status_read id place (RefusedId why) = refused_read id place why
status_read id place Received = rw (place_spelled place) refl
status_read id place status = rw (place_spelled place) refl

line_read : (l : ReportLine) → line_in (line_value (line_view l)) ≡ Some (line_view l)
line_read (line.Status id place status) = status_read id (place_view place) (status_view status)
line_read line.Nothing = refl
line_read (line.Errsysmod id reason resolvers) = rw (each_read string as_str id_read resolvers.items) refl

lines_read : (ls : List ReportLine)
    → each_in line_in (items_of (map line_value (map line_view ls))) ≡ Some (map line_view ls)
lines_read [] = refl
lines_read (l ∷ ls) = rw (line_read l, lines_read ls) refl

zone_read : (zone : Option Text) → zone_in (zone_value zone) ≡ Some zone
zone_read None = refl
zone_read (Some zone) = refl

command_read : (h : Header) (ls : List ReportLine)
    → command_in (command_value h (map line_view ls)) ≡ Some (Ran h (map line_view ls))
command_read h ls = rw (lines_read ls, word_spelled h.word, zone_read h.boundary) refl

pub document_tells : DocumentTells
document_tells h [] summary remarks status = rw (command_read h (line.Nothing ∷ [])) refl
document_tells h (l ∷ ls) summary remarks status = rw (command_read h (l ∷ ls)) refl
