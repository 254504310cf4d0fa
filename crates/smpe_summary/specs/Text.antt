-- The text of a summary.
use Rattle.std.specs.Prelude.{◌-◌, ◌==◌, ◌||◌, Bool, true, false, not, ℕ, min, nat_le, List, [], ◌∷◌, ◌++◌, Option}
use Rattle.std.specs.Prelude.{None, Some, codes, count_by, decimal, filter, length, map, take, if◌then◌else◌}
use Rattle.std.specs.List.{concat, dedup, flat_map, list_all, list_any}
use Rattle.std.specs.Str.{bytes_eq}
use Rattle.terms.specs.declared.kinds.HoldKind.{HoldKind}
use Rattle.terms.specs.declared.kinds.HoldKind.TheVariants.{Error, System, User}
use Rattle.terms.specs.declared.kinds.ZoneKind.{ZoneKind}
use Rattle.terms.specs.declared.kinds.ZoneKind.TheVariants.{Target, Distribution}
use Rattle.terms.specs.declared.codes.NeedKind.{NeedKind}
use Rattle.terms.specs.declared.codes.Test.{Test}
use Rattle.terms.specs.declared.codes.Test.TheVariants as test
use Rattle.terms.specs.Types.{Text, Id, Reason}
use Rattle.terms.specs.Lookups.{is_nil}
use Rattle.terms.specs.Spelling.{hold_text, need_text, test_text}
use Rattle.smpe_summary.specs.declared.values.Group.{Group}
use Rattle.smpe_summary.specs.declared.values.Group.TheVariants as group
use Rattle.smpe_summary.specs.declared.values.Member.{Member}
use Rattle.smpe_summary.specs.declared.values.ToDo.{ToDo}
use Rattle.smpe_summary.specs.declared.values.ToDo.TheVariants as todo
use Rattle.smpe_summary.specs.declared.values.Summary.{Summary}
use Rattle.smpe_summary.specs.declared.pieces.Piece.{Piece}
use Rattle.smpe_summary.specs.declared.pieces.Piece.TheVariants as piece
use Rattle.smpe_summary.specs.Groups.{functions_of}
use Rattle.smpe_summary.specs.Causes.{Why, HoldWhy, NeedWhy, TestWhy, UnknownWhy, Cause}
use Rattle.smpe_summary.specs.Todo.{is_error_hold, TakenOff}
use Rattle.smpe_summary.specs.Views.{cause_view, taken_view}

-- ---- pieces

-- the ids, with a comma between them
abbrev pub ids_text : List Id → Text
ids_text [] = []
ids_text (x ∷ xs) = x ++ flat_map (λ y. codes ", " ++ y) xs

-- how many more there are than are told
abbrev pub more_text : ℕ → ℕ → Text
more_text most n = if nat_le n most then [] else codes " and " ++ decimal (n - most) ++ codes " more"

-- the first three ids, and how many more there are
abbrev pub some_ids : List Id → Text
some_ids xs = ids_text (take 3 xs) ++ more_text 3 (length xs)

-- a number and a noun, whose plural ends in s
abbrev pub counted : ℕ → Text → Text
counted n noun = decimal n ++ codes " " ++ noun ++ (if n == 1 then [] else codes "s")

abbrev pub piece_text : Piece → Text
piece_text (piece.Text text) = text.now
piece_text (piece.Number n) = decimal n
piece_text (piece.Counted n noun) = counted n noun.now
piece_text (piece.Ids ids) = some_ids ids.now

abbrev pub pieces_text : List Piece → Text
pieces_text pieces = flat_map piece_text pieces

-- ---- why a causer fails

abbrev pub comment_text : Option Text → Text
comment_text None = []
comment_text (Some comment) = codes ": " ++ comment

abbrev pub hold_words : HoldKind → Reason → Option Text → Text
hold_words kind reason comment = hold_text kind ++ codes " hold " ++ reason ++ comment_text comment

abbrev pub error_words : Id → Text
error_words z = concat (codes "ERROR hold " ∷ z ∷ codes ": nothing that resolves it goes on" ∷ [])

abbrev pub open_words : NeedKind → Id → Text
open_words kind z = concat (need_text kind ∷ codes " " ∷ z ∷ codes " is not received" ∷ [])

abbrev pub need_words : NeedKind → Id → Text
need_words kind z = if is_error_hold kind then error_words z else open_words kind z

abbrev pub test_words : Test → Text
test_words test.HeldBySystem = codes "SYSTEM hold"
test_words test.HeldByUser = codes "USER hold"
test_words test.ForbiddenByNpre = codes "its NPRE or that of an applied function forbids it"
test_words test.OwnedByAnother = codes "one of its elements belongs to another function"
test_words test.Regression = codes "it would regress an element"
test_words test.NothingToUpdate = codes "an element that it updates is not there"
test_words test.NotInTarget = codes "it is not applied in the target zone"
test_words test.ChainDeleted = codes "the DELETE of another SYSMOD takes off its function"
test_words test.InClash = codes "it clashes with another SYSMOD"
test_words test.AlreadyAccepted = codes "it is accepted"
test_words test.HasDelete = codes "it deletes a function"
test_words test.OtherLevel = codes "the distribution zone has another level of an element"
test_words test.SeveralFit = codes "several of its ++VERs fit"

abbrev pub cause_text : Why → Text
cause_text (HoldWhy kind reason comment) = hold_words kind reason comment
cause_text (NeedWhy kind z) = need_words kind z
cause_text (TestWhy t) = test_words t ++ codes " (" ++ test_text t ++ codes ")"
cause_text UnknownWhy = codes "what it needs does not go on"

-- ---- the first line

-- the places of the groups in the text
abbrev pub group_number : Group → ℕ
group_number group.Applied = 0
group_number group.Superseded = 1
group_number (group.SupersededBy y) = 2
group_number group.Failed = 3
group_number group.NotDecided = 4
group_number (group.NoFunction f) = 5
group_number group.AlreadyOn = 6
group_number group.Deleted = 7
group_number group.NotReceived = 8
group_number group.NoVer = 9

abbrev pub would_text : ZoneKind → Text
would_text Target = codes "would be applied"
would_text Distribution = codes "would be accepted"

-- the ids of a group
abbrev pub ids_in : List Member → ℕ → List Id
ids_in ms n = map (λ m. m.id) (filter (λ m. group_number m.group == n) ms)

abbrev pub count_in : List Member → ℕ → ℕ
count_in ms n = length (ids_in ms n)

-- a group of the first line, if it has members
abbrev pub part : List Member → ℕ → Text → Text
part ms n words = if is_nil (ids_in ms n) then [] else codes ", " ++ decimal (count_in ms n) ++ codes " " ++ words

abbrev pub failed_parts : List Member → Text
failed_parts ms =
    part ms 3 (codes "would fail") ++ part ms 1 (codes "would be superseded")
    ++ part ms 2 (codes "superseded by others that go on")

abbrev pub open_parts : List Member → Text
open_parts ms = part ms 4 (codes "not decided") ++ part ms 5 (codes "without their function")

abbrev pub other_parts : List Member → Text
other_parts ms =
    part ms 6 (codes "on already") ++ part ms 7 (codes "deleted") ++ part ms 8 (codes "not received")
    ++ part ms 9 (codes "without a ++VER for the SREL")

-- whether this is to be done about a hold of the kind
abbrev pub is_about : HoldKind → ToDo → Bool
is_about System (todo.Act x reason) = true
is_about User (todo.Ask x reason) = true
is_about Error (todo.Wait x reason) = true
is_about kind t = false

abbrev pub steps_about : HoldKind → List ToDo → List ToDo
steps_about kind ts = filter (is_about kind) ts

abbrev pub ordered : ToDo → List Id
ordered (todo.Order x) = x ∷ []
ordered _ = []

abbrev pub orders_of : List ToDo → List Id
orders_of ts = flat_map ordered ts

abbrev pub acts_part : ℕ → Text
acts_part n = if n == 0 then [] else codes "; " ++ counted n (codes "hold") ++ codes " to act on"

abbrev pub before_orders : ℕ → Text
before_orders acts = if acts == 0 then codes "; " else codes ", "

abbrev pub orders_part : ℕ → ℕ → Text
orders_part acts n = if n == 0 then [] else before_orders acts ++ counted n (codes "SYSMOD") ++ codes " to order"

abbrev pub todo_parts : List ToDo → Text
todo_parts ts =
    acts_part (length (steps_about System ts))
    ++ orders_part (length (steps_about System ts)) (length (orders_of ts))

abbrev pub line_start : Summary → Text
line_start s =
    counted (length s.members.items) (codes "SYSMOD") ++ codes ": " ++ decimal (count_in s.members.items 0) ++ codes " "
    ++ would_text s.kind

abbrev pub parts : List Member → Text
parts ms = failed_parts ms ++ open_parts ms ++ other_parts ms

abbrev pub read_words : ℕ → Text
read_words n = if n == 1 then codes " was read\n" else codes " were read\n"

-- what is told of files without a SYSMOD, and with so many holds
abbrev pub empty_line : ℕ → Text
empty_line n = codes "no SYSMOD to check in these files: " ++ counted n (codes "hold") ++ read_words n

abbrev pub full_line : Summary → Text
full_line s = line_start s ++ parts s.members.items ++ todo_parts s.todo.items ++ codes "\n"

abbrev pub first_line : Summary → Text
first_line s = if is_nil s.members.items then empty_line s.holds_read else full_line s

-- ---- the lines of groups

abbrev pub ids_line : Text → List Id → Text
ids_line words ids =
    if is_nil ids then []
    else codes "  " ++ decimal (length ids) ++ codes "  " ++ words ++ codes ": " ++ some_ids ids ++ codes "\n"

abbrev pub group_line : List Member → ℕ → Text → Text
group_line ms n words = ids_line words (ids_in ms n)

-- so many of all lack this function
abbrev pub function_line : ℕ → ℕ → Id → Text
function_line n all f =
    concat (codes "  " ∷ decimal n ∷ codes " of " ∷ decimal all ∷ codes ": function " ∷ f
    ∷ codes " is not installed and not in the files\n" ∷ [])

abbrev pub others_line : ℕ → Text
others_line n = if n == 0 then [] else codes "  " ++ decimal n ++ codes " more lack other functions\n"

-- how many lack the function f, and how many lack others
unfoldable pub function_lines : ℕ → List Id → Id → Text
function_lines all fs f =
    function_line (count_by (bytes_eq f) fs) all f ++ others_line (length fs - count_by (bytes_eq f) fs)

abbrev pub functions_text : ℕ → List Id → Text
functions_text all [] = []
functions_text all (f ∷ fs) = function_lines all (f ∷ fs) f

abbrev pub early_groups : List Member → Text
early_groups ms =
    group_line ms 4 (codes "not decided")
    ++ group_line ms 2 (codes "fail, but others that go on supersede them")

abbrev pub late_groups : List Member → Text
late_groups ms =
    group_line ms 6 (codes "on already") ++ group_line ms 7 (codes "deleted") ++ group_line ms 8 (codes "not received")
    ++ group_line ms 9 (codes "without a ++VER for the SREL")

-- ---- causes, and what goes on and off besides

abbrev pub cause_line : Cause → Text
cause_line c =
    codes "  " ++ decimal c.fails ++ codes "  " ++ c.id ++ codes ": " ++ cause_text c.why ++ codes "\n"

-- how many more lines there would be
abbrev pub more_line : ℕ → ℕ → Text → Text
more_line most n what =
    if nat_le n most then [] else codes "     and " ++ decimal (n - most) ++ codes " more " ++ what ++ codes "\n"

abbrev pub causes_text : ℕ → List Cause → Text
causes_text most cs = flat_map cause_line (take most cs) ++ more_line most (length cs) (codes "causes")

abbrev pub usermods_text : List Id → Text
usermods_text ids = if is_nil ids then [] else codes "; USERMODs: " ++ some_ids ids

abbrev pub taken_line : TakenOff → Text
taken_line t =
    codes "  " ++ t.by ++ codes " takes off " ++ some_ids t.ids ++ usermods_text t.usermods ++ codes "\n"

abbrev pub taken_text : List TakenOff → Text
taken_text ts = flat_map taken_line (take 2 ts) ++ more_line 2 (length ts) (codes "that take SYSMODs off")

-- ---- what is to be done

abbrev pub act_command : ZoneKind → Text
act_command Target = codes ", then APPLY .. BYPASS(HOLDSYSTEM("
act_command Distribution = codes ", then ACCEPT .. BYPASS(HOLDSYSTEM("

abbrev pub ask_command : ZoneKind → Text
ask_command Target = codes ", then APPLY .. BYPASS(HOLDUSER("
ask_command Distribution = codes ", then ACCEPT .. BYPASS(HOLDUSER("

abbrev pub bypass_line : Text → Text → Id → Text → Text
bypass_line verb command x reasons =
    concat (verb ∷ x ∷ codes " " ∷ reasons ∷ command ∷ reasons ∷ codes "))\n" ∷ [])

abbrev pub wait_line : Id → Text → Text
wait_line x reasons =
    concat (codes "  wait     " ∷ x ∷ codes " ERROR " ∷ reasons
    ∷ codes ", until a SYSMOD that resolves it is received\n" ∷ [])

-- the line of the SYSMOD x, which has holds of this kind for these reasons
abbrev pub hold_line : ZoneKind → HoldKind → Id → Text → Text
hold_line zone System x reasons = bypass_line (codes "  act on   ") (act_command zone) x reasons
hold_line zone User x reasons = bypass_line (codes "  ask      ") (ask_command zone) x reasons
hold_line zone Error x reasons = wait_line x reasons

-- the SYSMOD to which something is to be done
abbrev pub subject : ToDo → Id
subject (todo.Order x) = x
subject (todo.Act x reason) = x
subject (todo.Ask x reason) = x
subject (todo.Wait x reason) = x

-- the reason of its hold
abbrev pub reason_of : ToDo → Text
reason_of (todo.Order x) = []
reason_of (todo.Act x reason) = reason
reason_of (todo.Ask x reason) = reason
reason_of (todo.Wait x reason) = reason

-- the reasons of these holds, with a comma between them
abbrev pub reasons_text : List ToDo → Text
reasons_text [] = []
reasons_text (t ∷ ts) = reason_of t ++ flat_map (λ u. codes "," ++ reason_of u) ts

abbrev pub is_of : Id → ToDo → Bool
is_of x t = bytes_eq (subject t) x

-- the line of the SYSMOD x, with the reasons of all its holds among these, which are of one kind
abbrev pub sysmod_line : ZoneKind → HoldKind → List ToDo → Id → Text
sysmod_line zone kind steps x = hold_line zone kind x (reasons_text (filter (is_of x) steps))

-- the SYSMODs with these holds, each once: the holds of a SYSMOD follow each other
abbrev pub held_ids : List ToDo → List Id
held_ids steps = dedup bytes_eq (map subject steps)

abbrev pub held_words : HoldKind → Text
held_words System = codes "with SYSTEM holds"
held_words User = codes "with USER holds"
held_words Error = codes "with ERROR holds"

-- a line for each of the first four of these SYSMODs, and how many more there are
abbrev pub lines_text : ZoneKind → HoldKind → List ToDo → List Id → Text
lines_text zone kind steps ids =
    flat_map (sysmod_line zone kind steps) (take 4 ids) ++ more_line 4 (length ids) (held_words kind)

abbrev pub kind_text : ZoneKind → List ToDo → HoldKind → Text
kind_text zone ts kind = lines_text zone kind (steps_about kind ts) (held_ids (steps_about kind ts))

abbrev pub holds_text : ZoneKind → List ToDo → Text
holds_text zone ts = kind_text zone ts System ++ kind_text zone ts User ++ kind_text zone ts Error

abbrev pub order_line : List Id → Text
order_line ids = if is_nil ids then [] else codes "  order    " ++ some_ids ids ++ codes "\n"

abbrev pub all_text : ZoneKind → List Id → List ToDo → Text
all_text zone orders ts = codes "To do\n" ++ order_line orders ++ holds_text zone ts

abbrev pub todo_text : ZoneKind → List ToDo → Text
todo_text zone ts = if is_nil ts then [] else all_text zone (orders_of ts) ts

-- how many lines tell of the holds of a kind
abbrev pub lines_about : List ToDo → HoldKind → ℕ
lines_about ts kind = min (length (held_ids (steps_about kind ts))) 5

-- How many causes are told. They and the holds have at most 25 lines, so that a summary has at most 40.
abbrev pub most_causes : List ToDo → ℕ
most_causes ts = min (24 - lines_about ts System - lines_about ts User - lines_about ts Error) 20

-- ---- all

abbrev pub group_lines : List Member → Text
group_lines ms = early_groups ms ++ functions_text (length ms) (functions_of ms) ++ late_groups ms

abbrev pub besides : Summary → Text
besides s =
    ids_line (codes "of earlier service go on too") s.also.items ++ taken_text (map taken_view s.taken_off.items)

abbrev pub middle : Summary → Text
middle s =
    group_lines s.members.items ++ causes_text (most_causes s.todo.items) (map cause_view s.causes.items) ++ besides s

abbrev pub summary_text : Summary → Text
summary_text s = first_line s ++ middle s ++ todo_text s.kind s.todo.items

-- ---- the status

abbrev pub is_refused : Group → Bool
is_refused group.NotReceived = true
is_refused _ = false

-- a reader has to look at it, although no line says FAILED
abbrev pub is_doubtful : Group → Bool
is_doubtful group.NotDecided = true
is_doubtful group.Deleted = true
is_doubtful group.NoVer = true
is_doubtful _ = false

abbrev pub is_taken : Group → Bool
is_taken group.Applied = true
is_taken group.Superseded = true
is_taken _ = false

-- nothing was received; something fails or was refused; something is in doubt, or there was nothing to do; all is well
abbrev pub status_of : Summary → ℕ
status_of s =
    if list_all (λ m. is_refused m.group) s.members.items then 12
    else if s.has_failures || list_any (λ m. is_refused m.group) s.members.items then 8
    else if list_any (λ m. is_doubtful m.group) s.members.items
    || not (list_any (λ m. is_taken m.group) s.members.items) then 4
    else 0
