-- The document about a package: the command that was tried, its summary, what is to be done, and remarks on the files.
use Rattle.std.specs.Prelude.{◌≡◌, ◌==◌, ℕ, Bool, List, [], ◌∷◌, ◌++◌, Some, codes, filter, map, if◌then◌else◌}
use Rattle.std.specs.Str.{bytes_eq}
use Rattle.std.specs.Str.Lines.{lines as lines_of_text}
use Rattle.terms.specs.Bytes.{newline}
use Rattle.terms.specs.Types.{Text, Id}
use Rattle.machine.specs.Outcome.{Header, Line, or_nothing}
use Rattle.serde_json.specs.Data.{Data, string}
use Rattle.serde_json.specs.Read.{read}
use Rattle.serde_json.specs.Written.{compact_text}
use Rattle.smpe_summary.specs.declared.values.Group.{Group}
use Rattle.smpe_summary.specs.declared.values.Group.TheVariants as group
use Rattle.smpe_summary.specs.declared.values.Member.{Member}
use Rattle.smpe_summary.specs.declared.values.ToDo.{ToDo}
use Rattle.smpe_summary.specs.declared.values.ToDo.TheVariants as todo
use Rattle.smpe_summary.specs.declared.values.Summary.{Summary}
use Rattle.smpe_summary.specs.Causes.{Cause}
use Rattle.smpe_summary.specs.Todo.{TakenOff}
use Rattle.smpe_summary.specs.Text.{cause_text}
use Rattle.smpe_summary.specs.Views.{cause_view, taken_view}
use Rattle.smpe_json.specs.Values.{printed, object_of, array_of, number_of}
use Rattle.smpe_json.specs.Lines.{command_value}

-- ---- the summary

abbrev pub group_name : Group → Text
group_name group.Applied = codes "applied"
group_name group.Superseded = codes "superseded"
group_name (group.SupersededBy by) = codes "superseded_by"
group_name group.Failed = codes "failed"
group_name group.NotDecided = codes "not_decided"
group_name (group.NoFunction function) = codes "no_function"
group_name group.AlreadyOn = codes "already_on"
group_name group.Deleted = codes "deleted"
group_name group.NotReceived = codes "not_received"
group_name group.NoVer = codes "no_ver"

abbrev pub group_names : List Text
group_names =
    codes "applied" ∷ codes "superseded" ∷ codes "superseded_by" ∷ codes "failed" ∷ codes "not_decided"
    ∷ codes "no_function" ∷ codes "already_on" ∷ codes "deleted" ∷ codes "not_received" ∷ codes "no_ver" ∷ []

-- an id beside the one that supersedes it, or its function
abbrev pub id_with : Text → Id → Id → Data
id_with name other id = object_of ((codes "id", string id) ∷ (name, string other) ∷ [])

abbrev pub id_in_group : Id → Group → Data
id_in_group id (group.SupersededBy by) = id_with (codes "by") by id
id_in_group id (group.NoFunction function) = id_with (codes "function") function id
id_in_group id _ = string id

abbrev pub member_value : Member → Data
member_value m = id_in_group m.id m.group

abbrev pub is_named : Text → Member → Bool
is_named name m = bytes_eq (group_name m.group) name

-- the group of this name, with its members in the order of the summary
abbrev pub group_value : List Member → Text → Data
group_value members name =
    object_of ((codes "group", string name) ∷ (codes "ids", array_of member_value (filter (is_named name) members))
    ∷ [])

-- a causer, how many fail because of it, and why it fails
abbrev pub cause_value : Cause → Data
cause_value c =
    object_of ((codes "id", string c.id) ∷ (codes "fails", number_of c.fails)
    ∷ (codes "text", string (map printed (cause_text c.why))) ∷ [])

abbrev pub taken_value : TakenOff → Data
taken_value t =
    object_of ((codes "by", string t.by) ∷ (codes "ids", array_of string t.ids)
    ∷ (codes "usermods", array_of string t.usermods) ∷ [])

abbrev pub summary_value : Summary → Data
summary_value s =
    object_of ((codes "groups", array_of (group_value s.members.items) group_names)
    ∷ (codes "also", array_of string s.also.items)
    ∷ (codes "causes", array_of cause_value (map cause_view s.causes.items))
    ∷ (codes "taken_off", array_of taken_value (map taken_view s.taken_off.items)) ∷ [])

-- ---- what is to be done

abbrev pub about_reason : Text → Id → Text → Data
about_reason action id reason =
    object_of ((codes "action", string action) ∷ (codes "id", string id) ∷ (codes "reason", string reason) ∷ [])

abbrev pub step_value : ToDo → Data
step_value (todo.Order id) = object_of ((codes "action", string (codes "order")) ∷ (codes "id", string id) ∷ [])
step_value (todo.Act id reason) = about_reason (codes "act") id reason
step_value (todo.Ask id reason) = about_reason (codes "ask") id reason
step_value (todo.Wait id reason) = about_reason (codes "wait") id reason

-- ---- remarks

-- a byte of remarks, whose newlines stay
abbrev pub printed_in_lines : ℕ → ℕ
printed_in_lines byte = if byte == newline then newline else printed byte

-- the lines of the remarks
abbrev pub remark_lines : Text → List Text
remark_lines remarks = lines_of_text (map printed_in_lines remarks)

-- ---- all

-- The value of the document: what the command printed, the summary of it, the remarks, and the status.
abbrev pub check_value : Header → List Line → Summary → Text → ℕ → Data
check_value header lines summary remarks status =
    object_of ((codes "rc", number_of status) ∷ (codes "commands", array_of (λ h. command_value h (or_nothing lines)) (header ∷ []))
    ∷ (codes "summary", summary_value summary) ∷ (codes "todo", array_of step_value summary.todo.items)
    ∷ (codes "remarks", array_of string (remark_lines remarks)) ∷ [])

-- The value of a document that says only why there is no answer, with the status.
abbrev pub fault_value : Text → ℕ → Data
fault_value fault status = object_of ((codes "fault", string fault) ∷ (codes "status", number_of status) ∷ [])

-- the text of the value without a blank, which is read as this value, and a newline
pub record IsDocumentOf (value : Data) (text : Text) : Type 0 where
  pub is : text ≡ compact_text value ++ newline ∷ []
  pub reads : read (compact_text value) ≡ Some value
