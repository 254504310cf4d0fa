-- SYSMODs of which it is not sure that they can be installed, because one that is left out forbids nothing.
use Rattle.std.specs.Prelude.{◌≡◌, ◌⊎◌, ◌||◌, Bool, false, not, List, Option, Some, None, IsTrue, All, Contains}
use Rattle.std.specs.List.{Any, list_any}
use Rattle.std.specs.Str.{bytes_eq}
use Rattle.std.specs.BTreeSet.{BTreeSet}
use Rattle.std.specs.BTreeSet as set
use Rattle.std.specs.Cmp.Lexicographic.{slice_cmp}
use Rattle.std.specs.Ordering.{nat_cmp}
use Rattle.terms.specs.Types as terms
use Rattle.terms.specs.Types.{Text, Id, Ver}
use Rattle.terms.specs.Lookups.{is_in}
use Rattle.mcs.specs.declared.file.Item.{Item}
use Rattle.mcs.specs.declared.file.Item.TheVariants.{Sysmod, Assign}
use Rattle.intake_read.specs.declared.items.WideVer.{WideVer}
use Rattle.intake_read.specs.declared.items.WideSysmod.{WideSysmod}
use Rattle.intake_sysmod.specs.Users.{Touches}
use Rattle.intake_carry.specs.declared.unsure.Unsure.{Unsure}

abbrev pub has_id : Text → Item → Bool
has_id id (Sysmod s) = bytes_eq s.id id
has_id id (Assign a) = false

-- No item is a SYSMOD of its id.
abbrev pub is_left_out : List Item → WideSysmod → Bool
is_left_out items stated = not (list_any (has_id stated.id.items) items)

abbrev pub is_fmid : Option Id → Text → Bool
is_fmid None id = false
is_fmid (Some fmid) id = bytes_eq fmid id

-- The id is that of the SYSMOD or of a function that it is for.
abbrev pub is_of : terms.Sysmod → Text → Bool
is_of s id = bytes_eq s.id id || list_any (λ (v : Ver). is_fmid v.fmid id) s.vers

-- An NPRE or a DELETE of the one names the other, or a function that the other is for.
abbrev pub forbids_in : WideVer → terms.Sysmod → Bool
forbids_in v s = list_any (λ t. is_of s t.items) v.npre.items || list_any (λ t. is_of s t.items) v.delete.items

abbrev pub forbids : WideSysmod → terms.Sysmod → Bool
forbids left s = list_any (λ v. forbids_in v s) left.vers.items

-- An NPRE of the one that is carried names the other.
abbrev pub excludes : terms.Sysmod → WideSysmod → Bool
excludes s left = list_any (λ (v : Ver). is_in v.npre left.id.items) s.vers

-- They change one element.
abbrev pub SharesElement : WideSysmod → terms.Sysmod → Type 0
SharesElement left s = Any (λ c. Touches left c.elem_type c.name) s.changes

-- If the one were not left out, it could keep the other from being installed.
abbrev pub Meets : WideSysmod → terms.Sysmod → Type 0
Meets left s = SharesElement left s ⊎ IsTrue (forbids left s || excludes s left)

-- The set has the ids of the SYSMODs among these items, and no others.
abbrev pub AreIdsOf : BTreeSet Id → List Item → Type 0
AreIdsOf ids items = (id : Text) → set.contains (slice_cmp nat_cmp) ids id ≡ list_any (has_id id) items

-- Those of the run that are left out are among these.
abbrev pub AreLeftOutOf : List Item → List WideSysmod → List WideSysmod → Type 0
AreLeftOutOf items run left = (s : WideSysmod) → Contains run s → IsTrue (is_left_out items s) → Contains left s

-- The SYSMOD of this id is among these.
abbrev pub IsAmong : List Unsure → Id → Type 0
IsAmong unsure id = Any (λ u. u.id ≡ id) unsure

abbrev pub KeepsNamed : List Unsure → List Unsure → Type 0
KeepsNamed old new = (id : Id) → IsAmong old id → IsAmong new id

-- If the item is a SYSMOD that meets one of those that are left out, it is named.
abbrev pub IsNamed : List WideSysmod → List Unsure → Item → Type 0
IsNamed left unsure item = (s : terms.Sysmod) → item ≡ Sysmod s → All (λ l. Meets l s → IsAmong unsure s.id) left

-- each SYSMOD of these items that meets one that is left out is named
abbrev pub AreUnsure : List WideSysmod → List Item → List Unsure → Type 0
AreUnsure run items unsure = (left : WideSysmod) (s : terms.Sysmod) → Contains run left
    → IsTrue (is_left_out items left) → Contains items (Sysmod s) → Meets left s → IsAmong unsure s.id
