-- What other candidates of the same APPLY or ACCEPT have to do with the failure of one of them: they delete its
-- function (J8), or they clash with it (J9).
use Rattle.std.specs.Prelude.{◌≡◌, ◌≢◌, ◌⊎◌, ◌||◌, Bool, true, false, not, List, [], ◌∷◌, ◌++◌, Option, None, Some}
use Rattle.std.specs.Prelude.{filter, if◌then◌else◌}
use Rattle.std.specs.List.{flat_map, list_any, list_all}
use Rattle.std.specs.Str.{bytes_eq}
use Rattle.terms.specs.Beside.{Beside}
use Rattle.terms.specs.declared.codes.Test.{Test}
use Rattle.terms.specs.declared.codes.Test.TheVariants.{ChainDeleted, InClash}
use Rattle.terms.specs.Types.{Id, Change, Global}
use Rattle.terms.specs.Lookups.{is_in, changes_of, has_change}
use Rattle.terms.specs.Choice.{npre_of, del_of}
use Rattle.terms.specs.Over.{IsOver, chain}
use Rattle.terms.specs.Tests.{Setting, owner_of}
use Rattle.machine.specs.Outcome.{Status, Applied, Accepted, Superseded, Failed, Line, StatusLine}
use Rattle.why_verdict.specs.declared.conflict.Apart.{Apart}
use Rattle.why_verdict.specs.declared.conflict.Apart.TheVariants.{OtherOwner, Unordered}
use Rattle.why_verdict.specs.declared.conflict.Conflict.{Conflict}
use Rattle.why_verdict.specs.declared.conflict.Conflict.TheVariants.{Deletes, Forbids, ForbiddenBy, Shares}
use Rattle.why_verdict.specs.declared.conflict.Partner.{Partner}
use Rattle.why_verdict.specs.declared.statuses.Condition.{Condition}
use Rattle.why_verdict.specs.declared.statuses.Condition.TheVariants as condition

-- the two tests at which a candidate looks at the others
abbrev pub by_delete : Test → Bool
by_delete ChainDeleted = true
by_delete _ = false

abbrev pub by_clash : Test → Bool
by_clash InClash = true
by_clash _ = false

abbrev pub by_others : Test → Bool
by_others t = by_delete t || by_clash t

-- ---- what a report says about its candidates

-- it fails J8
abbrev pub is_chain_deleted : Status → Bool
is_chain_deleted (Failed f) = list_any by_delete f.tests
is_chain_deleted _ = false

-- it fails J9
abbrev pub is_in_clash : Status → Bool
is_in_clash (Failed f) = list_any by_clash f.tests
is_in_clash _ = false

-- it is a candidate, and passes all tests that look only at itself
abbrev pub passes_alone : Status → Bool
passes_alone Applied = true
passes_alone Accepted = true
passes_alone Superseded = true
passes_alone (Failed f) = list_all by_others f.tests
passes_alone _ = false

abbrev pub meets : Condition → Status → Bool
meets condition.ChainDeleted status = is_chain_deleted status
meets condition.InClash status = is_in_clash status
meets condition.PassesAlone status = passes_alone status

-- the ids of the lines with such a status
abbrev pub id_where : (Status → Bool) → Line → List Id
id_where is (StatusLine x place status) = if is status then x ∷ [] else []
id_where is _ = []

abbrev pub ids_where : (Status → Bool) → List Line → List Id
ids_where is lines = flat_map (id_where is) lines

-- these ids except x
abbrev pub others : Id → List Id → List Id
others x ids = filter (λ y. not (bytes_eq x y)) ids

-- If x fails J8: the other candidates that pass alone. Their DELETEs decide J8.
abbrev pub deleters : List Line → Id → List Id
deleters lines x =
    if is_in (ids_where is_chain_deleted lines) x then others x (ids_where passes_alone lines) else []

-- If x fails J9: the other candidates that fail it. Each of two that clash does.
abbrev pub clashing : List Line → Id → List Id
clashing lines x = if is_in (ids_where is_in_clash lines) x then others x (ids_where is_in_clash lines) else []

-- ---- conflicts

-- what y deletes of x's chain
abbrev pub deletion_of : Setting → Id → Id → Id → List Conflict
deletion_of s x y z = if is_in (chain s.global s.choice x) z then Deletes y z ∷ [] else []

abbrev pub deletions_by : Setting → Id → Id → List Conflict
deletions_by s x y = flat_map (deletion_of s x y) (del_of s.choice y)

-- why two SYSMODs may not change one element: their elements have different owners, or neither is over the other
abbrev pub IsApart : Setting → Id → Id → Option Apart → Type 0
IsApart s x y None = (owner_of s x ≡ owner_of s y) × (IsOver s.choice x y ⊎ IsOver s.choice y x)
IsApart s x y (Some OtherOwner) = owner_of s x ≢ owner_of s y
IsApart s x y (Some Unordered) =
    (owner_of s x ≡ owner_of s y) × (¬ IsOver s.choice x y) × (¬ IsOver s.choice y x)

-- a partner is y, and x is apart from it in this way
abbrev pub IsPartner : Setting → Id → Id → Partner → Type 0
IsPartner s x y p = (p.id ≡ y) × IsApart s x y p.apart

-- the elements that both change, if they may not
abbrev pub share_of : Global → Id → Apart → Change → List Conflict
share_of g y apart h = if has_change g y h.elem_type h.name then
    Shares (record { with = y; elem_type = h.elem_type; name = h.name; apart = apart }) ∷ [] else []

abbrev pub shares : Setting → Id → Id → Option Apart → List Conflict
shares s x y None = []
shares s x y (Some apart) = flat_map (share_of s.global y apart) (changes_of s.global x)

-- the clashes of x with a partner: by NPRE of either, and by each element that both change
abbrev pub clashes_with : Setting → Id → Partner → List Conflict
clashes_with s x p =
    (if is_in (npre_of s.choice x) p.id then Forbids p.id ∷ [] else [])
    ++ (if is_in (npre_of s.choice p.id) x then ForbiddenBy p.id ∷ [] else [])
    ++ shares s x p.id p.apart

-- all conflicts of x with the other candidates of a report
pub record AreConflicts (s : Setting) (lines : List Line) (x : Id) (conflicts : List Conflict) : Type 0 where
  pub partners : List Partner
  pub are_partners : Beside (λ n y p. IsPartner s x y p) (clashing lines x) partners
  pub conflicts_are : conflicts
      ≡ flat_map (deletions_by s x) (deleters lines x) ++ flat_map (clashes_with s x) partners
