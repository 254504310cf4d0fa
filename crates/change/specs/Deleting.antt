-- What the DELETE operands of kept SYSMODs take out of a zone.
use Rattle.std.specs.Prelude.{◌≡◌, ◌&&◌, Bool, List, [], ◌++◌, Option, find, map, is_some, if◌then◌else◌}
use Rattle.terms.specs.Types.{Id, Global, Zone}
use Rattle.terms.specs.Lookups.{is_in, is_function, is_nil, delby_of}
use Rattle.terms.specs.Choice.{Choice, del_of}
use Rattle.sysmods.specs.Choices.{choice}
use Rattle.terms.specs.Deleted.{deletions, is_deleted}
use Rattle.zones.specs.Gone.{is_gone}
use Rattle.change.specs.declared.deleting.Deleting.{Deleting}

abbrev pub global_of : Deleting → Global
global_of d = d.left.vers.now.global.now

abbrev pub choice_of : Deleting → Choice
choice_of d = choice d.left.vers.now

-- the deletions are those of the kept SYSMODs
abbrev pub AreDeletions : Deleting → Type 0
AreDeletions d = d.left.dels.now ≡ deletions (choice_of d) d.kept.now

-- whether it is a function that is taken out
abbrev pub is_function_gone : Deleting → Id → Bool
is_function_gone d x = is_function (global_of d) x && is_gone d.left x

-- the first kept SYSMOD whose DELETE meets the chain of x
abbrev pub first_meeting : Deleting → Id → Option Id
first_meeting d x = find (λ k. is_deleted (global_of d) (choice_of d) (del_of (choice_of d) k) x) d.kept.now

-- the first kept SYSMOD that names x in DELETE
abbrev pub first_naming : Deleting → Id → Option Id
first_naming d x = find (λ k. is_in (del_of (choice_of d) k) x) d.kept.now

-- the first kept SYSMOD that deletes x
abbrev pub first_deleter : Deleting → Id → Option Id
first_deleter d x = if is_function_gone d x then first_meeting d x else first_naming d x

-- its DELBY: the one that is there, otherwise the first that deletes it
abbrev pub delby_left : Deleting → Id → Option Id
delby_left d x = if is_some (delby_of d.left.zone.now x) then delby_of d.left.zone.now x else first_deleter d x

-- the ids whose entries deletions may change
abbrev pub at_stake : Zone → List Id → List Id
at_stake zone dels = if is_nil dels then [] else dels ++ map (λ e. e.id) zone.entries
