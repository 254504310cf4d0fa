-- Where the facts of an id are looked up, by the values of the code.
use Rattle.std.specs.Prelude.{◌||◌, Bool}
use Rattle.terms.specs.Types.{Id, Zone}
use Rattle.terms.specs.Lookups.{is_in, is_applied}
use Rattle.terms.specs.Tests.{Setting, view_of}
use Rattle.report.specs.Facts.{left_by}
use Rattle.zones.specs.Scopes.{setting_of}
use Rattle.why_facts.specs.declared.asking.Asking.{Asking}

abbrev pub setting_in : Asking → Setting
setting_in a = setting_of a.scope

-- its view of the zone
abbrev pub view_in : Asking → Zone
view_in a = view_of (setting_in a) a.id

-- the zone less what its DELETE takes out
abbrev pub left_in : Asking → Zone
left_in a = left_by (setting_in a) a.id

-- whether the function is applied in its view, or is the id itself
abbrev pub is_there : Asking → Id → Bool
is_there a f = is_applied (view_in a) f || is_in a.scope.ids.now f
