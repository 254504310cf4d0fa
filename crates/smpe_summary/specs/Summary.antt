-- The summary of an APPLY or ACCEPT of a package.
use Rattle.std.specs.Prelude.{◌≡◌, not, List, filter, map}
use Rattle.terms.specs.Types.{Id}
use Rattle.terms.specs.Lookups.{is_nil, is_in}
use Rattle.terms.specs.Choice.{counting}
use Rattle.smpe_summary.specs.declared.values.Summary.{Summary}
use Rattle.smpe_summary.specs.Asked.{Asked, is_failed, is_candidate, ids_where, going_on}
use Rattle.smpe_summary.specs.Sets.{IsSetOf}
use Rattle.smpe_summary.specs.Superseding.{AreSuperseders}
use Rattle.smpe_summary.specs.Groups.{members_of}
use Rattle.smpe_summary.specs.Blocked.{blocked}
use Rattle.smpe_summary.specs.Todo.{taken_off}
use Rattle.smpe_summary.specs.Told.{AreRanked, IsTodo}
use Rattle.smpe_summary.specs.Views.{taken_view}

pub record IsSummary (a : Asked) (s : Summary) : Type 0 where
  pub cands : List Id
  pub cands_are : IsSetOf cands (ids_where is_candidate a.lines)
  pub supers : Id → List Id
  pub supers_are : AreSuperseders (counting a.global a.zone cands) (going_on a) supers
  pub kind : s.kind ≡ a.zone.kind
  pub members : s.members.items ≡ members_of a supers cands
  pub also : s.also.items ≡ filter (λ x. not (is_in a.members x)) (going_on a)
  pub causes : AreRanked a.global (blocked a supers) a.lines s.causes.items
  pub todo : IsTodo a.global (blocked a supers) a.lines s.members.items s.todo.items
  pub taken_off : map taken_view s.taken_off.items
      ≡ taken_off a.global (counting a.global a.zone cands) a.zone (going_on a)
  pub holds_read : s.holds_read ≡ a.holds_read
  pub has_failures : s.has_failures ≡ not (is_nil (ids_where is_failed a.lines))
