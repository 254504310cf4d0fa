-- The laws of summaries.
use Rattle.std.specs.Prelude.{◌≡◌, List, Contains}
use Rattle.terms.specs.Types.{Id, Selection}
use Rattle.machine.specs.Installing.{Decision, AreInstallLines}
use Rattle.smpe_summary.specs.declared.values.Member.{Member}
use Rattle.smpe_summary.specs.Asked.{Asked, is_candidate, ids_where}
use Rattle.smpe_summary.specs.Sets.{IsSetOf}
use Rattle.smpe_summary.specs.Groups.{members_of}

-- each of these ids is that of a member, and no other is, and no id has members of two groups
pub record IsPartition (ms : List Member) (ids : List Id) : Type 0 where
  pub all : (x : Id) → Contains ids x → (m : Member) × Contains ms m × (m.id ≡ x)
  pub only : (m : Member) → Contains ms m → Contains ids m.id
  pub one : (m n : Member) → Contains ms m → Contains ms n → m.id ≡ n.id → m.group ≡ n.group

-- the groups are a partition of the package
abbrev pub EachHasOneGroup : Type 0
EachHasOneGroup = (a : Asked) (d : Decision) (sel : Selection) (supers : Id → List Id) (cands : List Id)
    → AreInstallLines d sel a.lines → IsSetOf cands (ids_where is_candidate a.lines)
    → IsPartition (members_of a supers cands) a.members
