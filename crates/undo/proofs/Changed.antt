-- The elements that a SYSMOD changes, as keys.
use Rattle.std.proofs.Common.{List, map, refl, subst, sym, Contains, IsTrue}
use Rattle.terms.proofs.ListMembers.{filter_in, in_filter, map_in}
use Rattle.terms.specs.Types.{Id, Global}
use Rattle.terms.specs.Lookups.{change_key, changes_of, has_change}
use Rattle.terms.proofs.ChangedElements.{change_has, changes_to}
use Rattle.sorted.specs.ElementKeys.{Key}
use Rattle.zones.specs.Grouping.{AreByElement}
use Rattle.undo.specs.Elements.{AreChangers, Changers}

pub changes_from : (g : Global) (x : Id) (key : Key) → Contains (map change_key (changes_of g x)) key
    → IsTrue (has_change g x key.0 key.1)
changes_from g x key h =
    let m = map_in change_key (changes_of g x) key h in
    subst (λ k. IsTrue (has_change g x k.0 k.1)) m.2 (change_has g x m.0 m.1)

-- the list of each element has the SYSMODs that change it
pub changers_are : (g : Global) (ids : List Id) (all : Changers) → AreByElement g ids all → AreChangers g ids all
changers_are g ids all are k y = (
  λ listed.
      let changing = filter_in (λ x. has_change g x k.0 k.1) ids y (subst (λ l. Contains l y) (are.list k) listed) in
      (y, changing.0, (changes_to g y k.0 k.1 changing.1, refl)),
  λ one.
      let same = one.2.1 in
      subst (λ l. Contains l y) (sym (are.list k)) (in_filter (λ x. has_change g x k.0 k.1) ids y
      (subst (Contains ids) (sym same) one.1)
      (subst (λ x. IsTrue (has_change g x k.0 k.1)) (sym same) (changes_from g one.0 k one.2.0))),
)
