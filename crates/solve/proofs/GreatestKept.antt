-- The union of all self-supporting sets is the greatest of them.
use Rattle.std.proofs.Common.{◌≡◌, Bool, List, length}
use Rattle.solve.specs.System.{System, holds, AreKept, IsGreatest}

-- flags that are a greatest self-supporting set are the union
pub kept_from_greatest : (p : System) (kept : List Bool) → length kept ≡ p.size → IsGreatest p kept → AreKept p kept
kept_from_greatest p kept size g = record {
  size = size;
  members = λ x. (λ member. (holds kept, g.self_supporting, member), λ union. g.greatest union.0 union.1 x union.2);
}

-- the union supports itself, and has every self-supporting set
pub greatest_from_kept : (p : System) (kept : List Bool) → AreKept p kept → IsGreatest p kept
greatest_from_kept p kept a = record {
  self_supporting = record {
    eligible = λ x member. let u = (a.members x).0 member in u.1.eligible x u.2;
    served = λ k d below member.
        let u = (a.members _).0 member in
        let some = u.1.served k d below u.2 in
        (some.0, some.1, some.2, some.3, (a.members _).1 (u.0, u.1, some.4));
  };
  greatest = λ set supported x member. (a.members x).1 (set, supported, member);
}
