-- A list of ids that was put in order.
use Rattle.std.proofs.Common.{◌≡◌, ◌↔◌, ℕ, List, Vec, Contains, subst, sym}
use Rattle.std.specs.declared.alloc.Global.{Global}
use Rattle.terms.specs.Types.{Id}
use Rattle.intake_read.specs.Stated.{texts, AreSame}

pub same_ids : (stated : List (Vec ℕ Global)) (ids list : List Id) → ids ≡ texts stated
    → ((x : Id) → Contains list x ↔ Contains ids x) → AreSame stated list
same_ids stated ids list e h = λ x. (
  λ a. (h x).1 (subst (λ l. Contains l x) (sym e) a),
  λ b. subst (λ l. Contains l x) e ((h x).0 b),
)
