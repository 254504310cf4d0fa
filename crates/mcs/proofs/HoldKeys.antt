-- What ++HOLD and ++RELEASE say, from their key.
use Rattle.std.proofs.Common.{List, Option, Some, None, subst}
use Rattle.terms.specs.declared.kinds.HoldKind.{HoldKind}
use Rattle.terms.specs.Types.{Text, Hold, Release}
use Rattle.terms.specs.Forms.{IsClass, IsReason}
use Rattle.terms.specs.Words.{Word}
use Rattle.terms.specs.Operands.{AreOperands, HasRequired}
use Rattle.terms.specs.HoldStatements.{HasKind, IsHoldOf, IsReleaseOf, release_operands}
use Rattle.terms.proofs.ExactOperands.{has_member, one_of}
use Rattle.terms.proofs.ExactHolds.{kind_only}
use Rattle.mcs.specs.Holds.{HasKey}
use Rattle.terms.proofs.Reasons.{class_of}

pub release_is : (own : Option Text) (ws : List Word) (r : Release) → AreOperands release_operands ws → HasKey own ws r
    → IsReleaseOf own ws r
release_is own ws r are k = record { id = k.id; are_operands = are; kind = k.kind; fmid = k.fmid; reason = k.reason }

pub release_key : (own : Option Text) (ws : List Word) (r : Release) → IsReleaseOf own ws r → HasKey own ws r
release_key own ws r i = record { id = i.id; kind = i.kind; fmid = i.fmid; reason = i.reason }

abbrev pub key_of : Hold → Release
key_of h = record { id = h.id; kind = h.kind; reason = h.reason; fmid = h.fmid }

pub hold_key : (own : Option Text) (ws : List Word) (h : Hold) → IsHoldOf own ws h → HasKey own ws (key_of h)
hold_key own ws h i = record { id = i.id; kind = i.kind; fmid = i.fmid; reason = i.reason }

-- A reason that is none of one kind is none of the statement's.
pub reason_of : (own : Option Text) (ws : List Word) (found : Option Word) (kind : HoldKind) (r : Release)
    → HasKind ws kind → HasKind ws r.kind → HasRequired (IsReason r.kind) found r.reason
    → HasRequired (IsReason kind) found r.reason
reason_of own ws found kind r h k reason = subst (λ x. HasRequired (IsReason x) found r.reason)
    (kind_only ws r.kind kind k h) reason

module _ (kind : HoldKind) where
  pub reason_class : (found : Option Word) (v : Text) → HasRequired (IsReason kind) found v
      → HasRequired IsClass found v
  reason_class None v h = absurd h
  reason_class (Some w) v h = let k = has_member (IsReason kind) w.list v h
      in one_of IsClass w.list v k.0 (class_of kind v k.1)

  pub reason_form : (found : Option Word) (v : Text) → HasRequired (IsReason kind) found v → IsReason kind v
  reason_form None v h = absurd h
  reason_form (Some w) v h = (has_member (IsReason kind) w.list v h).1

  pub class_reason : (found : Option Word) (v : Text) → HasRequired IsClass found v → IsReason kind v
      → HasRequired (IsReason kind) found v
  class_reason None v h f = absurd h
  class_reason (Some w) v h f = one_of (IsReason kind) w.list v (has_member IsClass w.list v h).0 f
