-- Why the causers of failures fail themselves.
use Rattle.std.specs.Prelude.{Bool, not, ℕ, List, [], ◌∷◌, Option, None, Some, find, length}
use Rattle.std.specs.Prelude.{if◌then◌else◌}
use Rattle.terms.specs.declared.kinds.HoldKind.{HoldKind}
use Rattle.terms.specs.declared.kinds.HoldKind.TheVariants.{System, User}
use Rattle.terms.specs.declared.codes.NeedKind.{NeedKind}
use Rattle.terms.specs.declared.codes.Test.{Test}
use Rattle.terms.specs.declared.codes.Test.TheVariants as test
use Rattle.terms.specs.Types.{Text, Id, Reason, Hold, Global}
use Rattle.terms.specs.Lookups.{is_nil, is_received, holds_of}
use Rattle.machine.specs.Outcome.{OpenNeed, Failure, Failed, Line, StatusLine}

-- a hold; an open need for an id that is not received; a test; or a need for one that is received
pub data Why : Type 0 where
  HoldWhy : HoldKind → Reason → Option Text → Why
  NeedWhy : NeedKind → Id → Why
  TestWhy : Test → Why
  UnknownWhy : Why

-- the first of these holds, or the test
abbrev pub hold_why : Test → List Hold → Why
hold_why t [] = TestWhy t
hold_why t (h ∷ hs) = HoldWhy h.kind h.reason h.comment

abbrev pub test_why : Global → Id → Test → Why
test_why g y test.HeldBySystem = hold_why test.HeldBySystem (holds_of g System y)
test_why g y test.HeldByUser = hold_why test.HeldByUser (holds_of g User y)
test_why g y t = TestWhy t

abbrev pub is_unreceived : Global → OpenNeed → Bool
is_unreceived g n = not (is_received g n.id)

abbrev pub need_why : Option OpenNeed → Why
need_why None = UnknownWhy
need_why (Some n) = NeedWhy n.kind n.id

-- the first open need whose id is not received
abbrev pub needs_why : Global → List OpenNeed → Why
needs_why g needs = need_why (find (is_unreceived g) needs)

-- the first failed test, otherwise an open need
abbrev pub why_by : Global → Id → List Test → List OpenNeed → Why
why_by g y (t ∷ ts) needs = test_why g y t
why_by g y [] needs = needs_why g needs

abbrev pub why_of : Global → Id → Failure → Why
why_of g y f = why_by g y f.tests f.needs

-- a causer: how many SYSMODs of the package it makes fail, and why it fails itself
pub record Cause : Type 0 where
  pub id : Id
  pub fails : ℕ
  pub why : Why

-- The cause that the SYSMOD y is, if others fail because of it. (`blocks` are those that fail because of an id.)
abbrev pub cause_by : Global → (Id → List Id) → Id → Failure → List Cause
cause_by g blocks y f =
    if is_nil (blocks y) then [] else record { id = y; fails = length (blocks y); why = why_of g y f } ∷ []

-- the cause that the SYSMOD of the line is
abbrev pub cause_in : Global → (Id → List Id) → Line → List Cause
cause_in g blocks (StatusLine y place (Failed f)) = cause_by g blocks y f
cause_in g blocks _ = []
