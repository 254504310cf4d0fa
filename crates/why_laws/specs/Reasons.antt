-- The law on what `smpe why` tells of a failure.
use Rattle.std.specs.Prelude.{ℕ, List, Option, Contains}
use Rattle.terms.specs.Global.{IsGlobal}
use Rattle.terms.specs.Judged.{setting}
use Rattle.terms.specs.Lookups.{IsZone}
use Rattle.terms.specs.Tests.{AreSurvivors}
use Rattle.terms.specs.Types.{Text, Id, Global, Zone}
use Rattle.machine.specs.Outcome.{Failed, Failure, Line, StatusLine, Place}
use Rattle.report.specs.Facts.{among}
use Rattle.why_laws.specs.Witnesses.{IsWitnessed}
use Rattle.smpe_why.specs.Telling.{Inquiry, Prints, IsToldOf}

-- If these lines of an install say that x failed, then each reason that is told below a failed test of x witnesses the
-- test, each test that x fails has a reason, and each open need has an answer that witnesses it.
abbrev pub ReasonsWitness : Type 0
ReasonsWitness =
    (g : Global) (zone : Zone) (related : Option Zone) (a : Inquiry) (ids cands : List Id) (lines : List Line)
    → IsGlobal g → IsZone zone → Prints g zone related a ids cands lines
    → (x : Id) (text : Text) (code : ℕ) (told : IsToldOf (among g zone cands a.bypass x) lines x text code)
    → (place : Place) (f : Failure) → Contains lines (StatusLine x place (Failed f))
    → (survivors : List Id) × AreSurvivors (setting g zone related cands a.bypass) survivors
    × IsWitnessed (setting g zone related cands a.bypass) survivors x
    (record { bypass = a.bypass; facts = told.facts; conflicts = told.conflicts; lines = lines }) f
