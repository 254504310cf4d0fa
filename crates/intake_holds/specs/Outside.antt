-- What becomes of holds outside SYSMODs, one after the other.
use Rattle.std.specs.Prelude.{◌≡◌, List, [], ◌++◌, None, IsFalse}
use Rattle.intake_cards.specs.declared.place.CardPlace.{CardPlace}
use Rattle.intake_read.specs.Held.{held_places}
use Rattle.intake_read.specs.declared.items.WideHold.{WideHold}
use Rattle.intake_holds.specs.Become.{Become}
use Rattle.intake_holds.specs.Holds.{HoldBecomes}
use Rattle.intake_holds.specs.declared.outside.OutsideHolds.{OutsideHolds}

-- It is what these holds become, in their order, unless one of them can't be carried.
abbrev pub AreCarried : List WideHold → OutsideHolds → Type 0
AreCarried stated held = IsFalse held.is_refused → Become (HoldBecomes None) stated [] held.placed.items

-- What it has is kept.
abbrev pub KeepsHolds : OutsideHolds → OutsideHolds → Type 0
KeepsHolds old new = (before : List WideHold) → AreCarried before old → AreCarried before new

-- What these holds become is added to what it has, and nothing else is changed.
abbrev pub AddsHolds : List WideHold → OutsideHolds → OutsideHolds → Type 0
AddsHolds stated old new = (before : List WideHold) → AreCarried before old → AreCarried (before ++ stated) new

-- The reader of a file handed out some holds, which begin just where the file says: each of them, but for those of
-- FIXCAT, was added.
abbrev pub AddsHoldsAt : List CardPlace → OutsideHolds → OutsideHolds → Type 0
AddsHoldsAt places old new = (stated : List WideHold) × (held_places stated ≡ places) × AddsHolds stated old new

-- It is what some holds become.
abbrev pub CarriesHolds : OutsideHolds → Type 0
CarriesHolds held = (stated : List WideHold) × AreCarried stated held
