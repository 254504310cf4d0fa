-- What the items of files are.
use Rattle.std.specs.Prelude.{◌≡◌, false, All}
use Rattle.terms.specs.Types.{Item, ASysmod, AnAssign, HoldItem, AHold, ARelease}
use Rattle.terms.specs.HoldStatements.{HasShortComment}

-- The holds in a SYSMOD have short comments.
abbrev pub IsOfPtfin : Item → Type 0
IsOfPtfin (ASysmod s) = All HasShortComment s.holds
IsOfPtfin (AnAssign a) = Unit {0}

-- A hold of a hold file is external and has a short comment.
abbrev pub IsOfHoldFile : HoldItem → Type 0
IsOfHoldFile (AHold h) = (h.internal ≡ false) × HasShortComment h
IsOfHoldFile (ARelease r) = Unit {0}
