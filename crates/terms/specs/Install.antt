-- What APPLY and ACCEPT make of the zone, given the kept set. (IBM z/OS SMP/E Commands, APPLY and ACCEPT processing;
-- Reference, SYSMOD entry and element entry of target and distribution zones. What DELETE takes out is this project's
-- profile.)
use Rattle.std.specs.Prelude.{◌≡◌, ◌≢◌, ◌⊎◌, ◌↔◌, ◌&&◌, ℕ, List, [], Option, None, Some, filter, is_some, IsTrue}
use Rattle.std.specs.Prelude.{IsFalse, IfSome, Contains, slice_get, if◌then◌else◌}
use Rattle.terms.specs.declared.kinds.ElemType.{ElemType}
use Rattle.terms.specs.Types.{Name, Library, Date, Id, Lines, Change, Replaces, Updates, Global, Applied, an_applied}
use Rattle.terms.specs.Types.{Element, Zone}
use Rattle.terms.specs.Lookups.{IsRising, IsZone, is_in, change_of, has_change, element_of, applied_of, supby_of}
use Rattle.terms.specs.Lookups.{delby_of, waived_of, is_supplied, is_function}
use Rattle.terms.specs.Choice.{Choice, del_of}
use Rattle.terms.specs.Over.{IsOver, Supersedes, owner}
use Rattle.terms.specs.Changes.{has_replacement}
use Rattle.terms.specs.Deleted.{deletions, is_deleted, is_taken_out, zone_less}
use Rattle.terms.specs.Texts.{IsNumbered, line_at, given, Touches}

-- what an APPLY or ACCEPT installs: the number of each id's ++VER that counts, the kept ids, rising, pairs of an id and
-- a bypassed requisite of it, and the date
pub record Installation : Type 0 where
  pub global : Global
  pub choice : Choice
  pub number : Id → ℕ
  pub zone : Zone
  pub kept : List Id
  pub bypassed : List (Id × Id)
  pub date : Date

-- x is kept, and no other kept SYSMOD supersedes it: it becomes APPLIED or ACCEPTED. The other kept ones are
-- SUPERSEDED.
pub record TakesEffect (i : Installation) (x : Id) : Type 0 where
  pub kept : Contains i.kept x
  pub first : (y : Id) → Contains i.kept y → y ≢ x → ¬ Supersedes i.choice y x

-- what the entry of x says once x takes effect
abbrev pub applied_with : Installation → Id → Applied
applied_with i x = an_applied i.date (i.number x)

-- the zone less all deletions of the kept set
abbrev pub cleared : Installation → Zone
cleared i = zone_less i.global i.choice (deletions i.choice i.kept) i.zone

-- The kept SYSMODs that delete x. If x is a function that is taken out, they are those whose DELETE meets its chain;
-- any other id is deleted by those whose DELETE names it.
abbrev pub deleters : Installation → Id → List Id
deleters i x =
    if is_function i.global x && is_taken_out i.global i.choice (deletions i.choice i.kept) i.zone x
    then filter (λ k. is_deleted i.global i.choice (del_of i.choice k) x) i.kept
    else filter (λ k. is_in (del_of i.choice k) x) i.kept

-- DELBY: the value that is there stays; otherwise the least SYSMOD that deletes it
unfoldable pub delby_after : Installation → Id → Option Id
delby_after i x = if is_some (delby_of i.zone x) then delby_of i.zone x else slice_get (deleters i x) 0

-- what a replacement makes of the element
abbrev pub replaced : Installation → Id → ElemType → Name → Library → Library → Lines → Element
replaced i r type name distlib syslib lines = record {
  elem_type = type;
  name = name;
  fmid = owner i.global i.choice r;
  rmid = r;
  umids = [];
  distlib = distlib;
  syslib = syslib;
  text = lines;
}

-- One element, given by its type and name.
module _ (i : Installation) (type : ElemType) (name : Name) where
  -- r is installed, replaces the element, and is over all other installed SYSMODs that replace it
  pub record IsReplacer (r : Id) : Type 0 where
    pub installed : TakesEffect i r
    pub replaces : IsTrue (has_replacement i.global r type name)
    pub over : (y : Id) → TakesEffect i y → IsTrue (has_replacement i.global y type name) → y ≢ r → IsOver i.choice r y

  -- the base of the updates: what the replacer makes of the element, or the element that the zone has
  abbrev pub HasBase : Option Id → Element → Type 0
  HasBase (Some r) base =
      IsReplacer r
      × ((h : Change) × (distlib syslib : Library) × (lines : Lines) × (change_of i.global r type name ≡ Some h)
      × (h.action ≡ Replaces distlib syslib lines) × (base ≡ replaced i r type name distlib syslib lines))
  HasBase None base =
      ((y : Id) → TakesEffect i y → IsFalse (has_replacement i.global y type name))
      × (element_of (cleared i) type name ≡ Some base)

  -- y is installed, updates the element by these records, and is over its replacer if there is one
  pub record IsUpdater (replacer : Option Id) (y : Id) (update : Lines) : Type 0 where
    pub installed : TakesEffect i y
    pub updates : (h : Change) × (change_of i.global y type name ≡ Some h) × (h.action ≡ Updates update)
    pub over : IfSome replacer (λ r. IsOver i.choice y r)

  -- y gives or deletes the number n, and is over each other updater that does so
  pub record Decides (replacer : Option Id) (n : ℕ) (y : Id) (update : Lines) : Type 0 where
    pub updater : IsUpdater replacer y update
    pub touches : Touches update n
    pub over : (z : Id) (other : Lines) → IsUpdater replacer z other → Touches other n → z ≢ y → IsOver i.choice y z

  -- The element is its base with the updaters as further UMIDs. At each number it has what the deciding update says.
  pub record IsUpdated (replacer : Option Id) (base e : Element) : Type 0 where
    pub rest : e ≡ record base { umids = e.umids; text = e.text }
    pub rising : IsRising e.umids
    pub umids : (y : Id) → Contains e.umids y ↔ (Contains base.umids y
        ⊎ ((update : Lines) × IsUpdater replacer y update))
    pub decided : (n : ℕ) (y : Id) (update : Lines) → Decides replacer n y update
        → line_at e.text n ≡ line_at (given update) n
    pub others : (n : ℕ) → ((y : Id) (update : Lines) → IsUpdater replacer y update → ¬ Touches update n) →
        line_at e.text n ≡ line_at base.text n
    pub numbered : (y : Id) (update : Lines) → IsUpdater replacer y update → IsNumbered e.text
    pub same : ((y : Id) (update : Lines) → ¬ IsUpdater replacer y update) → e.text ≡ base.text

  -- the element after the installed SYSMODs that change it
  abbrev pub HasElementAfter : Element → Type 0
  HasElementAfter e = (replacer : Option Id) × (base : Element) × HasBase replacer base × IsUpdated replacer base e

-- The new zone: the zone less the deletions, with the installed SYSMODs and what they change.
pub record HasInstalled (i : Installation) (new : Zone) : Type 0 where
  pub rest : new ≡ record i.zone { entries = new.entries; elements = new.elements }
  pub is_zone : IsZone new
  pub applied : (x : Id) → TakesEffect i x → applied_of new x ≡ Some (applied_with i x)
  pub not_applied : (x : Id) → (¬ TakesEffect i x) → applied_of new x ≡ applied_of (cleared i) x
  pub supby_rising : (x : Id) → IsRising (supby_of new x)
  pub supby : (x y : Id) → Contains (supby_of new x) y
      ↔ (Contains (supby_of (cleared i) x) y ⊎ (TakesEffect i y × Supersedes i.choice y x))
  pub delby : (x : Id) → delby_of new x ≡ delby_after i x
  pub waived_rising : (x : Id) → IsRising (waived_of new x)
  pub waived : (x z : Id) → TakesEffect i x → Contains (waived_of new x) z ↔
      (Contains i.bypassed (x, z) × IsFalse (is_supplied new z))
  pub not_waived : (x : Id) → (¬ TakesEffect i x) → waived_of new x ≡ waived_of (cleared i) x
  pub changed : (type : ElemType) (name : Name) (x : Id) → TakesEffect i x → IsTrue (has_change i.global x type name) →
      (e : Element) × (element_of new type name ≡ Some e) × HasElementAfter i type name e
  pub unchanged : (type : ElemType) (name : Name) → ((x : Id) → TakesEffect i x
      → IsFalse (has_change i.global x type name)) →
      element_of new type name ≡ element_of (cleared i) type name
