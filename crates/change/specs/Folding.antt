-- What the SYSMODs that change one element make of it, one after the other in the order of over.
use Rattle.std.specs.Prelude.{◌≡◌, ◌≢◌, ◌⊎◌, ◌↔◌, ◌++◌, ℕ, List, [], ◌∷◌, Option, None, Some, IsTrue, Contains}
use Rattle.terms.specs.declared.kinds.ElemType.{ElemType}
use Rattle.terms.specs.Types.{Text, Id, Lines, Action, Replaces, Updates, Change, Global, Element}
use Rattle.terms.specs.Lookups.{IsRising, change_of, has_change, element_of}
use Rattle.terms.specs.Choice.{Choice}
use Rattle.terms.specs.Over.{IsOver, owner}
use Rattle.terms.specs.Texts.{IsNumbered, IsMerge, line_at, given, Touches}
use Rattle.terms.specs.Install.{Installation, TakesEffect, cleared}

-- the element that a replacement by r makes
abbrev pub replacement : Id → Id → ElemType → Text → Text → Text → Lines → Element
replacement owner r type name distlib syslib lines = record {
  elem_type = type;
  name = name;
  fmid = owner;
  rmid = r;
  umids = [];
  distlib = distlib;
  syslib = syslib;
  text = lines;
}

-- what the update by y makes of an element: its text is the merge, and y is one more UMID
pub record IsUpdateOf (y : Id) (update : Lines) (old e : Element) : Type 0 where
  pub rest : e ≡ record old { umids = e.umids; text = e.text }
  pub rising : IsRising e.umids
  pub umids : (x : Id) → Contains e.umids x ↔ (Contains old.umids x ⊎ (y ≡ x))
  pub merged : IsMerge old.text update e.text

-- what a statement of x makes of the old element, if there is one
abbrev pub IsMadeBy : Id → Id → ElemType → Text → Action → Option Element → Option Element → Type 0
IsMadeBy owner x type name (Replaces distlib syslib lines) old new =
    new ≡ Some (replacement owner x type name distlib syslib lines)
IsMadeBy owner x type name (Updates update) None new = new ≡ None
IsMadeBy owner x type name (Updates update) (Some old) new = (e : Element) × (new ≡ Some e) × IsUpdateOf x update old e

module _ (g : Global) (c : Choice) (type : ElemType) (name : Text) where
  -- what the SYSMOD x makes of the element
  abbrev pub IsStep : Id → Option Element → Option Element → Type 0
  IsStep x old new = (h : Change) × (change_of g x type name ≡ Some h)
      × IsMadeBy (owner g c x) x type name h.action old new

  -- y updates the element by these records
  abbrev pub UpdatesBy : Id → Lines → Type 0
  UpdatesBy y update = (h : Change) × (change_of g y type name ≡ Some h) × (h.action ≡ Updates update)

  -- each of them updates the element
  abbrev pub AreUpdates : List Id → Type 0
  AreUpdates ys = (y : Id) → Contains ys y → (update : Lines) × UpdatesBy y update

  -- one of these updates gives or deletes the number n, and is over each other one of them that does
  pub record DecidesAmong (ys : List Id) (n : ℕ) (y : Id) (update : Lines) : Type 0 where
    pub member : Contains ys y
    pub updates : UpdatesBy y update
    pub touches : Touches update n
    pub over : (z : Id) (other : Lines) → Contains ys z → UpdatesBy z other → Touches other n → z ≢ y → IsOver c y z

  -- what these updates make of the base
  pub record IsUpdatedBy (ys : List Id) (base e : Element) : Type 0 where
    pub rest : e ≡ record base { umids = e.umids; text = e.text }
    pub rising : IsRising e.umids
    pub umids : (x : Id) → Contains e.umids x ↔ (Contains base.umids x ⊎ Contains ys x)
    pub decided : (n : ℕ) (y : Id) (update : Lines) → DecidesAmong ys n y update
        → line_at e.text n ≡ line_at (given update) n
    pub others : (n : ℕ) → ((y : Id) (update : Lines) → Contains ys y → UpdatesBy y update → ¬ Touches update n)
        → line_at e.text n ≡ line_at base.text n
    pub numbered : (y : Id) → Contains ys y → IsNumbered e.text
    pub same : ((y : Id) → ¬ Contains ys y) → e.text ≡ base.text

  -- what updates make of the zone's element, if there is one
  abbrev pub IsUpdatedFrom : List Id → Option Element → Option Element → Type 0
  IsUpdatedFrom ys None new = new ≡ None
  IsUpdatedFrom ys (Some base) new = (e : Element) × (new ≡ Some e) × IsUpdatedBy ys base e

  -- r replaces the element by this one
  abbrev pub ReplacesBy : Id → Element → Type 0
  ReplacesBy r base = (h : Change) × (distlib syslib : Text) × (lines : Lines) × (change_of g r type name ≡ Some h)
      × (h.action ≡ Replaces distlib syslib lines)
      × (base ≡ replacement (owner g c r) r type name distlib syslib lines)

  -- one of them replaces the element, and those after it update that
  pub record HasReplaced (xs : List Id) (new : Option Element) : Type 0 where
    pub front : List Id
    pub replacer : Id
    pub back : List Id
    pub base : Element
    pub e : Element
    pub parts : xs ≡ front ++ replacer ∷ back
    pub replaces : ReplacesBy replacer base
    pub updates : AreUpdates back
    pub updated : IsUpdatedBy back base e
    pub new_is : new ≡ Some e

  -- all of them update the element, and the zone's element is the base
  pub record HasUpdated (xs : List Id) (start new : Option Element) : Type 0 where
    pub updates : AreUpdates xs
    pub updated : IsUpdatedFrom xs start new

  -- what all these SYSMODs make of the zone's element, if there is one
  abbrev pub IsFolded : List Id → Option Element → Option Element → Type 0
  IsFolded xs start new = HasReplaced xs new ⊎ HasUpdated xs start new

-- These are the installed SYSMODs that change the element, and this is the element of the zone less the deletions.
pub record AreChangers (i : Installation) (g : Global) (c : Choice) (type : ElemType) (name : Text)
    (base : Option Element) (changers : List Id) : Type 0 where
  pub global : i.global ≡ g
  pub choice : i.choice ≡ c
  pub base_is : base ≡ element_of (cleared i) type name
  pub members : (x : Id) → Contains changers x ↔ (TakesEffect i x × IsTrue (has_change g x type name))
