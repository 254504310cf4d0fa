-- What has been done between two moments.
use Rattle.std.specs.Prelude.{◌≡◌, List, [], ◌∷◌}
use Rattle.intake_command.specs.Acts.{HostAct}
use Rattle.intake_command.specs.declared.surroundings.IntakeHost.{Ghosts}

module _ {H : Type 0} (host : Ghosts H) where
  -- These acts lead there, one after the other.
  abbrev pub LeadTo : H → List HostAct → H → Type 0
  LeadTo before [] after = after ≡ before
  LeadTo before (act ∷ acts) after = (between : H) × host.does before act between × LeadTo between acts after

  -- Acts lead there of which this is true.
  pub record HasDone (Are : List HostAct → Type 0) (before after : H) : Type 0 where
    pub acts : List HostAct
    pub lead : LeadTo before acts after
    pub are : Are acts
