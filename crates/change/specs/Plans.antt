-- What an install does to entries, as lists.
use Rattle.std.specs.Prelude.{◌≡◌, ◌↔◌, ◌⊎◌, ℕ, List, Contains}
use Rattle.terms.specs.Types.{Text, Id, Global, Zone}
use Rattle.terms.specs.Choice.{Choice}
use Rattle.terms.specs.Over.{Supersedes}
use Rattle.terms.specs.Install.{Installation, TakesEffect}
use Rattle.sysmods.specs.declared.ver_choice.VerChoice.{VerChoice}
use Rattle.sysmods.specs.Choices.{number_in, choice}
use Rattle.change.specs.declared.installing.Installing.{Installing}
use Rattle.change.specs.declared.plan.Plan.{Plan}
use Rattle.change.specs.Pairs.{others_of}
use Rattle.change.specs.Deleting.{at_stake}

-- an install by these ++VERs, of these numbers
abbrev pub installation : Global → Choice → (Id → ℕ) → Zone → List Id → List (Id × Id) → Text → Installation
installation g choice number zone kept bypassed date = record {
  global = g;
  choice = choice;
  number = number;
  zone = zone;
  kept = kept;
  bypassed = bypassed;
  date = date;
}

-- what is installed, by these ++VERs, and by its own
abbrev pub installation_by : VerChoice → Installing → Installation
installation_by vers i =
    installation vers.global.now (choice vers) (number_in vers) i.zone.now i.kept.now i.bypassed.now i.date

abbrev pub installation_of : Installing → Installation
installation_of i = installation_by i.overs i

-- It takes effect or is superseded, so that its entry changes.
abbrev pub IsTouched : Plan → Id → Type 0
IsTouched p x = Contains p.effective x ⊎ ((y : Id) × Contains (others_of p.superseders x) y)

-- the lists are those of the install, with these deletions
pub record IsPlan (i : Installation) (dels : List Id) (p : Plan) : Type 0 where
  pub effective : (x : Id) → Contains p.effective x ↔ TakesEffect i x
  pub superseders : (x y : Id) → Contains (others_of p.superseders x) y ↔ (TakesEffect i y × Supersedes i.choice y x)
  pub bypassed : (x z : Id) → Contains (others_of p.bypassed x) z ↔ Contains i.bypassed (x, z)
  pub touched : (x : Id) → (IsTouched p x ⊎ Contains (at_stake i.zone dels) x) → Contains p.touched x
  pub date : p.date ≡ i.date
