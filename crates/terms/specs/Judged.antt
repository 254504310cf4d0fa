-- All that APPLY and ACCEPT decide: the setting of a command, and its kept set.
use Rattle.std.specs.Prelude.{List, Option, Contains, ◌↔◌}
use Rattle.terms.specs.Types.{Id, Global, Zone, Bypass}
use Rattle.terms.specs.Lookups.{IsRising}
use Rattle.terms.specs.Choice.{counting}
use Rattle.terms.specs.Tests.{Setting, Fails, IsEligible, AreSurvivors}
use Rattle.terms.specs.Needs.{Needs, Serves}
use Rattle.terms.specs.Judging.{Judging}
use Rattle.terms.specs.Kept.{StaysKept}

-- the setting of a command with these candidates
abbrev pub setting : Global → Zone → Option Zone → List Id → Bypass → Setting
setting g zone related cands bypass = record {
  global = g;
  choice = counting g zone cands;
  zone = zone;
  related = related;
  cands = cands;
  bypass = bypass;
}

-- what its candidates are judged by, given the survivors
abbrev pub install_judging : Setting → List Id → Judging
install_judging s survivors = record {
  cands = s.cands;
  fails = Fails s;
  eligible = IsEligible s;
  needs = Needs s survivors;
  serves = Serves s.choice;
}

-- x stays: some set of eligible candidates that supports itself contains x
abbrev pub Stays : Setting → List Id → Id → Type 0
Stays s survivors x = StaysKept (install_judging s survivors) x

-- the kept set, rising
pub record IsKeptSet (s : Setting) (kept : List Id) : Type 0 where
  pub survivors : List Id
  pub are_survivors : AreSurvivors s survivors
  pub rising : IsRising kept
  pub members : (x : Id) → Contains kept x ↔ Stays s survivors x
