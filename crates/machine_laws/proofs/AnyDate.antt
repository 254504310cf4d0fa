-- An install prints the same lines on any date.
use Rattle.std.proofs.Common.{◌≡◌, List, Option, ap, subst, sym}
use Rattle.terms.specs.Global.{IsGlobal}
use Rattle.terms.specs.Install.{Installation, TakesEffect}
use Rattle.terms.specs.Types.{Text, Id, Global, Zone, Bypass, Selection}
use Rattle.machine.specs.Outcome.{Status, Line}
use Rattle.machine.specs.Installing.{Decision, IsDecision, HasStatus, IsInstalled, IsSuperseded, IsFailed, IsNotChosen}
use Rattle.machine.specs.Installing.{AreInstallLines, InstallsSelected}
use Rattle.machine_laws.proofs.Decided.{decision_only}
use Rattle.machine_laws.proofs.InstallLines.{installs_only}

-- the same install on another date, with the bypassed requisites in another list
abbrev moved : Installation → Text → List (Id × Id) → Installation
moved i date pairs = record i { date = date; bypassed = pairs }

effect_moved : (i : Installation) (date : Text) (pairs : List (Id × Id)) (x : Id) → TakesEffect i x
    → TakesEffect (moved i date pairs) x
effect_moved i date pairs x effect = record { kept = effect.kept; first = effect.first }

module _ (d : Decision) (date : Text) (pairs : List (Id × Id)) (sel : Selection) where
  abbrev it : Decision
  it = record d { installing = moved d.installing date pairs }

  status_moved : (x : Id) (s : Status) → HasStatus d sel x s → HasStatus it sel x s
  status_moved x s (IsInstalled e) = IsInstalled (effect_moved d.installing date pairs x e)
  status_moved x s (IsSuperseded k other) =
      IsSuperseded k (λ e. other (effect_moved it.installing d.installing.date d.installing.bypassed x e))
  status_moved x s (IsFailed f c out why) = IsFailed f c out why
  status_moved x s (IsNotChosen why at) = IsNotChosen why at

  status_back : (x : Id) (s : Status) → HasStatus it sel x s → HasStatus d sel x s
  status_back x s (IsInstalled e) =
      IsInstalled (effect_moved it.installing d.installing.date d.installing.bypassed x e)
  status_back x s (IsSuperseded k other) = IsSuperseded k (λ e. other (effect_moved d.installing date pairs x e))
  status_back x s (IsFailed f c out why) = IsFailed f c out why
  status_back x s (IsNotChosen why at) = IsNotChosen why at

  lines_moved : (lines : List Line) → AreInstallLines d sel lines → AreInstallLines it sel lines
  lines_moved lines are = record {
    ids = are.ids;
    rising = are.rising;
    status = are.status;
    lines_are = are.lines_are;
    each = λ x is. status_moved x (are.status x) (are.each x is);
    all = λ x s has. are.all x s (status_back x s has);
  }

-- it decides the same on another date
decides_on : (g : Global) (zone : Zone) (related : Option Zone) (sel : Selection) (bypass : Bypass) (date other : Text)
    (d : Decision) → IsDecision g zone related sel bypass date d
    → IsDecision g zone related sel bypass other
    (record d { installing = moved d.installing other d.installing.bypassed })
decides_on g zone related sel bypass date other d decides = record {
  cands = decides.cands;
  candidates = decides.candidates;
  setting = decides.setting;
  survivors = decides.survivors;
  kept = decides.kept;
  bypassed = decides.bypassed;
  are_bypassed = decides.are_bypassed;
  installing = ap (λ (i : Installation). moved i other i.bypassed) decides.installing;
}

pub same_lines : (g : Global) → IsGlobal g → (zone : Zone) (related : Option Zone) (sel : Selection) (bypass : Bypass)
    (date other : Text) (a b : Zone) (lines more : List Line)
    → InstallsSelected g zone related sel bypass date a lines
    → InstallsSelected g zone related sel bypass other b more → lines ≡ more
same_lines g is_global zone related sel bypass date other a b lines more is is' =
    let d = is.decision in
    let e = is'.decision in
    let same = decision_only g zone related sel bypass other
    (record d { installing = moved d.installing other d.installing.bypassed }) e
    (decides_on g zone related sel bypass date other d is.decides) is'.decides in
    (installs_only g is_global zone related sel bypass other b b lines more (record {
      decision = e;
      decides = is'.decides;
      lines_are = subst (λ e. AreInstallLines e sel lines) (sym same.is)
          (lines_moved d other e.installing.bypassed sel lines is.lines_are);
      installs = is'.installs;
    }) is').1
