-- What APPLY and ACCEPT decide is there, and so are the lines of it: that they are not can be refuted.
use Rattle.std.proofs.Common.{◌≡◌, List, Option}
use Rattle.std.proofs.Common.{Contains, refl, ap, subst, map}
use Rattle.std.specs.Prelude.{◌↔◌, ◌+◌}
use Rattle.std.specs.List.{flat_map}
use Rattle.std.proofs.lemmas.Bool.{and_parts}
use Rattle.terms.proofs.ListMembers.{in_map, map_in, flat_in, in_flat}
use Rattle.terms.specs.Types.{Text, Id, Global, Zone, Bypass, Selection}
use Rattle.terms.specs.Choice.{place, counting}
use Rattle.terms.specs.Candidates.{AreCandidates, IsCandidate}
use Rattle.terms.specs.Tests.{Setting, Survives, AreSurvivors}
use Rattle.terms.specs.Needs.{bypassed_ids}
use Rattle.terms.specs.Judged.{setting, Stays, IsKeptSet}
use Rattle.machine.specs.Installing.{Decision, IsDecision}
use Rattle.machine_laws.proofs.Decisions.{candidate_open}
use Rattle.machine_laws.proofs.Causes.{those_stably}
use Rattle.terms.proofs.GlobalLookups.{installable_received}

-- ---- the candidates, the survivors and the kept set

received : Global → List Id
received g = map (λ s. s.id) g.sysmods

candidates_answered : (g : Global) (zone : Zone) (sel : Selection)
    → ¬ ¬ ((cands : List Id) × AreCandidates g zone sel cands)
unfolding received
candidates_answered g zone sel refuted = those_stably (IsCandidate g zone sel) (received g) (λ found. refuted (
  found.0,
  record {
    rising = found.1.rising;
    members = λ x. (
      λ is. ((found.1.members x).0 is).1,
      λ is. (found.1.members x).1 (
        installable_received g zone x (and_parts _ _ (candidate_open g zone sel x is)).0,
        is,
      ),
    );
  },
))

survivors_answered : (s : Setting) → ¬ ¬ ((survivors : List Id) × AreSurvivors s survivors)
survivors_answered s refuted = those_stably (Survives s) s.cands (λ found. refuted (
  found.0,
  record {
    rising = found.1.rising;
    members = λ x. (λ is. ((found.1.members x).0 is).1, λ is. (found.1.members x).1 (is.0.0, is));
  },
))

kept_answered : (s : Setting) (survivors : List Id) → AreSurvivors s survivors
    → ¬ ¬ ((kept : List Id) × IsKeptSet s kept)
kept_answered s survivors are refuted = those_stably (Stays s survivors) s.cands (λ found. refuted (
  found.0,
  record {
    survivors = survivors;
    are_survivors = are;
    rising = found.1.rising;
    members = λ x. (
      λ is. ((found.1.members x).0 is).1,
      λ is. (found.1.members x).1 ((is.1.eligible x is.2).0.0.0, is),
    );
  },
))

-- each id of the list with each that the function gives for it
paired : (Id → List Id) → List Id → List (Id × Id)
paired f xs = flat_map (λ x. map (λ z. (x, z)) (f x)) xs

in_paired : (f : Id → List Id) (xs : List Id) (x z : Id) → Contains (paired f xs) (x, z)
    ↔ (Contains xs x × Contains (f x) z)
unfolding paired
in_paired f xs x z = (
  λ is.
      let from = flat_in (λ x. map (λ z. (x, z)) (f x)) xs (x, z) is in
      let of = map_in (λ z. (from.0, z)) (f from.0) (x, z) from.2 in
      let first : from.0 ≡ x = ap (λ (p : Id × Id). p.0) of.2 in
      let second : of.0 ≡ z = ap (λ (p : Id × Id). p.1) of.2 in (
        subst (Contains xs) first from.1,
        subst (λ x. Contains (f x) z) first (subst (Contains (f from.0)) second of.1),
      ),
  λ both. in_flat (λ x. map (λ z. (x, z)) (f x)) xs x (x, z) both.0 (in_map (λ z. (x, z)) (f x) z both.1),
)

-- ---- the decision

pub decision_answered : (g : Global) (zone : Zone) (related : Option Zone) (sel : Selection) (bypass : Bypass)
    (date : Text) → ¬ ¬ ((d : Decision) × IsDecision g zone related sel bypass date d)
decision_answered g zone related sel bypass date refuted =
    candidates_answered g zone sel (λ cands.
    survivors_answered (setting g zone related cands.0 bypass) (λ survivors.
    kept_answered (setting g zone related cands.0 bypass) survivors.0 survivors.1 (λ kept.
    let s : Setting = setting g zone related cands.0 bypass in
    let pairs : List (Id × Id) = paired (bypassed_ids s) kept.0 in
    refuted (
      record {
        setting = s;
        survivors = survivors.0;
        kept = kept.0;
        installing = record {
          global = g;
          choice = counting g zone cands.0;
          number = λ x. place g zone cands.0 x + 1;
          zone = zone;
          kept = kept.0;
          bypassed = pairs;
          date = date;
        };
      },
      record {
        cands = cands.0;
        candidates = cands.1;
        setting = refl;
        survivors = survivors.1;
        kept = kept.1;
        bypassed = pairs;
        are_bypassed = in_paired (bypassed_ids s) kept.0;
        installing = refl;
      },
    ))))
