-- What APPLY and ACCEPT decide is determined, but for the order of the pairs of bypassed requisites.
use Rattle.std.proofs.Common.{◌≡◌, ◌∙◌, List, Option, Contains, sym, ap, subst}
use Rattle.std.specs.Prelude.{◌↔◌, ◌+◌}
use Rattle.terms.specs.Types.{Text, Id, Global, Zone, Bypass, Selection}
use Rattle.terms.specs.Lookups.{IsRising}
use Rattle.terms.specs.Choice.{place, counting}
use Rattle.terms.specs.Candidates.{AreCandidates}
use Rattle.terms.specs.Tests.{Setting, AreSurvivors}
use Rattle.terms.specs.Needs.{bypassed_ids}
use Rattle.terms.specs.Install.{Installation}
use Rattle.terms.specs.Judged.{setting, IsKeptSet, Stays}
use Rattle.terms.proofs.RisingAlike.{rises_only}
use Rattle.machine.specs.Installing.{Decision, IsDecision}
use Rattle.std.proofs.lemmas.Cmp.{nat_list_cmp_total}

-- Lists that rise and have what has a property are one.
pub members_only : (P : Id → Type 0) (xs ys : List Id) → IsRising xs → IsRising ys
    → ((x : Id) → Contains xs x ↔ P x) → ((x : Id) → Contains ys x ↔ P x) → xs ≡ ys
members_only P xs ys rises rises' has has' =
    rises_only nat_list_cmp_total (λ x. x) xs ys rises rises' (λ x there. (has' x).1 ((has x).0 there))
    (λ x there. (has x).1 ((has' x).0 there))

pub candidates_only : (g : Global) (zone : Zone) (sel : Selection) (xs ys : List Id) → AreCandidates g zone sel xs
    → AreCandidates g zone sel ys → xs ≡ ys
candidates_only g zone sel xs ys is is' = members_only _ xs ys is.rising is'.rising is.members is'.members

pub survivors_only : (s : Setting) (xs ys : List Id) → AreSurvivors s xs → AreSurvivors s ys → xs ≡ ys
survivors_only s xs ys is is' = members_only _ xs ys is.rising is'.rising is.members is'.members

pub kept_only : (s : Setting) (xs ys : List Id) → IsKeptSet s xs → IsKeptSet s ys → xs ≡ ys
kept_only s xs ys is is' =
    let same = survivors_only s is'.survivors is.survivors is'.are_survivors is.are_survivors in
    members_only (Stays s is.survivors) xs ys is.rising is'.rising is.members
    (subst (λ survivors. (x : Id) → Contains ys x ↔ Stays s survivors x) same is'.members)

-- the decision with its bypassed requisites in another list
abbrev pub with_bypassed : Decision → List (Id × Id) → Decision
with_bypassed d pairs = record d { installing = record d.installing { bypassed = pairs } }

-- The two decisions differ at most in the order of the bypassed requisites.
pub record SameDecision (d e : Decision) : Type 0 where
  pub is : e ≡ with_bypassed d e.installing.bypassed
  pub bypassed : (p : Id × Id) → Contains d.installing.bypassed p ↔ Contains e.installing.bypassed p

a_decision : Setting → List Id → List Id → Installation → Decision
a_decision s survivors kept i = record { setting = s; survivors = survivors; kept = kept; installing = i }

module _ (g : Global) (zone : Zone) (related : Option Zone) (sel : Selection) (bypass : Bypass) (date : Text) where
  install : List Id → List Id → List (Id × Id) → Installation
  install cands kept bypassed = record {
    global = g;
    choice = counting g zone cands;
    number = λ x. place g zone cands x + 1;
    zone = zone;
    kept = kept;
    bypassed = bypassed;
    date = date;
  }

  -- the bypassed requisites of what is kept
  are_pairs : (d : Decision) → IsDecision g zone related sel bypass date d → (p : Id × Id)
      → Contains d.installing.bypassed p ↔ (Contains d.kept p.0 × Contains (bypassed_ids d.setting p.0) p.1)
  are_pairs d of_d p =
      subst (λ pairs. Contains pairs p ↔ (Contains d.kept p.0 × Contains (bypassed_ids d.setting p.0) p.1))
      (sym (ap (λ (i : Installation). i.bypassed) of_d.installing)) (of_d.are_bypassed p.0 p.1)

  pub decision_only : (d e : Decision) → IsDecision g zone related sel bypass date d
      → IsDecision g zone related sel bypass date e → SameDecision d e
  unfolding a_decision install
  decision_only d e of_d of_e =
      let cands = candidates_only g zone sel of_e.cands of_d.cands of_e.candidates of_d.candidates in
      let settings : e.setting ≡ d.setting =
      of_e.setting ∙ ap (λ ids. setting g zone related ids bypass) cands ∙ sym of_d.setting in
      let survivors = survivors_only d.setting e.survivors d.survivors
      (subst (λ s. AreSurvivors s e.survivors) settings of_e.survivors) of_d.survivors in
      let kept = kept_only d.setting e.kept d.kept (subst (λ s. IsKeptSet s e.kept) settings of_e.kept) of_d.kept in
      let installing : e.installing ≡ record d.installing { bypassed = e.installing.bypassed } =
      of_e.installing ∙ ap (λ ids. install ids e.kept of_e.bypassed) cands
      ∙ ap (λ ids. install of_d.cands ids of_e.bypassed) kept
      ∙ ap (λ pairs. install of_d.cands d.kept pairs) (sym (ap (λ (i : Installation). i.bypassed) of_e.installing))
      ∙ ap (λ (i : Installation). record i { bypassed = e.installing.bypassed }) (sym of_d.installing) in
      record {
        is = ap (λ s. a_decision s e.survivors e.kept e.installing) settings
            ∙ ap (λ ids. a_decision d.setting ids e.kept e.installing) survivors
            ∙ ap (λ ids. a_decision d.setting d.survivors ids e.installing) kept
            ∙ ap (λ i. a_decision d.setting d.survivors d.kept i) installing;
        bypassed = λ p.
            let of_e_pairs = subst (λ ids. Contains e.installing.bypassed p ↔ (Contains ids p.0
            × Contains (bypassed_ids d.setting p.0) p.1)) kept
            (subst (λ s. Contains e.installing.bypassed p ↔ (Contains e.kept p.0 × Contains (bypassed_ids s p.0) p.1))
            settings (are_pairs e of_e p)) in
            let of_d_pairs = are_pairs d of_d p in
            (λ there. of_e_pairs.1 (of_d_pairs.0 there), λ there. of_d_pairs.1 (of_e_pairs.0 there));
      }
