-- The lines of what APPLY and ACCEPT decide are there: that they are not can be refuted.
use Rattle.std.proofs.Common.{◌≡◌, ◌∙◌, ◌⊎◌, inl, inr, Bool, true, false, List, ◌++◌, Option, None, Some, Contains}
use Rattle.std.proofs.Common.{refl, sym, map}
use Rattle.std.proofs.lemmas.List.Elements.{Contains-append_left, Contains-append_right}
use Rattle.terms.specs.declared.not_chosen.NotChosen.{NotChosen}
use Rattle.terms.specs.Types.{Text, Id, Global, Zone, Bypass, Selection}
use Rattle.terms.specs.Lookups.{is_in}
use Rattle.terms.specs.Candidates.{not_chosen}
use Rattle.terms.proofs.Ids.{in_or_not, Contains_from_is_in}
use Rattle.machine.specs.Outcome.{Status, Applied, Line, StatusLine}
use Rattle.machine.specs.Receiving.{place_of}
use Rattle.machine.specs.Installing.{Decision, IsDecision, HasStatus, IsInstalled, IsSuperseded, IsFailed, IsNotChosen}
use Rattle.machine.specs.Installing.{AreInstallLines}
use Rattle.machine_laws.proofs.Causes.{those_stably}
use Rattle.machine_laws.proofs.DecisionAnswered.{decision_answered}
use Rattle.machine_laws.proofs.InstallLines.{IsSound, sound, in_kept}

-- no reason is printed of an id that the command does not name
unnamed_none : (g : Global) (zone : Zone) (sel : Selection) (x : Id) → is_in (sel.select ++ sel.group) x ≡ false
    → not_chosen g zone sel x ≡ None
unfolding not_chosen
unnamed_none g zone sel x out = rw out

unchosen_named : (g : Global) (zone : Zone) (sel : Selection) (x : Id) (why : NotChosen)
    → not_chosen g zone sel x ≡ Some why → Contains (sel.select ++ sel.group) x
unchosen_named g zone sel x why at = by (is_in (sel.select ++ sel.group) x) refl
  where
    by : (b : Bool) → is_in (sel.select ++ sel.group) x ≡ b → Contains (sel.select ++ sel.group) x
    by true named = Contains_from_is_in (sel.select ++ sel.group) x named
    by false out = absurd (cc (sym (unnamed_none g zone sel x out) ∙ at))

module _ (d : Decision) (sel : Selection) (is : IsSound d sel) where
  -- the candidates, and what the command names
  concerned : List Id
  concerned = d.setting.cands ++ (sel.select ++ sel.group)

  cand_concerned : (x : Id) → Contains d.setting.cands x → Contains concerned x
  unfolding concerned
  cand_concerned x cand = Contains-append_left d.setting.cands (sel.select ++ sel.group) x cand

  status_concerned : (x : Id) (s : Status) → HasStatus d sel x s → Contains concerned x
  unfolding concerned
  status_concerned x s (IsInstalled e) = cand_concerned x (is.within x (in_kept d sel is x e))
  status_concerned x s (IsSuperseded k other) = cand_concerned x (is.within x k)
  status_concerned x s (IsFailed f c out why) = cand_concerned x c
  status_concerned x s (IsNotChosen why at) =
      Contains-append_right d.setting.cands (sel.select ++ sel.group) x
      (unchosen_named d.setting.global d.setting.zone sel x why at)

  abbrev Says : Id → Type 0
  Says x = (s : Status) × HasStatus d sel x s

  module _ (ids : List Id) (says : (x : Id) → Contains ids x → Says x) where
    -- the status of an id among these; that of others says nothing
    status_at : (x : Id) → Contains ids x ⊎ (¬ Contains ids x) → Status
    status_at x (inl there) = (says x there).0
    status_at x (inr out) = Applied

    status_has : (x : Id) (e : Contains ids x ⊎ (¬ Contains ids x)) → Contains ids x
        → HasStatus d sel x (status_at x e)
    unfolding status_at
    status_has x (inl there) h = (says x there).1
    status_has x (inr out) h = absurd (out h)

  pub lines_answered : ¬ ¬ ((lines : List Line) × AreInstallLines d sel lines)
  lines_answered refuted = those_stably Says concerned (λ found.
      let ids : List Id = found.0 in
      let says : (x : Id) → Contains ids x → Says x = λ x there. ((found.1.members x).0 there).1 in
      let status : Id → Status = λ x. status_at ids says x (in_or_not ids x) in
      refuted (
        map (λ x. StatusLine x (place_of d.setting.global x) (status x)) ids,
        record {
          ids = ids;
          rising = found.1.rising;
          status = status;
          lines_are = refl;
          each = λ x there. status_has ids says x (in_or_not ids x) there;
          all = λ x s has. (found.1.members x).1 (status_concerned x s has, (s, has));
        },
      ))

-- So APPLY and ACCEPT decide something, and have lines for it.
pub decided_lines : (g : Global) (zone : Zone) (related : Option Zone) (sel : Selection) (bypass : Bypass)
    (date : Text) → ¬ ¬ ((d : Decision) × IsDecision g zone related sel bypass date d
    × ((lines : List Line) × AreInstallLines d sel lines))
decided_lines g zone related sel bypass date refuted =
    decision_answered g zone related sel bypass date (λ decided.
    lines_answered decided.0 sel (sound g zone related sel bypass date decided.0 decided.1) (λ lines.
    refuted (decided.0, decided.1, lines)))
