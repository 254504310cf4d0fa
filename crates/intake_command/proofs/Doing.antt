-- Acts one after the other.
use Rattle.std.proofs.Common.{List, [], ◌∷◌, ◌++◌, Result, Ok, Err, subst, refl}
use Rattle.std.specs.List.{All}
use Rattle.std.specs.Result.{OnErr}
use Rattle.std.proofs.lemmas.List.Elements.{All-append, All-cons, All-nil}
use Rattle.intake_command.specs.Acts.{HostAct, IsQuiet}
use Rattle.intake_command.specs.Done.{LeadTo, HasDone}
use Rattle.intake_command.specs.declared.surroundings.IntakeHost.{Ghosts}

-- what is so at an error
pub on_err : {T E P : Type 0} (r : Result T E) → P → OnErr r P
on_err (Ok value) p = tt
on_err (Err error) p = p

pub one : (P : HostAct → Type 0) (act : HostAct) → P act → All P (act ∷ [])
one P act is = All-cons P act [] is (All-nil P)

module _ {H : Type 0} (host : Ghosts H) where
  pub joined : (before : H) (acts more : List HostAct) (between after : H) → LeadTo host before acts between
      → LeadTo host between more after → LeadTo host before (acts ++ more) after
  joined before [] more between after lead next = subst (λ at. LeadTo host at more after) lead next
  joined before (act ∷ acts) more between after lead next =
      (lead.0, lead.1, joined lead.0 acts more between after lead.2 next)

  -- nothing yet
  pub idle : {Are : List HostAct → Type 0} (at : H) → Are [] → HasDone host Are at at
  idle at are = record { acts = []; lead = refl; are = are }

  -- one act
  pub did : {Are : List HostAct → Type 0} (before : H) (act : HostAct) (after : H) → host.does before act after
      → Are (act ∷ []) → HasDone host Are before after
  did before act after does are = record { acts = act ∷ []; lead = (after, does, refl); are = are }

  -- what was done first, and then
  pub both : {P Q R : List HostAct → Type 0} {before between after : H} → HasDone host P before between
      → HasDone host Q between after → ((xs ys : List HostAct) → P xs → Q ys → R (xs ++ ys))
      → HasDone host R before after
  both {P} {Q} {R} {before} {between} {after} p q all = record {
    acts = p.acts ++ q.acts;
    lead = joined before p.acts q.acts between after p.lead q.lead;
    are = all p.acts q.acts p.are q.are;
  }

  pub weaker : {P R : List HostAct → Type 0} {before after : H} → HasDone host P before after
      → ((xs : List HostAct) → P xs → R xs) → HasDone host R before after
  weaker p all = record { acts = p.acts; lead = p.lead; are = all p.acts p.are }

  pub quiet : {before between after : H} → HasDone host (All IsQuiet) before between
      → HasDone host (All IsQuiet) between after → HasDone host (All IsQuiet) before after
  quiet p q = both p q (λ xs ys a b. All-append IsQuiet xs ys a b)

  pub quiet_idle : (at : H) → HasDone host (All IsQuiet) at at
  quiet_idle at = idle at (All-nil IsQuiet)

  pub quiet_did : (before : H) (act : HostAct) (after : H) → host.does before act after → IsQuiet act
      → HasDone host (All IsQuiet) before after
  quiet_did before act after does is = did before act after does (one IsQuiet act is)
