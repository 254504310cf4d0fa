-- The commands of one job, one after another.
use Rattle.std.proofs.Common.{◌≡◌, ℕ, List, [], ◌∷◌, ◌++◌, Option, Result, Ok, Err, map, max, refl, sym, ◌∙◌, ap, subst}
use Rattle.std.proofs.Common.{arith, append-nil}
use Rattle.std.specs.List.{flat_map}
use Rattle.std.specs.Io.KnownBytes.{Appends}
use Rattle.std.proofs.KnownBytes.{Appends-nil, Appends-trans}
use Rattle.std.specs.Result.{IsErrAnd}
use Rattle.std.proofs.lemmas.List.{map-append}
use Rattle.std.proofs.lemmas.Result.{err_from_is_err_and}
use Rattle.std.proofs.lemmas.List.Concat.{flat_map-append}
use Rattle.sqlite.specs.Store.{Ghosts}
use Rattle.sqlite.specs.Held.{Held}
use Rattle.terms.specs.Types.{Text, Command}
use Rattle.machine.specs.State.{State}
use Rattle.machine.specs.Outcome.{Outcome, outcome_code, job_code}
use Rattle.machine.specs.Report.{text}
use Rattle.machine.specs.Machine.{Files, Perform, Performs, Steps}
use Rattle.machine.specs.Runs.{Runs}
use Rattle.machine.proofs.Joined.{runs_append, runs_one}
use Rattle.store.specs.Causes.{IsLater}
use Rattle.store.specs.Kept.{Keeps}
use Rattle.smpe_session.specs.declared.session.Session.{Session}
use Rattle.smpe_session.specs.Sessions.{IsSessionOf}
use Rattle.smpe_jobs.specs.declared.error.JobError.{JobError}
use Rattle.smpe_jobs.specs.Ending.{EndsEarly}
use Rattle.smpe.specs.Commands.{EndsCommands}
use Rattle.smpe_jobs.proofs.Early.{early_after, early_more}

pub codes_append : (xs ys : List Outcome) → job_code (xs ++ ys) ≡ max (job_code xs) (job_code ys)
codes_append [] ys = omega arith
codes_append (x ∷ xs) ys = let e = codes_append xs ys in omega arith

module _ {S : Type 0} (g : Ghosts S) (date : Text) (files : Files) where
  -- the exit of a `?`
  pub commands_err : (began at : Held S) (s : State) (session : Session) (cs : List Command) (a b : Option (List ℕ))
      (r : Result ℕ JobError) (e : JobError)
      → IsErrAnd r (λ y. y ≡ e) → EndsEarly g began at s (map (Perform date files) cs) a b e
      → EndsCommands g began at s session date files cs a b r
  commands_err began at s session cs a b r e failed early =
      let p = err_from_is_err_and r failed in
      subst (EndsCommands g began at s session date files cs a b) (sym (p.1 ∙ ap (λ y. Err y) p.2)) early

  -- a command was performed, and was reported
  pub reported : (began at : Held S) (s t : State) (session : Session) (c : Command) (outcome : Outcome)
      (old new : Option (List ℕ)) (code : ℕ)
      → Performs date files s c t outcome → IsSessionOf t session → Keeps g at t → Appends old new (text outcome)
      → code ≡ outcome_code outcome
      → EndsCommands g began at s session date files (c ∷ []) old new (Ok code)
  reported began at s t session c outcome old new code performs is keeps appends told = (
    t,
    outcome ∷ [],
    runs_one Steps s t (Perform date files c) (outcome ∷ []) (outcome, performs, refl),
    is,
    keeps,
    subst (Appends old new) (sym (append-nil (text outcome))) appends,
    omega arith,
  )

  -- no command yet
  pub commands_none : (began at : Held S) (s : State) (session : Session) (taken : Option (List ℕ))
      → IsSessionOf s session
      → Keeps g at s → EndsCommands g began at s session date files [] taken taken (Ok 0)
  commands_none began at s session taken is keeps = (s, [], (refl, refl), is, keeps, Appends-nil taken, refl)

  module _ (s : State) (began before at : Held S) (session session' : Session) (xs ys : List Command)
      (a b c : Option (List ℕ)) (code : ℕ) where
    abbrev GoesOn : Result ℕ JobError → Type 0
    GoesOn r = (t : State) → IsSessionOf t session → Keeps g before t
        → EndsCommands g before at t session' date files ys b c r

    -- commands, and then others
    pub commands_more : (next : ℕ) → EndsCommands g began before s session date files xs a b (Ok code)
        → GoesOn (Ok next)
        → EndsCommands g began at s session' date files (xs ++ ys) a c (Ok (max code next))
    commands_more next (t, front, runs, is, keeps, appends, told) goes_on = joined (goes_on t is keeps)
      where
        joined : EndsCommands g before at t session' date files ys b c (Ok next)
            → EndsCommands g began at s session' date files (xs ++ ys) a c (Ok (max code next))
        joined (u, back, runs', is', keeps', appends', told') = (
          u,
          front ++ back,
          subst (λ acts. Runs Steps s acts u (front ++ back)) (sym (map-append (Perform date files) xs ys))
              (runs_append Steps s t u (map (Perform date files) xs) (map (Perform date files) ys) front back runs
              runs'),
          is',
          keeps',
          subst (Appends a c) (sym (flat_map-append text front back))
              (Appends-trans a b c (flat_map text front) (flat_map text back) appends appends'),
          ap (λ n. max n next) told ∙ ap (λ n. max (job_code front) n) told' ∙ sym (codes_append front back),
        )

    -- commands, and then some that ended early
    pub commands_stop : (e : JobError) → IsLater g began before
        → EndsCommands g began before s session date files xs a b (Ok code) → GoesOn (Err e)
        → EndsEarly g began at s (map (Perform date files) (xs ++ ys)) a c e
    commands_stop e later (t, front, runs, is, keeps, appends, told) goes_on =
        subst (λ acts. EndsEarly g began at s acts a c e) (sym (map-append (Perform date files) xs ys))
        (early_after g began before at later s t (map (Perform date files) xs) (map (Perform date files) ys) a b c e
        (record { outcomes = front; runs = runs; appends = appends }) (goes_on t is keeps))

  -- with commands behind that were never begun
  pub commands_early : (began at : Held S) (s : State) (xs ys : List Command) (a b : Option (List ℕ)) (e : JobError)
      → EndsEarly g began at s (map (Perform date files) xs) a b e
      → EndsEarly g began at s (map (Perform date files) (xs ++ ys)) a b e
  commands_early began at s xs ys a b e early =
      subst (λ acts. EndsEarly g began at s acts a b e) (sym (map-append (Perform date files) xs ys))
      (early_more g began at s (map (Perform date files) xs) (map (Perform date files) ys) a b e early)
