-- Courses of acts, one behind the other.
use Rattle.std.proofs.Common.{ℕ, List, [], ◌∷◌, ◌++◌, Option, refl, sym, ◌∙◌, ap, subst, append_assoc, append-nil}
use Rattle.std.specs.List.{flat_map}
use Rattle.std.specs.Io.KnownBytes.{Appends}
use Rattle.std.proofs.KnownBytes.{Appends-nil, Appends-trans}
use Rattle.std.proofs.lemmas.List.Concat.{flat_map-append}
use Rattle.machine.specs.Machine.{Act}
use Rattle.machine.specs.Outcome.{Outcome}
use Rattle.machine.specs.Report.{text}
use Rattle.machine.proofs.Joined.{runs_append, runs_one}
use Rattle.report.specs.Sent.{WrotePart}
use Rattle.smpe_jobs.specs.Course.{AllRan, Course, Unreported, AtNext}

module _ {W : Type 0} (Steps : W → Act → W → List Outcome → Type 0) where
  -- ---- acts that ran: what they reported is seen by those who use these

  abbrev pub ran_none : (at : W) (taken : Option (List ℕ)) → AllRan Steps at [] at taken taken
  ran_none at taken = record { outcomes = []; runs = (refl, refl); appends = Appends-nil taken }

  -- one that reports nothing
  abbrev pub ran_quiet : (start end : W) (act : Act) (taken : Option (List ℕ)) → Steps start act end []
      → AllRan Steps start (act ∷ []) end taken taken
  ran_quiet start end act taken step = record {
    outcomes = [];
    runs = runs_one Steps start end act [] step;
    appends = Appends-nil taken;
  }

  -- one that reports this
  abbrev pub ran_one : (start end : W) (act : Act) (outcome : Outcome) (old new : Option (List ℕ))
      → Steps start act end (outcome ∷ []) → Appends old new (text outcome)
      → AllRan Steps start (act ∷ []) end old new
  ran_one start end act outcome old new step appends = record {
    outcomes = outcome ∷ [];
    runs = runs_one Steps start end act (outcome ∷ []) step;
    appends = subst (Appends old new) (sym (append-nil (text outcome))) appends;
  }

  -- acts, and then others
  abbrev pub ran_more : (start mid end : W) (xs ys : List Act) (a b c : Option (List ℕ)) → AllRan Steps start xs mid a b
      → AllRan Steps mid ys end b c → AllRan Steps start (xs ++ ys) end a c
  ran_more start mid end xs ys a b c front back = record {
    outcomes = front.outcomes ++ back.outcomes;
    runs = runs_append Steps start mid end xs ys front.outcomes back.outcomes front.runs back.runs;
    appends = subst (Appends a c) (sym (flat_map-append text front.outcomes back.outcomes))
        (Appends-trans a b c (flat_map text front.outcomes) (flat_map text back.outcomes) front.appends back.appends);
  }

  -- the report of an act broke off
  pub unreported : (IsLeft : W → Type 0) (before after : W) (act : Act) (outcome : Outcome) (old new : Option (List ℕ))
      → Steps before act after (outcome ∷ []) → IsLeft after → WrotePart old new (text outcome)
      → Unreported Steps IsLeft new before old act
  unreported IsLeft before after act outcome old new step left part =
      (after, outcome ∷ [], step, left, subst (WrotePart old new) (sym (append-nil (text outcome))) part)

  -- ---- and a last step

  module _ (Last : W → Option (List ℕ) → List Act → Type 0) where
    -- behind no act
    pub course_first : (at : W) (acts : List Act) (taken : Option (List ℕ)) → Last at taken acts
        → Course Steps Last at acts taken
    course_first at acts taken last = record {
      done = [];
      rest = acts;
      acts_are = refl;
      before = at;
      had = taken;
      ran = ran_none at taken;
      last = last;
    }

    -- behind acts that ran
    pub course_after : (start mid : W) (xs ys : List Act) (a b : Option (List ℕ)) → AllRan Steps start xs mid a b
        → Course Steps Last mid ys b → Course Steps Last start (xs ++ ys) a
    course_after start mid xs ys a b front back = record {
      done = xs ++ back.done;
      rest = back.rest;
      acts_are = ap (λ zs. xs ++ zs) back.acts_are ∙ sym (append_assoc xs back.done back.rest);
      before = back.before;
      had = back.had;
      ran = ran_more start mid back.before xs back.done a b back.had front back.ran;
      last = back.last;
    }

    -- before acts that were never begun
    pub course_more : (start : W) (xs ys : List Act) (a : Option (List ℕ))
        → ((before : W) (had : Option (List ℕ)) (rest : List Act) → Last before had rest
        → Last before had (rest ++ ys))
        → Course Steps Last start xs a → Course Steps Last start (xs ++ ys) a
    course_more start xs ys a more course = record {
      done = course.done;
      rest = course.rest ++ ys;
      acts_are = ap (λ zs. zs ++ ys) course.acts_are ∙ append_assoc course.done course.rest ys;
      before = course.before;
      had = course.had;
      ran = course.ran;
      last = more course.before course.had course.rest course.last;
    }

    -- seen as another one
    pub course_as : (Other : W → Option (List ℕ) → List Act → Type 0) (start : W) (acts : List Act)
        (a : Option (List ℕ))
        → ((before : W) (had : Option (List ℕ)) (rest : List Act) → Last before had rest → Other before had rest)
        → Course Steps Last start acts a → Course Steps Other start acts a
    course_as Other start acts a same course = record {
      done = course.done;
      rest = course.rest;
      acts_are = course.acts_are;
      before = course.before;
      had = course.had;
      ran = course.ran;
      last = same course.before course.had course.rest course.last;
    }

module _ {W : Type 0} (Ended : W → Option (List ℕ) → Act → Type 0) where
  pub next_more : (before : W) (had : Option (List ℕ)) (rest more : List Act) → AtNext Ended before had rest
      → AtNext Ended before had (rest ++ more)
  next_more before had [] more none = absurd none
  next_more before had (next ∷ rest) more ended = ended

  pub next_as : (Other : W → Option (List ℕ) → Act → Type 0)
      → ((before : W) (had : Option (List ℕ)) (act : Act) → Ended before had act → Other before had act)
      → (before : W) (had : Option (List ℕ)) (rest : List Act) → AtNext Ended before had rest
      → AtNext Other before had rest
  next_as Other same before had [] none = none
  next_as Other same before had (next ∷ rest) ended = same before had next ended
