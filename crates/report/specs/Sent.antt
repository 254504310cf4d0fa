-- How much of a text went out.
use Rattle.std.specs.Prelude.{◌≡◌, ℕ, List, ◌++◌, Option, Bool, true, false}
use Rattle.std.specs.Io.KnownBytes.{Appends, Keeps}
use Rattle.report.specs.declared.sink.Sink.{Ghosts}

-- a beginning of the text went out
pub record WrotePart (old new : Option (List ℕ)) (text : List ℕ) : Type 0 where
  pub piece : List ℕ
  pub lost : List ℕ
  pub text_is : text ≡ piece ++ lost
  pub bytes : Appends old new piece

-- A sink that had not failed took all of the text, or took a beginning of it and has failed since.
abbrev pub Went : Option (List ℕ) → Option (List ℕ) → Bool → List ℕ → Type 0
Went old new false text = Appends old new text
Went old new true text = WrotePart old new text

-- A text was sent to a sink. A sink that had failed took nothing and remains failed.
abbrev pub Sends : Option (List ℕ) → Bool → Option (List ℕ) → Bool → List ℕ → Type 0
Sends old true new failed text = (failed ≡ true) × Keeps old new
Sends old false new failed text = Went old new failed text

-- the same of a sink, before and after
abbrev pub Sent : {W : Type 0} → Ghosts W → W → W → List ℕ → Type 0
Sent g old new text = Sends (g.taken old) (g.has_failed old) (g.taken new) (g.has_failed new) text
