-- What is on a page, and what has gone from there to its sink.
use Rattle.std.specs.Prelude.{◌≡◌, ℕ, List, ◌++◌, Option, Bool, true, false}
use Rattle.std.specs.Io.KnownBytes.{Appends, Keeps}
use Rattle.report.specs.declared.sink.Sink.{Ghosts}
use Rattle.report.specs.declared.page.Page.{Page}

-- which sink it is, what that has taken, and what still waits to go there
pub record Held : Type 0 where
  pub name : ℕ
  pub taken : Option (List ℕ)
  pub waiting : List ℕ

-- some of what waited and of the text went out, and the rest waits
pub record Moved (old new : Held) (text : List ℕ) : Type 0 where
  pub piece : List ℕ
  pub text_is : old.waiting ++ text ≡ piece ++ new.waiting
  pub bytes : Appends old.taken new.taken piece

-- a beginning of it went out
pub record MovedPart (old new : Held) (text : List ℕ) : Type 0 where
  pub piece : List ℕ
  pub lost : List ℕ
  pub text_is : old.waiting ++ text ≡ piece ++ lost
  pub bytes : Appends old.taken new.taken piece

-- A sink that had not failed is still well, or has failed since.
abbrev pub Moves : Held → Held → Bool → List ℕ → Type 0
Moves old new false text = Moved old new text
Moves old new true text = MovedPart old new text

-- A text was print on a page. A sink that had failed took nothing and remains failed.
abbrev pub Writes : Held → Bool → Held → Bool → List ℕ → Type 0
Writes old true new failed text = (failed ≡ true) × Keeps old.taken new.taken
Writes old false new failed text = Moves old new failed text

-- the same, and the page still has its sink
pub record OnPage (old : Held) (had_failed : Bool) (new : Held) (failed : Bool) (text : List ℕ) : Type 0 where
  pub same_reference : new.name ≡ old.name
  pub writes : Writes old had_failed new failed text

abbrev pub held : {W : Type 0} → Ghosts W → Page W → Held
held g page = record { name = page.sink.ghost_name; taken = g.taken page.sink.now; waiting = page.waiting.items }

-- the same of a page, before and after
abbrev pub Paged : {W : Type 0} → Ghosts W → Page W → Page W → List ℕ → Type 0
Paged g old new text = OnPage (held g old) (g.has_failed old.sink.now) (held g new) (g.has_failed new.sink.now) text
