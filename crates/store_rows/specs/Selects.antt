-- Texts that are SELECTs, whatever the schema is under which they run.
use Rattle.std.specs.Prelude.{◌≡◌, ℕ, List, Bool, true, false, Ok, Err}
use Rattle.sqlite_ast.specs.declared.Statement.{Statement}
use Rattle.sqlite_ast.specs.declared.Statement.TheVariants as written
use Rattle.sqlite_syntax.specs.declared.statement.Parsed.{Parsed}
use Rattle.sqlite_resolve.specs.Lowering.{Checked}
use Rattle.sqlite_resolve.specs.Compile.{first}

abbrev pub selects : Statement → Bool
selects (written.Select s) = true
selects _ = false

abbrev pub reads_select : Checked Parsed → Bool
reads_select (Ok p) = selects p.statement
reads_select (Err e) = false

-- The grammar reads a SELECT; `refl` shows it of a text that is written out, under `unfolding everything` of
-- `sqlite_tied`.
abbrev pub IsSelect : List ℕ → Type 0
IsSelect sql = reads_select (first sql) ≡ true
