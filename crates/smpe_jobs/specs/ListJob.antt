-- Command files of two commands, and the one that lists a zone.
use Rattle.std.specs.Prelude.{ℕ, List, ◌++◌, codes}
use Rattle.terms.specs.Types.{Text}
use Rattle.machine.specs.Report.{left_in}

-- one record for each
abbrev pub two_records : Text → Text → List ℕ
two_records first second = left_in 80 first ++ left_in 80 second

abbrev pub list_records : Text → List ℕ
list_records zone = two_records (codes "SET BDY(" ++ zone ++ codes ").") (codes "LIST.")
