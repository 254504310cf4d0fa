-- Actions that were tried.
use Rattle.std.specs.Prelude.{map}
use Rattle.terms.specs.Types.{Global}
use Rattle.report.specs.Views.{line_view}
use Rattle.smpe_mend.specs.declared.growing.Tried.{Tried}
use Rattle.smpe_mend.specs.declared.growing.Found.{Found}
use Rattle.smpe_mend.specs.declared.growing.Found.TheVariants.{Repair, Nothing}
use Rattle.smpe_mend.specs.Runs.{Asked, Does}
use Rattle.smpe_mend.specs.Mends.{IsHopeless}

-- With these actions the command does it.
abbrev pub Repairs : Global → Asked → Tried → Type 0
Repairs g a t = Does g a t.actions.items (map line_view t.lines.items)

-- Either they do it, or nothing does.
abbrev pub IsFound : Global → Asked → Found → Type 0
IsFound g a (Repair t) = Repairs g a t
IsFound g a (Nothing t) = IsHopeless g a t.actions.items (map line_view t.lines.items)
