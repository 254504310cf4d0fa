-- What is told of causers. `blocks` are those that fail because of an id.
use Rattle.std.specs.Prelude.{◌≡◌, ◌++◌, List, map, IsPermutation, IsSortedBy}
use Rattle.std.specs.List.{flat_map}
use Rattle.terms.specs.Types.{Id, Global}
use Rattle.machine.specs.Outcome.{Line}
use Rattle.smpe_summary.specs.declared.values.Cause.{Cause as StoredCause}
use Rattle.smpe_summary.specs.declared.values.Member.{Member}
use Rattle.smpe_summary.specs.declared.values.ToDo.{ToDo}
use Rattle.smpe_summary.specs.declared.values.ToDo.TheVariants as todo
use Rattle.smpe_summary.specs.Sets.{IsSetOf}
use Rattle.smpe_summary.specs.Groups.{functions_of}
use Rattle.smpe_summary.specs.Causes.{cause_in}
use Rattle.smpe_summary.specs.Todo.{wanted, acts_in}
use Rattle.smpe_summary.specs.Views.{cause_view, is_worse}

-- the causes of these lines, the worst first
pub record AreRanked (g : Global) (blocks : Id → List Id) (lines : List Line) (causes : List StoredCause) : Type 0 where
  pub by_line : List StoredCause
  pub by_line_are : map cause_view by_line ≡ flat_map (cause_in g blocks) lines
  pub same : IsPermutation by_line causes
  pub worst_first : IsSortedBy is_worse causes

-- What is to be done: the functions that these SYSMODs lack and what the causers need are to be ordered, each once, and
-- then come the holds of the causers.
pub record IsTodo (g : Global) (blocks : Id → List Id) (lines : List Line) (ms : List Member) (ts : List ToDo) : Type 0
  where
    pub orders : List Id
    pub orders_are : IsSetOf orders (functions_of ms ++ wanted g blocks lines)
    pub todo : ts ≡ map todo.Order orders ++ flat_map (acts_in g blocks) lines
