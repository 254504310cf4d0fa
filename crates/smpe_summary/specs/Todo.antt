-- What is to be done, and what is taken off.
use Rattle.std.specs.Prelude.{◌&&◌, Bool, true, false, not, List, [], ◌∷◌, ◌++◌, filter, map, if◌then◌else◌}
use Rattle.std.specs.List.{flat_map}
use Rattle.std.specs.Option.{option_map_or}
use Rattle.terms.specs.declared.kinds.Kind.{Kind}
use Rattle.terms.specs.declared.kinds.Kind.TheVariants.{Usermod}
use Rattle.terms.specs.declared.kinds.HoldKind.TheVariants.{System, User}
use Rattle.terms.specs.declared.codes.NeedKind.{NeedKind}
use Rattle.terms.specs.declared.codes.NeedKind.TheVariants as need
use Rattle.terms.specs.Types.{Id, Hold, Global, Zone}
use Rattle.terms.specs.Lookups.{is_nil, sysmod_of, is_received, holds_of, applied_ids}
use Rattle.terms.specs.Choice.{Choice, del_of}
use Rattle.terms.specs.Deleted.{is_taken_out}
use Rattle.machine.specs.Outcome.{OpenNeed, Failure, Failed, Line, StatusLine}
use Rattle.smpe_summary.specs.declared.values.ToDo.{ToDo}
use Rattle.smpe_summary.specs.declared.values.ToDo.TheVariants as todo

-- ---- what is to be done

-- kinds of needs that a SYSMOD which is received would serve
abbrev pub is_orderable : NeedKind → Bool
is_orderable need.Fmid = true
is_orderable need.Pre = true
is_orderable need.Req = true
is_orderable need.Ifreq = true
is_orderable _ = false

abbrev pub is_error_hold : NeedKind → Bool
is_error_hold need.HoldError = true
is_error_hold _ = false

-- the id of an open need, if it is to be ordered
abbrev pub order_of : Global → OpenNeed → List Id
order_of g n = if is_orderable n.kind && not (is_received g n.id) then n.id ∷ [] else []

-- what the SYSMOD y needs and is not received, if others fail because of it
abbrev pub wants_by : Global → (Id → List Id) → Id → Failure → List Id
wants_by g blocks y f = if is_nil (blocks y) then [] else flat_map (order_of g) f.needs

-- the same of the SYSMOD of the line
abbrev pub wants_in : Global → (Id → List Id) → Line → List Id
wants_in g blocks (StatusLine y place (Failed f)) = wants_by g blocks y f
wants_in g blocks _ = []

abbrev pub wanted : Global → (Id → List Id) → List Line → List Id
wanted g blocks lines = flat_map (wants_in g blocks) lines

abbrev pub act : Id → Hold → ToDo
act y h = todo.Act y h.reason

abbrev pub ask : Id → Hold → ToDo
ask y h = todo.Ask y h.reason

abbrev pub wait_of : Id → OpenNeed → List ToDo
wait_of y n = if is_error_hold n.kind then todo.Wait y n.id ∷ [] else []

-- the holds of a causer
abbrev pub acts_of : Global → Id → Failure → List ToDo
acts_of g y f =
    map (act y) (holds_of g System y) ++ map (ask y) (holds_of g User y) ++ flat_map (wait_of y) f.needs

abbrev pub acts_by : Global → (Id → List Id) → Id → Failure → List ToDo
acts_by g blocks y f = if is_nil (blocks y) then [] else acts_of g y f

abbrev pub acts_in : Global → (Id → List Id) → Line → List ToDo
acts_in g blocks (StatusLine y place (Failed f)) = acts_by g blocks y f
acts_in g blocks _ = []

-- ---- what is taken off

-- the DELETE of `by` takes off these, and these USERMODs among them
pub record TakenOff : Type 0 where
  pub by : Id
  pub ids : List Id
  pub usermods : List Id

abbrev pub is_usermod_kind : Kind → Bool
is_usermod_kind Usermod = true
is_usermod_kind _ = false

abbrev pub is_usermod : Global → Id → Bool
is_usermod g x = option_map_or (λ s. is_usermod_kind s.kind) (sysmod_of g x) false

-- the applied SYSMODs that its DELETE takes out
abbrev pub taken_ids : Global → Choice → Zone → Id → List Id
taken_ids g c zone y = filter (is_taken_out g c (del_of c y) zone) (applied_ids zone)

abbrev pub taken_by : Global → Id → List Id → List TakenOff
taken_by g y ids = if is_nil ids then [] else record { by = y; ids = ids; usermods = filter (is_usermod g) ids } ∷ []

abbrev pub taken_off : Global → Choice → Zone → List Id → List TakenOff
taken_off g c zone ys = flat_map (λ y. taken_by g y (taken_ids g c zone y)) ys
