-- Where over orders the SYSMODs of an install that share an element, one decides at each number that some updater
-- touches.
use Rattle.std.proofs.Common.{◌≢◌, ℕ, Option, Contains, ap, is_some}
use Rattle.terms.proofs.TextOrder.{same_or_not}
use Rattle.terms.specs.declared.kinds.ElemType.{ElemType}
use Rattle.terms.specs.Types.{Text, Id, Lines}
use Rattle.terms.specs.Over.{names, IsOver}
use Rattle.terms.specs.Tests.{ShareElement}
use Rattle.terms.specs.Texts.{Touches}
use Rattle.terms.specs.Install.{Installation, IsUpdater, Decides}
use Rattle.terms.proofs.Leads.{reaches_through}
use Rattle.machine_laws.proofs.Topmost.{topmost}

-- It can't be refuted that over orders any two kept SYSMODs that share an element.
abbrev pub AreOrdered : Installation → Type 0
AreOrdered i =
    (x y : Id) → Contains i.kept x → Contains i.kept y → x ≢ y → ShareElement i.global x y
    → ¬ ((¬ IsOver i.choice x y) × (¬ IsOver i.choice y x))

module _ (i : Installation) (type : ElemType) (name : Text) (replacer : Option Id) where
  -- y updates the element at the number n
  abbrev pub UpdatesAt : ℕ → Id → Type 0
  UpdatesAt n y = (update : Lines) × IsUpdater i type name replacer y update × Touches update n

  module _ (ordered : AreOrdered i) where
    updates_ordered : (n : ℕ) (x y : Id) → UpdatesAt n x → UpdatesAt n y → x ≢ y
        → ¬ ((¬ IsOver i.choice x y) × (¬ IsOver i.choice y x))
    updates_ordered n x y of_x of_y other =
        ordered x y of_x.1.installed.kept of_y.1.installed.kept other
        (type, name, ap is_some of_x.1.updates.1, ap is_some of_y.1.updates.1)

    pub decider : (n : ℕ) (y : Id) → UpdatesAt n y
        → ¬ ¬ ((x : Id) × (update : Lines) × Decides i type name replacer n x update)
    decider n y updates refuted =
        topmost (UpdatesAt n) (IsOver i.choice) same_or_not (reaches_through (names i.choice)) (updates_ordered n)
        i.kept y updates.1.installed.kept updates (λ found.
        let x = found.0 in
        let top = found.1 in
        refuted (
          x,
          top.is.0,
          record {
            updater = top.is.1;
            touches = top.is.2;
            over = λ z other updater touches apart. top.over z updater.installed.kept (other, updater, touches) apart;
          },
        ))
