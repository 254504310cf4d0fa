-- Who needs what an id supplies does not depend on the distribution zone.
use Rattle.std.proofs.Common.{◌≡◌, [], ◌∷◌, Bool, sym, subst}
use Rattle.std.specs.Prelude.{◌↔◌}
use Rattle.terms.specs.declared.codes.NeedKind.TheVariants.{Dep}
use Rattle.terms.specs.Types.{Id, Global, Zone}
use Rattle.terms.specs.Lookups.{is_in}
use Rattle.terms.specs.Choice.{Choice, counting}
use Rattle.terms.specs.Restore.{Restoring, NeedsInRestore}
use Rattle.report.specs.Facts.{NeedsIt}

-- a RESTORE without a distribution zone of its own: no need as DEP looks at that
abbrev alone : Global → Choice → Zone → Zone → Restoring
alone g c zone accepted = record { global = g; choice = c; zone = zone; accepted = accepted }

any_accepted : (g : Global) (c : Choice) (zone one two : Zone) (listed : Id → Bool) (x y : Id)
    → NeedsInRestore (alone g c zone one) listed x Dep y → NeedsInRestore (alone g c zone two) listed x Dep y
any_accepted g c zone one two listed x y n =
    (n.0, record { other = n.1.other; applied = n.1.applied; depends = n.1.depends })

pub needs_it : (g : Global) (c : Choice) (zone : Zone) (x y : Id) → c ≡ counting g zone []
    → NeedsInRestore (alone g c zone zone) (is_in (x ∷ [])) x Dep y ↔ NeedsIt g zone x y
needs_it g c zone x y counts = (
  λ n accepted. any_accepted g (counting g zone []) zone zone accepted (is_in (x ∷ [])) x y
      (subst (λ ch. NeedsInRestore (alone g ch zone zone) (is_in (x ∷ [])) x Dep y) counts n),
  λ n. subst (λ ch. NeedsInRestore (alone g ch zone zone) (is_in (x ∷ [])) x Dep y) (sym counts) (n zone),
)
