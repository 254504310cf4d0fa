-- The empty global zone.
use Rattle.std.proofs.Common.{◌≡◌, [], ◌∷◌, arith}
use Rattle.std.proofs.lemmas.List.Elements.{All-nil}
use Rattle.terms.specs.declared.kinds.HoldKind.TheVariants.{System}
use Rattle.std.specs.Prelude.{All, IsTrue}
use Rattle.terms.specs.Types.{a_global}
use Rattle.terms.specs.Lookups.{is_received}
use Rattle.terms.specs.Global.{IsGlobal, IsSysmod, HasLoop, fits_roles}

no_loop : ¬ HasLoop (a_global [] [])
no_loop (srel, x, ([], named)) = absurd (omega (arith, named.1))
no_loop (srel, x, (y ∷ ys, leads)) = absurd (omega (arith, leads.0.1))

pub empty : IsGlobal (a_global [] [])
empty = record {
  sysmods = λ i j d less below. absurd (omega arith);
  holds = λ i j d less below. absurd (omega arith);
  formed = All-nil IsSysmod;
  no_loop = no_loop;
  roles = All-nil (λ s. All (λ v. IsTrue (fits_roles (a_global [] []) v)) s.vers);
  internal = All-nil (λ h. IsTrue h.internal → (h.kind ≡ System) × IsTrue (is_received (a_global [] []) h.id));
  none_carried = All-nil (λ s. s.holds ≡ []);
  size = omega arith;
}
