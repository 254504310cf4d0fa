-- What stands in for an id goes again.
use Rattle.std.proofs.Common.{◌≡◌, ◌∙◌, ◌&&◌, Bool, true, false, not, refl, ap, ap₂, subst, is_some, cond}
use Rattle.std.proofs.Common.{Option}
use Rattle.std.proofs.Common.{None, Some, IsTrue}
use Rattle.std.specs.Prelude.{Result, Ok, Err, IsOk, OnOk}
use Rattle.std.specs.Str.{bytes_eq}
use Rattle.std.proofs.lemmas.Bool.{false≢true}
use Rattle.std.proofs.lemmas.List.Elements.{All-weaker}
use Rattle.terms.specs.declared.kinds.Kind.{Kind}
use Rattle.terms.specs.declared.kinds.HoldKind.TheVariants.{System}
use Rattle.terms.specs.Types.{Id, Srel, Hold, Sysmod, Global, a_global}
use Rattle.terms.specs.Lookups.{is_received, sysmod_of}
use Rattle.terms.specs.Global.{IsGlobal, Receives, AlreadyReceived, without_sysmod}
use Rattle.terms.proofs.TextOrder.{same_from, same_itself}
use Rattle.terms.proofs.Searches.{filter_all}
use Rattle.terms.proofs.GlobalLookups.{sysmod_of_with_sysmod}
use Rattle.sysmods.proofs.Taken.{taken_out}
use Rattle.smpe_mend.specs.Runs.{stand_in}

-- what a call ensures if it succeeds
pub from_ok : {A E : Type 0} (P : Type 0) (r : Result A E) → IsOk r → OnOk r P → P
from_ok P (Ok x) is on = on
from_ok P (Err e) is on = absurd (false≢true is)

none_found : (o : Option Sysmod) → (IsTrue (is_some o) → ⊥) → o ≡ None
none_found None unknown = refl
none_found (Some s) unknown = absurd (unknown refl)

module _ (g : Global) (x : Id) (fresh : IsTrue (is_received g x) → ⊥) where
  -- no hold on it is internal, since it was not received
  kept_hold : (h : Hold) → (IsTrue h.internal → (h.kind ≡ System) × IsTrue (is_received g h.id))
      → not (h.internal && bytes_eq h.id x) ≡ true
  kept_hold h owned = by h.internal (bytes_eq h.id x) refl refl
    where
      by : (i b : Bool) → h.internal ≡ i → bytes_eq h.id x ≡ b → not (h.internal && bytes_eq h.id x) ≡ true
      by false b i e = rw i refl
      by true false i e = rw (i, e) refl
      by true true i e = absurd (fresh (subst (λ y. IsTrue (is_received g y)) (same_from h.id x e) (owned i).1))

module _ (g new : Global) (srel : Srel) (kind : Kind) (x : Id) where
  -- once it is received, REJECT makes the zone what it was
  pub taken_back : IsGlobal g → Receives g (stand_in srel kind x) (Ok new) → without_sysmod new x ≡ g
  taken_back form r =
      ap (λ n. without_sysmod n x) r.1
      ∙ ap₂ a_global (taken_out g.sysmods (stand_in srel kind x) form.sysmods (none_found _ (r.0 AlreadyReceived)))
      (filter_all (λ h. not (h.internal && bytes_eq h.id x)) g.holds
      (All-weaker (λ h. IsTrue h.internal → (h.kind ≡ System) × IsTrue (is_received g h.id))
      (λ h. not (h.internal && bytes_eq h.id x) ≡ true) (kept_hold g x (r.0 AlreadyReceived)) g.holds form.internal))

  pub is_there : Receives g (stand_in srel kind x) (Ok new) → IsTrue (is_received new x)
  is_there r =
      ap (λ n. is_received n x) r.1
      ∙ ap is_some (sysmod_of_with_sysmod g (stand_in srel kind x) x
      ∙ ap (λ b. cond b (Some (stand_in srel kind x)) (sysmod_of g x)) (same_itself x))
