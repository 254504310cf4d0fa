-- When a ++VER may stand behind another.
use Rattle.std.proofs.Common.{◌≡◌, ◌≢◌, ◌↔◌, inl, inr, Bool, IsTrue, IsFalse, sym, ap, ◌∙◌}
use Rattle.std.specs.Ordering.{is_lt}
use Rattle.std.proofs.lemmas.Cmp.{nat_list_cmp_total, tied_itself}
use Rattle.terms.specs.declared.kinds.Kind.{Kind}
use Rattle.terms.specs.declared.kinds.Kind.TheVariants.{Function}
use Rattle.terms.specs.Types.{Text, Ver}
use Rattle.terms.specs.Lookups.{is_before}
use Rattle.terms.proofs.IdPlaces.{before_once}
use Rattle.store_schema.specs.Forms.{AreVersApart}
use Rattle.store_schema.proofs.Numbered.{not_behind}

not_over_same : (x y : Text) → x ≡ y → IsFalse (is_before y x)
not_over_same x y same = ap (λ t. is_before y t) same ∙ ap is_lt (tied_itself nat_list_cmp_total y)

-- for one SREL
pub apart_same : (kind : Kind) (v w : Ver) (r : Bool) → v.srel ≡ w.srel
    → (IsTrue r ↔ ((kind ≢ Function) × (v.fmid ≢ w.fmid))) → (IsTrue r ↔ AreVersApart kind v w)
apart_same kind v w r same told = (
  λ yes. record {
    srels = not_over_same v.srel w.srel same;
    service = λ again. (told.0 yes).0;
    fmids = λ again. (told.0 yes).1;
  },
  λ h. told.1 (h.service same, h.fmids same),
)

-- and for two
pub apart_other : (kind : Kind) (v w : Ver) (r : Bool) → v.srel ≢ w.srel → r ≡ is_before v.srel w.srel
    → (IsTrue r ↔ AreVersApart kind v w)
apart_other kind v w r other told = (
  λ yes. record {
    srels = before_once v.srel w.srel (sym told ∙ yes);
    service = λ same. absurd (other same);
    fmids = λ same. absurd (other same);
  },
  λ h. elim (not_behind v.srel w.srel h.srels) [ inl low ↦ told ∙ low | inr same ↦ absurd (other same) ],
)
