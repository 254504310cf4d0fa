-- Edits one after another, and edits that put holds.
use Rattle.std.proofs.Common.{◌≡◌, ◌∙◌, zero, suc, false, ◌||◌, List, [], ◌∷◌, ◌++◌, map, fold, IsTrue, refl, sym, ap}
use Rattle.std.proofs.Common.{subst, Option, Vec, arith}
use Rattle.std.specs.Prelude.{All}
use Rattle.std.specs.declared.alloc.Global.{Global as AnyGlobal}
use Rattle.std.specs.Option.{option_map_or}
use Rattle.std.proofs.lemmas.List.Elements.{All-head, All-tail, All-weaker}
use Rattle.terms.specs.declared.kinds.HoldKind.TheVariants.{System}
use Rattle.terms.specs.Types.{Text, Global, Sysmod, Hold}
use Rattle.terms.specs.Global.{IsSysmod, hold_cmp, hold_of, marked, hold, with_sysmod, received}
use Rattle.terms.specs.Rising.{with_item}
use Rattle.terms.specs.Lookups.{is_received}
use Rattle.sysmods.specs.declared.edit.GlobalEdit.{GlobalEdit}
use Rattle.sysmods.specs.declared.edit.GlobalEdit.TheVariants.{PutHold, InsertSysmod}
use Rattle.sysmods.specs.Edits.{AreSources, with_hold, stated_with, Fits, after_edit, EachFits, after_edits}
use Rattle.sysmods.specs.Edits.{StatesThose}
use Rattle.smpe_global.proofs.Stating.{received_there}

-- the mark of an internal hold stays as it is
marked_internal : (was : Option Hold) (h : Hold) → IsTrue h.internal → marked was h ≡ h
marked_internal was h is =
    ap (λ b. record h { internal = b || option_map_or (λ (old : Hold). old.internal) was false }) is
    ∙ ap (λ b. record h { internal = b }) (sym is)

put_internal : (g : Global) (h : Hold) → IsTrue h.internal → with_hold h g ≡ hold g h
put_internal g h is =
    ap (λ (m : Hold). record g { holds = with_item hold_cmp (λ (o : Hold). o) g.holds m })
    (sym (marked_internal (hold_of g h.id h.kind h.reason) h is))

module _ (stated : Global) where
  pub fits_none : (g : Global) → EachFits stated [] g
  fits_none g k edit below at = absurd (omega (arith, below))

  pub fits_first : (g : Global) (e : GlobalEdit) (es : List GlobalEdit) → Fits g e
      → EachFits stated es (after_edit stated g e) → EachFits stated (e ∷ es) g
  fits_first g e es one more zero edit below at = subst (Fits g) (sym at) one
  fits_first g e es one more (suc k) edit below at = more k edit (omega (arith, below)) at

  pub fits_rest : (g : Global) (e : GlobalEdit) (es : List GlobalEdit) → EachFits stated (e ∷ es) g
      → EachFits stated es (after_edit stated g e)
  fits_rest g e es fits k edit below at = fits (suc k) edit (omega (arith, below)) at

  -- edits that fit, and then others that fit what the former make
  pub fits_append : (g : Global) (es fs : List GlobalEdit) → EachFits stated es g
      → EachFits stated fs (after_edits stated es g) → EachFits stated (es ++ fs) g
  fits_append g [] fs front back = back
  fits_append g (e ∷ es) fs front back =
      fits_first g e (es ++ fs) (front zero e (omega arith) refl)
      (fits_append (after_edit stated g e) es fs (fits_rest g e es front) back)

  -- one edit
  pub fits_one : (g : Global) (e : GlobalEdit) → Fits g e → EachFits stated (e ∷ []) g
  fits_one g e one = fits_first g e [] one (fits_none (after_edit stated g e))

  puts_fit : (g : Global) (hs : List Hold) → EachFits stated (map (λ h. PutHold h) hs) g
  puts_fit g [] = fits_none g
  puts_fit g (h ∷ hs) = fits_first g (PutHold h) (map (λ h. PutHold h) hs) tt (puts_fit (with_hold h g) hs)

  puts_make : (g : Global) (hs : List Hold) → All (λ h. IsTrue h.internal) hs
      → after_edits stated (map (λ h. PutHold h) hs) g ≡ fold hold g hs
  puts_make g [] all = refl
  puts_make g (h ∷ hs) all =
      puts_make (with_hold h g) hs (All-tail (λ h. IsTrue h.internal) h hs all)
      ∙ ap (λ n. fold hold n hs) (put_internal g h (All-head (λ h. IsTrue h.internal) h hs all))

  -- the edits of a SYSMOD that is not received yet
  module _ (g : Global) (s : Sysmod) (sources : Vec Text AnyGlobal) where
    abbrev edits : List GlobalEdit
    edits = InsertSysmod s.id sources ∷ map (λ h. PutHold h) s.holds

    pub sysmod_fits : is_received g s.id ≡ false → AreSources sources.items → EachFits stated edits g
    sysmod_fits new rise = fits_first g (InsertSysmod s.id sources) (map (λ h. PutHold h) s.holds) (new, rise)
        (puts_fit (stated_with stated s.id sources.items g) s.holds)

    -- which is stated as it came
    inserted : sources.items ≡ s.sources → StatesThose stated (received g s)
        → stated_with stated s.id sources.items g ≡ with_sysmod g s
    inserted own states =
        ap (λ o. option_map_or (λ (r : Sysmod). with_sysmod g (record r { sources = sources.items })) o g)
        (states s.id (record s { holds = [] }) (received_there g s)).1
        ∙ ap (λ names. with_sysmod g (record s { sources = names })) own

    pub sysmod_makes : sources.items ≡ s.sources → IsSysmod s → StatesThose stated (received g s)
        → after_edits stated edits g ≡ received g s
    sysmod_makes own known states =
        ap (after_edits stated (map (λ h. PutHold h) s.holds)) (inserted own states)
        ∙ puts_make (with_sysmod g s) s.holds
        (All-weaker (λ h. IsTrue h.internal × (h.kind ≡ System) × (h.id ≡ s.id)) (λ h. IsTrue h.internal) (λ h k. k.0)
        s.holds known.holds)
