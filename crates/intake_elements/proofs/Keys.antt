-- The numbers of what a statement changes.
use Rattle.std.proofs.Common.{◌≡◌, ℕ, true, List, ◌∷◌, map, inl, inr, sym, ap, subst, ◌∙◌, Contains}
use Rattle.terms.proofs.Each.{in_any}
use Rattle.terms.proofs.ListMembers.{here, there, in_map, map_in}
use Rattle.terms.specs.declared.kinds.ElemType.{ElemType}
use Rattle.terms.specs.declared.kinds.ElemType.TheVariants.{Mac}
use Rattle.terms.specs.Types.{Text}
use Rattle.intake_read.specs.declared.items.WideElement.{WideElement}
use Rattle.intake_elements.specs.StandInNames.{key_of}
use Rattle.intake_elements.specs.Elements.{IsTarget, modules_of, module_name, AreKeysOf}

pub keys_whole : {X : Type 0} (now : X → Text) (e : WideElement) (k : ℕ) (keys : List ℕ) (ms : List X)
    → ((type : ElemType) (name : Text) → IsTarget true e.word.items e.name.items type name → k ≡ key_of type name)
    → map now ms ≡ modules_of e → keys ≡ k ∷ map (λ m. key_of Mac (module_name (now m))) ms → AreKeysOf e keys
keys_whole now e k keys ms own are is type name (inl target) =
    let rest = map (λ m. key_of Mac (module_name (now m))) ms in
    subst (λ l. Contains l (key_of type name)) (sym is)
    (subst (Contains (k ∷ rest)) (own type name target) (here k rest))
keys_whole now e k keys ms own are is type name (inr any) =
    let rest = map (λ m. key_of Mac (module_name (now m))) ms in
    let m = in_any (λ m. (type ≡ Mac) × (name ≡ module_name m)) (modules_of e) any in
    let o = map_in now ms m.0 (subst (λ l. Contains l m.0) (sym are) m.1) in
    let same : key_of Mac (module_name (now o.0)) ≡ key_of type name =
    ap (λ t. key_of Mac (module_name t)) o.2 ∙ ap (key_of Mac) (sym m.2.1) ∙ ap (λ t. key_of t name) (sym m.2.0) in
    subst (λ l. Contains l (key_of type name)) (sym is)
    (there k rest (key_of type name)
    (subst (Contains rest) same (in_map (λ m. key_of Mac (module_name (now m))) ms o.0 o.1)))
