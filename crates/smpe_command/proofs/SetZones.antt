-- The zones that SETs name, and the first that is not defined.
use Rattle.std.proofs.Common.{◌≡◌, ◌≢◌, ◌∙◌, ◌++◌, ◌<◌, ◌+◌, ℕ, List, [], ◌∷◌, All, map, take, drop}
use Rattle.std.proofs.Common.{get_or, length, ap, sym, subst, refl, append-nil, append_assoc}
use Rattle.std.proofs.lemmas.List.{map-append, take-append-drop, take_more}
use Rattle.std.proofs.lemmas.List.Concat.{flat_map-append}
use Rattle.std.proofs.lemmas.List.Elements.{All-append, All-cons, All-nil}
use Rattle.terms.specs.Types.{Text}
use Rattle.cntl.specs.Views.{command_of}
use Rattle.cntl.specs.declared.command.Command.{Command}
use Rattle.smpe_command.specs.Careful.{IsDefined, IsFirstUndefined, zone_set, zones_set}

abbrev pub named : List Command → List Text
named commands = zones_set (map command_of commands)

named_both : (xs ys : List Command) → named (xs ++ ys) ≡ named xs ++ named ys
named_both xs ys = ap zones_set (map-append command_of xs ys)
    ∙ flat_map-append zone_set (map command_of xs) (map command_of ys)

named_push : (xs : List Command) (x : Command) → named (xs ++ x ∷ []) ≡ named xs ++ zone_set (command_of x)
named_push xs x = named_both xs (x ∷ []) ∙ ap (λ zones. named xs ++ zones) (append-nil (zone_set (command_of x)))

-- those of the commands up to one of them
pub named_more : (xs : List Command) (i : ℕ) (x : Command) → i < length xs
    → named (take (i + 1) xs) ≡ named (take i xs) ++ zone_set (command_of (get_or xs i x))
named_more xs i x lt = ap named (take_more xs i x lt) ∙ named_push (take i xs) (get_or xs i x)

-- commands that are not none are seen as such
pub some_named : (xs : List Command) → xs ≢ [] → map command_of xs ≢ []
some_named [] some = λ none. some refl
some_named (x ∷ xs) some = λ none. some cc

module _ (names : List Text) where
  pub all_more : (xs : List Command) (i : ℕ) (x : Command) → i < length xs → All (IsDefined names) (named (take i xs))
      → All (IsDefined names) (zone_set (command_of (get_or xs i x))) → All (IsDefined names) (named (take (i + 1) xs))
  all_more xs i x lt before here = subst (All (IsDefined names)) (sym (named_more xs i x lt))
      (All-append (IsDefined names) (named (take i xs)) (zone_set (command_of (get_or xs i x))) before here)

  -- the first that is not defined of a part is so of the whole, if all before the part are
  first_of : (front part back : List Text) (zone : Text) → All (IsDefined names) front
      → IsFirstUndefined names part zone → IsFirstUndefined names ((front ++ part) ++ back) zone
  first_of front part back zone all first = (
    front ++ first.0,
    first.1 ++ back,
    ap (λ zones. (front ++ zones) ++ back) first.2 ∙ append_assoc front (first.0 ++ zone ∷ first.1) back
        ∙ ap (λ zones. front ++ zones) (append_assoc first.0 (zone ∷ first.1) back)
        ∙ sym (append_assoc front first.0 (zone ∷ (first.1 ++ back))),
    All-append (IsDefined names) front first.0 all first.3,
    first.4,
  )

  pub first_at : (xs : List Command) (i : ℕ) (x : Command) (zone : Text) → i < length xs
      → All (IsDefined names) (named (take i xs))
      → IsFirstUndefined names (zone_set (command_of (get_or xs i x))) zone → IsFirstUndefined names (named xs) zone
  first_at xs i x zone lt all first = subst (λ zones. IsFirstUndefined names zones zone)
      (sym (ap named (sym (take-append-drop (i + 1) xs)) ∙ named_both (take (i + 1) xs) (drop (i + 1) xs)
      ∙ ap (λ zones. zones ++ named (drop (i + 1) xs)) (named_more xs i x lt)))
      (first_of (named (take i xs)) (zone_set (command_of (get_or xs i x))) (named (drop (i + 1) xs)) zone all first)

  pub only_defined : (zone : Text) → IsDefined names zone → All (IsDefined names) (zone ∷ [])
  only_defined zone is = All-cons (IsDefined names) zone [] is (All-nil (IsDefined names))

  pub only_undefined : (zone : Text) → ¬ IsDefined names zone → IsFirstUndefined names (zone ∷ []) zone
  only_undefined zone not_one = ([], [], refl, All-nil (IsDefined names), not_one)
