-- Comparisons, as a loop goes over names.
use Rattle.std.proofs.Common.{◌≡◌, ◌<◌, ◌≤◌, ◌+◌, ◌∙◌, ℕ, List, ◌∷◌, [], ◌++◌, map, take, length, get_or, ap, ap₂, sym}
use Rattle.std.proofs.Common.{subst, Bool, true, false, if◌then◌else◌}
use Rattle.std.proofs.Common.{append-nil}
use Rattle.std.specs.List.{All, flat_map}
use Rattle.std.proofs.lemmas.List.{map-append, take_all, take_more}
use Rattle.std.proofs.lemmas.List.Concat.{flat_map-append}
use Rattle.std.proofs.lemmas.List.Elements.{All-append, All-nil}
use Rattle.terms.specs.Types.{Text}
use Rattle.terms.specs.Lookups.{is_in}
use Rattle.intake_command.specs.Acts.{HostAct, Compares, Finds, IsQuiet}
use Rattle.intake_command.specs.Done.{HasDone}
use Rattle.intake_command.specs.Files.{path_of}
use Rattle.intake_command.specs.Serving.{is_apart, are_apart, looks, looks_for}
use Rattle.intake_command.specs.declared.surroundings.IntakeHost.{Ghosts}
use Rattle.intake_command.proofs.Doing.{both, one, weaker}

-- so far, with one name more
pub compared_next : {X H : Type 0} (host : Ghosts H) (acts : Text → List HostAct) (f : X → Text) (xs : List X) (i : ℕ)
    (d : X) {a b c : H} → i < length xs → HasDone host (λ done. done ≡ flat_map acts (map f (take i xs))) a b
    → HasDone host (λ done. done ≡ acts (f (get_or xs i d))) b c
    → HasDone host (λ done. done ≡ flat_map acts (map f (take (i + 1) xs))) a c
compared_next host acts f xs i d below was is =
    let x = f (get_or xs i d) in
    both host was is (λ ones others e g. ap₂ (λ u v. u ++ v) e g
    ∙ sym (ap (λ l. flat_map acts (map f l)) (take_more xs i d below)
    ∙ ap (flat_map acts) (map-append f (take i xs) (get_or xs i d ∷ []))
    ∙ flat_map-append acts (map f (take i xs)) (x ∷ [])
    ∙ ap (λ l. flat_map acts (map f (take i xs)) ++ l) (append-nil (acts x))))

pub compared_whole : {X H : Type 0} (host : Ghosts H) (acts : Text → List HostAct) (f : X → Text) (xs : List X) (i : ℕ)
    {a b : H} → length xs ≤ i → HasDone host (λ done. done ≡ flat_map acts (map f (take i xs))) a b
    → HasDone host (λ done. done ≡ flat_map acts (map f xs)) a b
compared_whole host acts f xs i whole was =
    weaker host was (λ done e. e ∙ ap (λ l. flat_map acts (map f l)) (take_all i xs whole))

all_quiet : (acts : Text → List HostAct) → ((name : Text) → All IsQuiet (acts name)) → (names : List Text)
    → All IsQuiet (flat_map acts names)
all_quiet acts each [] = All-nil IsQuiet
all_quiet acts each (name ∷ names) =
    All-append IsQuiet (acts name) (flat_map acts names) (each name) (all_quiet acts each names)

one_quiet : (folder input output : Text) → All IsQuiet (is_apart folder input output)
one_quiet folder input output = one IsQuiet (Compares (path_of folder output) input false) tt

pub apart_quiet : {H : Type 0} (host : Ghosts H) (folder : Text) (input : Text) (names : List Text) {a b : H}
    → HasDone host (λ done. done ≡ flat_map (is_apart folder input) names) a b → HasDone host (All IsQuiet) a b
apart_quiet host folder input names was =
    weaker host was (λ done e. subst (All IsQuiet) (sym e) (all_quiet (is_apart folder input)
    (one_quiet folder input) names))

pub are_apart_quiet : {H : Type 0} (host : Ghosts H) (folder : Text) (outputs names : List Text) {a b : H}
    → HasDone host (λ done. done ≡ flat_map (are_apart folder outputs) names) a b → HasDone host (All IsQuiet) a b
are_apart_quiet host folder outputs names was =
    weaker host was (λ done e. subst (All IsQuiet) (sym e) (all_quiet (are_apart folder outputs)
    (λ input. all_quiet (is_apart folder input) (one_quiet folder input) outputs) names))

-- whether it was looked for or not
at_most_one : (was_written : Bool) (act : HostAct) → IsQuiet act
    → All IsQuiet (if was_written then [] else act ∷ [])
at_most_one true act is = All-nil IsQuiet
at_most_one false act is = one IsQuiet act is

pub looks_quiet : {H : Type 0} (host : Ghosts H) (folder : Text) (written names : List Text) {a b : H}
    → HasDone host (λ done. done ≡ looks folder written names) a b → HasDone host (All IsQuiet) a b
looks_quiet host folder written names was =
    weaker host was (λ done e. subst (All IsQuiet) (sym e) (all_quiet (looks_for folder written)
    (λ name. at_most_one (is_in written name) (Finds (path_of folder name) false) tt) names))
