-- The names of files, and the files of a certificate.
use Rattle.std.proofs.Common.{◌≡◌, ◌∙◌, ◌<◌, ◌+◌, ℕ, List, [], ◌∷◌, ◌++◌, Option, Some, map, take, length}
use Rattle.std.proofs.Common.{get_or, ap, ap₂, refl, sym, arith}
use Rattle.std.proofs.lemmas.List.{length-map, length-take-le, map-append, take_more}
use Rattle.terms.specs.Types.{Text}
use Rattle.smpe_certificate.specs.Facts.{input_of}
use Rattle.smpe_command.specs.Packages.{inputs_of}

-- names of files that are read, one by one and as a list of texts
pub each_named : {X : Type 0} (f : X → Text) (xs : List X)
    → map (λ x. Some (f x)) xs ≡ map (λ (name : Text). Some name) (map f xs)
each_named f [] = refl
each_named f (x ∷ xs) = ap (λ (rest : List (Option Text)). Some (f x) ∷ rest) (each_named f xs)

-- the inputs of some files, and of one more
inputs_more : (names : List Text) (files : List (List ℕ)) (bytes : List ℕ)
    → inputs_of names (files ++ bytes ∷ [])
    ≡ inputs_of names files ++ input_of (get_or names (length files) []) bytes ∷ []
inputs_more [] [] bytes = refl
inputs_more (name ∷ names) [] bytes = refl
inputs_more [] (file ∷ files) bytes = ap (λ rest. input_of [] file ∷ rest) (inputs_more [] files bytes)
inputs_more (name ∷ names) (file ∷ files) bytes =
    ap (λ rest. input_of name file ∷ rest) (inputs_more names files bytes)

-- those of the files up to a place, and of the one there
pub inputs_at : {X : Type 0} (f : X → List ℕ) (names : List Text) (files : List X) (i : ℕ) (file : X) (name : Text)
    (bytes : List ℕ) → i < length files → file ≡ get_or files i file → name ≡ get_or names i [] → bytes ≡ f file
    → inputs_of names (map f (take (i + 1) files))
    ≡ inputs_of names (map f (take i files)) ++ input_of name bytes ∷ []
inputs_at f names files i file name bytes below at named has =
    let first : length (map f (take i files)) ≡ i = length-map (take i files) f
    ∙ length-take-le i files (omega (arith, below)) in
    ap (λ xs. inputs_of names (map f xs)) (take_more files i file below ∙ ap (λ u. take i files ++ u ∷ []) (sym at))
    ∙ ap (inputs_of names) (map-append f (take i files) (file ∷ []))
    ∙ inputs_more names (map f (take i files)) (f file)
    ∙ ap₂ (λ (n : Text) (b : List ℕ). inputs_of names (map f (take i files)) ++ input_of n b ∷ [])
    (ap (λ n. get_or names n []) first ∙ sym named) (sym has)
