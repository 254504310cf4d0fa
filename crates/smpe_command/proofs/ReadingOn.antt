-- Files that are read one by one, as a loop goes over their names.
use Rattle.std.proofs.Common.{◌≡◌, ◌∙◌, ◌<◌, ◌≤◌, ◌+◌, ℕ, List, [], ◌∷◌, ◌++◌, Option, Ok, Err, inl, inr, map, take}
use Rattle.std.proofs.Common.{drop, length, get_or, ap, append_assoc, sym, refl, subst}
use Rattle.std.proofs.lemmas.List.{map-append, take-append-drop, take_all, take_more}
use Rattle.smpe_jobs.specs.declared.error.JobError.TheVariants.{Memory}
use Rattle.smpe_jobs.specs.declared.messages.Fault.{Fault}
use Rattle.smpe_jobs.specs.declared.messages.Fault.TheVariants.{Job}
use Rattle.smpe_command.specs.declared.host.Host.{Ghosts}
use Rattle.smpe_command.specs.Reading.{FailsToRead, Reads, ReadsAll}

-- the first items of a list, the next one, and the rest
pub parts : {X Y : Type 0} (f : X → Y) (xs : List X) (i : ℕ) (x : X) → i < length xs → x ≡ get_or xs i x
    → map f xs ≡ map f (take i xs) ++ f x ∷ map f (drop (i + 1) xs)
parts f xs i x below at =
    ap (map f) (sym (take-append-drop (i + 1) xs)) ∙ map-append f (take (i + 1) xs) (drop (i + 1) xs)
    ∙ ap (λ l. map f l ++ map f (drop (i + 1) xs)) (take_more xs i x below ∙ ap (λ u. take i xs ++ u ∷ []) (sym at))
    ∙ ap (λ l. l ++ map f (drop (i + 1) xs)) (map-append f (take i xs) (x ∷ []))
    ∙ append_assoc (map f (take i xs)) (f x ∷ []) (map f (drop (i + 1) xs))

module _ {H D : Type 0} (host : Ghosts H D) where
  -- one more file was read
  reads_next : (h m after : H) (names : List (Option (List ℕ))) (files : List (List ℕ)) (name : Option (List ℕ))
      (bytes : List ℕ) → ReadsAll host h names (Ok files) m → Reads host m name (Ok bytes) after
      → ReadsAll host h (names ++ name ∷ []) (Ok (files ++ bytes ∷ [])) after
  reads_next h m after [] files name bytes (none, same) read =
      subst (λ l. ReadsAll host h (name ∷ []) (Ok (l ++ bytes ∷ [])) after) (sym none)
      (after, subst (λ x. Reads host x name (Ok bytes) after) same read, (refl, refl))
  reads_next h m after (other ∷ names) [] name bytes so_far read = absurd so_far
  reads_next h m after (other ∷ names) (b ∷ files) name bytes (n, one, more) read =
      (n, one, reads_next n m after names files name bytes more read)

  -- the next file could not be read
  fails_next : (h m after : H) (names rest : List (Option (List ℕ))) (files : List (List ℕ)) (name : Option (List ℕ))
      (fault : Fault) → ReadsAll host h names (Ok files) m → Reads host m name (Err fault) after
      → ReadsAll host h (names ++ name ∷ rest) (Err fault) after
  fails_next h m after [] rest files name fault (none, same) read =
      inl (subst (λ x. Reads host x name (Err fault) after) same read)
  fails_next h m after (other ∷ names) rest [] name fault so_far read = absurd so_far
  fails_next h m after (other ∷ names) rest (b ∷ files) name fault (n, one, more) read =
      inr (n, b, one, fails_next n m after names rest files name fault more read)

  module _ {X : Type 0} (f : X → Option (List ℕ)) (names : List X) (i : ℕ) (name : X) (h m after : H)
      (files : List (List ℕ)) (below : i < length names) (at : name ≡ get_or names i name)
      (so_far : ReadsAll host h (map f (take i names)) (Ok files) m) where
    pub reads_more : (bytes : List ℕ) → Reads host m (f name) (Ok bytes) after
        → ReadsAll host h (map f (take (i + 1) names)) (Ok (files ++ bytes ∷ [])) after
    reads_more bytes read =
        let next : map f (take (i + 1) names) ≡ map f (take i names) ++ f name ∷ [] =
        ap (map f) (take_more names i name below ∙ ap (λ u. take i names ++ u ∷ []) (sym at))
        ∙ map-append f (take i names) (name ∷ []) in
        subst (λ l. ReadsAll host h l (Ok (files ++ bytes ∷ [])) after) (sym next)
        (reads_next h m after (map f (take i names)) files (f name) bytes so_far read)

    pub fails_here : (fault : Fault) → Reads host m (f name) (Err fault) after
        → FailsToRead host h (map f names) fault after
    fails_here fault read = inl (subst (λ l. ReadsAll host h l (Err fault) after) (sym (parts f names i name below at))
        (fails_next h m after (map f (take i names)) (map f (drop (i + 1) names)) files (f name) fault so_far read))

    -- memory ran out after it was read
    pub runs_out : (fault : Fault) (bytes : List ℕ) → fault ≡ Job Memory → Reads host m (f name) (Ok bytes) after
        → FailsToRead host h (map f names) fault after
    runs_out fault bytes is read = inr (
      is,
      map f (take (i + 1) names),
      map f (drop (i + 1) names),
      files ++ bytes ∷ [],
      ap (map f) (sym (take-append-drop (i + 1) names)) ∙ map-append f (take (i + 1) names) (drop (i + 1) names),
      reads_more bytes read,
    )

  pub reads_whole : {X : Type 0} (f : X → Option (List ℕ)) (names : List X) (i : ℕ) (h after : H)
      (files : List (List ℕ)) → length names ≤ i → ReadsAll host h (map f (take i names)) (Ok files) after
      → ReadsAll host h (map f names) (Ok files) after
  reads_whole f names i h after files whole so_far =
      subst (λ l. ReadsAll host h (map f l) (Ok files) after) (take_all i names whole) so_far

  -- a file was read, and then one of the others could not be
  pub fails_later : (h m after : H) (name : Option (List ℕ)) (bytes : List ℕ) (names : List (Option (List ℕ)))
      (fault : Fault) → Reads host h name (Ok bytes) m → FailsToRead host m names fault after
      → FailsToRead host h (name ∷ names) fault after
  fails_later h m after name bytes names fault read (inl unread) = inl (inr (m, bytes, read, unread))
  fails_later h m after name bytes names fault read (inr (is, first, rest, files, names_are, some)) =
      inr (is, name ∷ first, rest, bytes ∷ files, ap (λ l. name ∷ l) names_are, (m, read, some))
