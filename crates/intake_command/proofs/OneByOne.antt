-- Files that are read one by one, as a loop goes over their names.
use Rattle.std.proofs.Common.{◌≡◌, ◌<◌, ◌≤◌, ◌+◌, ℕ, List, ◌∷◌, [], ◌++◌, map, take, length, get_or, sym, refl}
use Rattle.std.proofs.Common.{subst}
use Rattle.std.specs.List.{All}
use Rattle.std.proofs.lemmas.List.{take_all}
use Rattle.std.proofs.lemmas.List.Elements.{All-append, All-nil}
use Rattle.terms.specs.Types.{Text}
use Rattle.intake_read.specs.declared.items.WideFile.{WideFile}
use Rattle.intake_holds.proofs.Becoming.{become_more}
use Rattle.intake_asked.proofs.Passing.{map_next}
use Rattle.intake_holds.specs.Become.{Become}
use Rattle.intake_asked.specs.declared.known.KnownFile.{KnownFile}
use Rattle.intake_asked.specs.declared.known.KnownSysmods.{KnownSysmods}
use Rattle.intake_command.specs.Acts.{HostAct, Gives, IsQuiet}
use Rattle.intake_command.specs.Done.{HasDone}
use Rattle.intake_command.specs.Serving.{AreRead, IsRead, IsKnown, IsKnownRead}
use Rattle.intake_command.specs.declared.surroundings.IntakeHost.{Ghosts}
use Rattle.intake_command.proofs.Doing.{both, joined, one, weaker}

pub read_next : {X H : Type 0} (host : Ghosts H) (f : X → Text) (names : List X) (i : ℕ) (name : X) (lent : Text)
    (files new : List WideFile) (file : WideFile) (bytes : List ℕ) {a b c : H} → i < length names
    → name ≡ get_or names i name → lent ≡ f name → new ≡ files ++ file ∷ []
    → HasDone host (AreRead (map f (take i names)) files) a b → host.does b (Gives lent bytes) c
    → HasDone host (AreRead (map f (take (i + 1) names)) new) a c
read_next host f names i name lent files new file bytes {a} {b} {c} below at is e was does = record {
  acts = was.acts ++ Gives (f name) bytes ∷ [];
  lead = joined host a was.acts _ b c was.lead (c, subst (λ t. host.does b (Gives t bytes) c) is does, refl);
  are = subst (λ l. AreRead l new (was.acts ++ Gives (f name) bytes ∷ [])) (sym (map_next f names i name below at))
      (subst (λ l. AreRead (map f (take i names) ++ f name ∷ []) l (was.acts ++ Gives (f name) bytes ∷ [])) (sym e)
      (become_more IsRead (map f (take i names)) files was.acts (f name) (file ∷ []) (Gives (f name) bytes ∷ []) was.are
      (file, bytes, refl, refl)));
}

pub read_whole : {X H : Type 0} (host : Ghosts H) (f : X → Text) (names : List X) (i : ℕ) (files : List WideFile)
    {a b : H} → length names ≤ i → HasDone host (AreRead (map f (take i names)) files) a b
    → HasDone host (AreRead (map f names) files) a b
read_whole host f names i files whole was =
    weaker host was (λ acts r. subst (λ l. AreRead (map f l) files acts) (take_all i names whole) r)

-- ---- the files of --known, which are read one by one too

pub one_known_quiet : (name : Text) (files : List KnownFile) (acts : List HostAct) → IsKnownRead name files acts
    → All IsQuiet acts
one_known_quiet name files acts read = subst (All IsQuiet) (sym read.3) (one IsQuiet (Gives name read.1) tt)

pub known_quiet : (names : List Text) (files : List KnownFile) (acts : List HostAct)
    → Become IsKnownRead names files acts → All IsQuiet acts
known_quiet [] files acts read = subst (All IsQuiet) (sym read.1) (All-nil IsQuiet)
known_quiet (name ∷ names) files acts read =
    subst (All IsQuiet) (sym read.5) (All-append IsQuiet read.2 read.3 (one_known_quiet name read.0 read.2 read.6)
    (known_quiet names read.1 read.3 read.7))

pub known_next : {X H : Type 0} (host : Ghosts H) (f : X → Text) (names : List X) (i : ℕ) (name : X) (lent : Text)
    (files new : List KnownFile) (file : KnownFile) {a b c : H} → i < length names
    → name ≡ get_or names i name → lent ≡ f name → new ≡ files ++ file ∷ []
    → HasDone host (Become IsKnownRead (map f (take i names)) files) a b
    → HasDone host (IsKnownRead lent (file ∷ [])) b c
    → HasDone host (Become IsKnownRead (map f (take (i + 1) names)) new) a c
known_next host f names i name lent files new file below at is e was read =
    both host was read (λ ones others so_far this.
    subst (λ l. Become IsKnownRead l new (ones ++ others)) (sym (map_next f names i name below at))
    (subst (λ l. Become IsKnownRead (map f (take i names) ++ f name ∷ []) l (ones ++ others)) (sym e)
    (become_more IsKnownRead (map f (take i names)) files ones (f name) (file ∷ []) others so_far
    (subst (λ t. IsKnownRead t (file ∷ []) others) is this))))

pub known_whole : {X H : Type 0} (host : Ghosts H) (f : X → Text) (names : List X) (i : ℕ) (files : List KnownFile)
    {a b : H} → length names ≤ i → HasDone host (Become IsKnownRead (map f (take i names)) files) a b
    → HasDone host (Become IsKnownRead (map f names) files) a b
known_whole host f names i files whole was =
    weaker host was (λ acts r. subst (λ l. Become IsKnownRead (map f l) files acts) (take_all i names whole) r)

pub all_known_quiet : (names : List Text) (known : KnownSysmods) (acts : List HostAct) → IsKnown names known acts
    → All IsQuiet acts
all_known_quiet names known acts is = known_quiet names is.0 acts is.1
