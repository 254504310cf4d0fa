-- What leaves the folder the files that it had.
use Rattle.std.proofs.Common.{ℕ, Bool, List, [], ◌∷◌, ◌++◌, subst, sym, refl, inl, inr}
use Rattle.std.specs.List.{All}
use Rattle.std.specs.Prelude.{codes}
use Rattle.std.proofs.lemmas.List.Elements.{All-append, All-nil, All-weaker}
use Rattle.std.specs.declared.io.Error.{Error}
use Rattle.terms.specs.Types as terms
use Rattle.terms.specs.Types.{Text}
use Rattle.intake_read.specs.declared.items.WideFile.{WideFile}
use Rattle.intake_command.specs.Acts.{HostAct, Gives, Withholds, Begins, Finds, Compares, Drafts, Discards, Puts}
use Rattle.intake_command.specs.Acts.{Leaves, Prints, Speaks, IsQuiet}
use Rattle.intake_command.specs.Done.{HasDone}
use Rattle.intake_command.specs.Files.{first_line, command_outputs, service_names}
use Rattle.intake_command.specs.Keeping.{IsServiceFiles, IsCommandFiles, KeepsFiles, KeepsNothing}
use Rattle.intake_command.specs.Serving.{AreRead, DraftsRemarks, KeepsService, KeepsCommands, IsHarmless}
use Rattle.intake_command.specs.declared.surroundings.IntakeHost.{Ghosts}
use Rattle.intake_command.proofs.Doing.{both, did, idle, joined, one, quiet_did, weaker}

is_harmless : (folder : Text) (act : HostAct) → IsQuiet act → IsHarmless folder act
is_harmless folder (Gives name bytes) q = tt
is_harmless folder (Withholds name error) q = tt
is_harmless folder (Begins path start) q = tt
is_harmless folder (Finds path there) q = tt
is_harmless folder (Compares one other same) q = tt
is_harmless folder (Drafts into name bytes) q = absurd q
is_harmless folder (Discards of) q = absurd q
is_harmless folder (Puts into files removed) q = absurd q
is_harmless folder (Leaves of error) q = tt
is_harmless folder (Prints text) q = tt
is_harmless folder Speaks q = tt

drafted_harmless : (folder : Text) (act : HostAct) → DraftsRemarks folder act → IsHarmless folder act
drafted_harmless folder (Gives name bytes) d = absurd d
drafted_harmless folder (Withholds name error) d = absurd d
drafted_harmless folder (Begins path start) d = absurd d
drafted_harmless folder (Finds path there) d = absurd d
drafted_harmless folder (Compares one other same) d = absurd d
drafted_harmless folder (Drafts into name bytes) d = d.0
drafted_harmless folder (Discards of) d = absurd d
drafted_harmless folder (Puts into files removed) d = absurd d
drafted_harmless folder (Leaves of error) d = absurd d
drafted_harmless folder (Prints text) d = absurd d
drafted_harmless folder Speaks d = absurd d

-- each file that was read was given, and nothing else was done
pub read_quiet : (names : List Text) (files : List WideFile) (acts : List HostAct) → AreRead names files acts
    → All IsQuiet acts
read_quiet [] files acts read = subst (All IsQuiet) (sym read.1) (All-nil IsQuiet)
read_quiet (name ∷ names) files acts read =
    subst (All IsQuiet) (sym read.5) (All-append IsQuiet read.2 read.3
    (subst (All IsQuiet) (sym read.6.3) (one IsQuiet (Gives name read.6.1) tt)) (read_quiet names read.1 read.3 read.7))

module _ {H : Type 0} (host : Ghosts H) (folder : Text) where
  pub quiet_harmless : {before after : H} → HasDone host (All IsQuiet) before after
      → HasDone host (All (IsHarmless folder)) before after
  quiet_harmless p = weaker host p (λ xs all. All-weaker IsQuiet (IsHarmless folder) (is_harmless folder) xs all)

  pub reading_harmless : {before after : H} (names : List Text) (files : List WideFile)
      → HasDone host (AreRead names files) before after → HasDone host (All (IsHarmless folder)) before after
  reading_harmless names files p = quiet_harmless (weaker host p (read_quiet names files))

  pub harmless : {before between after : H} → HasDone host (All (IsHarmless folder)) before between
      → HasDone host (All (IsHarmless folder)) between after → HasDone host (All (IsHarmless folder)) before after
  harmless p q = both host p q (λ xs ys a b. All-append (IsHarmless folder) xs ys a b)

  pub harmless_did : (before : H) (act : HostAct) (after : H) → host.does before act after → IsQuiet act
      → HasDone host (All (IsHarmless folder)) before after
  harmless_did before act after does is = quiet_harmless (quiet_did host before act after does is)

  -- a part of a file was drafted
  pub draft_harmless : {before after : H} (name : Text) (bytes : List ℕ)
      → host.does before (Drafts folder name bytes) after → HasDone host (All (IsHarmless folder)) before after
  draft_harmless {before} {after} name bytes does =
      did host before (Drafts folder name bytes) after does (one (IsHarmless folder) (Drafts folder name bytes) refl)

  -- what could not be written
  pub left_harmless : {before after : H} → (error : Error) × host.does before (Leaves folder error) after
      → HasDone host (All (IsHarmless folder)) before after
  left_harmless {before} {after} left = harmless_did before (Leaves folder left.0) after left.1 tt

  pub nothing_harmless : {before after : H} → KeepsNothing host before folder after
      → HasDone host (All (IsHarmless folder)) before after
  nothing_harmless {before} {after} (inl e) =
      subst (λ at. HasDone host (All (IsHarmless folder)) before at) (sym e)
      (idle host before (All-nil (IsHarmless folder)))
  nothing_harmless {before} {after} (inr left) = left_harmless left

  pub drafts_harmless : {before after : H} → HasDone host (All (DraftsRemarks folder)) before after
      → HasDone host (All (IsHarmless folder)) before after
  drafts_harmless p =
      weaker host p (λ xs all. All-weaker (DraftsRemarks folder) (IsHarmless folder) (drafted_harmless folder) xs all)

  -- one more part of the remarks is drafted
  pub drafted : {before after : H} (bytes : List ℕ) → host.does before (Drafts folder (codes "remarks") bytes) after
      → HasDone host (All (DraftsRemarks folder)) before after
  drafted {before} {after} bytes does =
      did host before (Drafts folder (codes "remarks") bytes) after does
      (one (DraftsRemarks folder) (Drafts folder (codes "remarks") bytes) (refl, refl))

  pub drafts_more : {before between after : H} → HasDone host (All (DraftsRemarks folder)) before between
      → HasDone host (All (DraftsRemarks folder)) between after
      → HasDone host (All (DraftsRemarks folder)) before after
  drafts_more p q = both host p q (λ xs ys a b. All-append (DraftsRemarks folder) xs ys a b)

  -- the remarks were drafted from their first line on, the summary was printed, and then the files were kept
  pub kept_service : {a b c d e : H} (decided : Bool) (items : List terms.Item) (holds : List terms.HoldItem)
      (summary : List ℕ) → host.does a (Drafts folder (codes "remarks") (first_line (service_names decided))) b
      → HasDone host (All (DraftsRemarks folder)) b c → host.does c (Prints summary) d
      → KeepsFiles host d folder (IsServiceFiles items holds decided) e
      → HasDone host (KeepsService folder decided items holds) a e
  kept_service {a} {b} {c} {d} {e} decided items holds summary began p printed kept = record {
    acts = Drafts folder (codes "remarks") (first_line (service_names decided)) ∷ p.acts
        ++ Prints summary ∷ Puts folder kept.0 kept.1 ∷ [];
    lead = (
      b,
      began,
      joined host b p.acts (Prints summary ∷ Puts folder kept.0 kept.1 ∷ []) c e p.lead
          (d, printed, (e, kept.3, refl)),
    );
    are = record {
      drafts = p.acts;
      drafted = p.are;
      summary = summary;
      kept = kept.0;
      removed = kept.1;
      are_kept = kept.2;
      acts_are = refl;
    };
  }

  -- the same of a command file
  pub kept_commands : {a b c d : H} (said : List terms.Command) (summary : List ℕ)
      → host.does a (Drafts folder (codes "cntl.remarks") (first_line command_outputs)) b
      → host.does b (Prints summary) c → KeepsFiles host c folder (IsCommandFiles said) d
      → HasDone host (KeepsCommands folder said) a d
  kept_commands {a} {b} {c} {d} said summary began printed kept = record {
    acts = Drafts folder (codes "cntl.remarks") (first_line command_outputs) ∷ Prints summary
        ∷ Puts folder kept.0 kept.1 ∷ [];
    lead = (b, began, (c, printed, (d, kept.3, refl)));
    are = record {
      summary = summary;
      kept = kept.0;
      removed = kept.1;
      are_kept = kept.2;
      acts_are = refl;
    };
  }
