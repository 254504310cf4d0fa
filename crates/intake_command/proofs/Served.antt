-- What a run has done in all.
use Rattle.std.proofs.Common.{◌≡◌, ◌⊎◌, ℕ, List, [], ◌∷◌, ◌++◌, map, refl, ap, inl, inr, subst₂}
use Rattle.std.specs.List.{All}
use Rattle.std.specs.Prelude.{Some}
use Rattle.std.specs.String.{string_bytes}
use Rattle.terms.specs.Types as terms
use Rattle.terms.specs.Types.{Text}
use Rattle.mcs.specs.Files as ptfin
use Rattle.mcs.specs.HoldItems as hold
use Rattle.mcs.specs.declared.file.Item.{Item}
use Rattle.mcs.specs.declared.hold_item.HoldItem.{HoldItem}
use Rattle.intake_read.specs.declared.items.WideFile.{WideFile}
use Rattle.intake_sysmod.specs.Users.{run_of}
use Rattle.intake_carry.specs.Unsure.{AreUnsure}
use Rattle.intake_carry.specs.declared.unsure.Unsure.{Unsure}
use Rattle.intake_asked.specs.Said.{AreSaid}
use Rattle.intake_asked.specs.declared.known.KnownSysmods.{KnownSysmods}
use Rattle.intake_asked.specs.declared.scan.WideCommand.{WideCommand}
use Rattle.intake_words.specs.declared.options.IntakeOptions.{IntakeOptions}
use Rattle.intake_service.specs.Carrying.{HasEachSysmod, CarriesFiles}
use Rattle.intake_command.specs.Acts.{Gives, Discards, IsQuiet}
use Rattle.intake_command.specs.Done.{HasDone}
use Rattle.intake_command.specs.Files.{outputs_of}
use Rattle.intake_command.specs.Serving.{AreRead, KeepsService, ServesFiles, KeepsCommands, IsKnown}
use Rattle.intake_command.specs.Serving.{folder_of, inputs, Serves, AreOwn, comparisons}
use Rattle.intake_command.specs.Serving.{IsHarmless, EndsApart, EndsChecked, EndsServed, EndsAsked, EndsOwn}
use Rattle.intake_command.specs.declared.surroundings.IntakeHost.{Ghosts}
use Rattle.intake_command.proofs.Doing.{joined}

module _ {H : Type 0} (host : Ghosts H) (asked : IntakeOptions) where
  -- `put` and `put_outside` are the same items, as they were handed on to be put into the folder
  pub served_files : {a b c d : H} (files : List WideFile) (items put : List Item) (outside put_outside : List HoldItem)
      (unsure : List Unsure) (status : ℕ) → HasDone host (AreRead (map string_bytes asked.files.items) files) a b
      → HasDone host (All IsQuiet) b c → CarriesFiles asked.decide files items outside
      → AreUnsure (run_of files) items unsure
      → (status ≡ 0) ⊎ (status ≡ 4) → (status ≡ 0 → HasEachSysmod files items) → (status ≡ 0 → unsure ≡ [])
      → put ≡ items → put_outside ≡ outside
      → HasDone host (KeepsService (folder_of asked) asked.decide (ptfin.items put) (hold.items put_outside)) c d
      → HasDone host (ServesFiles asked status) a d
  served_files {a} {b} {c} {d} files items put outside put_outside unsure status r m carries un is each sure e o keeps =
      let k = subst₂ (λ i h. HasDone host (KeepsService (folder_of asked) asked.decide (ptfin.items i) (hold.items h))
      c d) e o keeps in
      record {
        acts = r.acts ++ m.acts ++ k.acts;
        lead = joined host a (r.acts ++ m.acts) k.acts c d (joined host a r.acts m.acts b c r.lead m.lead) k.lead;
        are = record {
          files = files;
          reading = r.acts;
          read = r.are;
          more = m.acts;
          quiet = m.are;
          holds = carries.0;
          held_are = carries.1;
          items = items;
          outside = outside;
          become = carries.2;
          unsure = unsure;
          are_unsure = un;
          status_is = is;
          each = each;
          sure = sure;
          keeping = k.acts;
          keeps = k.are;
          acts_are = refl;
        };
      }

  pub served_commands : {a b c d : H} (name : Text) (bytes : List ℕ) (commands : List WideCommand)
      (known : KnownSysmods) (said : List terms.Command) → host.does a (Gives name bytes) b
      → HasDone host (IsKnown (map string_bytes asked.known.items) known) b c → AreSaid known commands said
      → HasDone host (KeepsCommands (folder_of asked) said) c d → HasDone host (Serves asked (Some name) 0) a d
  served_commands {a} {b} {c} {d} name bytes commands known said r m are k = record {
    acts = Gives name bytes ∷ m.acts ++ k.acts;
    lead = (b, r, joined host b m.acts k.acts c d m.lead k.lead);
    are = inl (
      refl,
      record {
        bytes = bytes;
        commands = commands;
        known = known;
        more = m.acts;
        are_known = m.are;
        said = said;
        are_said = are;
        keeping = k.acts;
        keeps = k.are;
        acts_are = refl;
      },
    );
  }

  -- a fault, after which the drafts are removed
  pub failed : {a b c d : H} (status : ℕ) → status ≡ 16 → HasDone host (All (IsHarmless (folder_of asked))) a b
      → host.does b (Discards (folder_of asked)) c → HasDone host (All IsQuiet) c d
      → HasDone host (EndsApart asked status) a d
  failed {a} {b} {c} {d} status is t l s = record {
    acts = t.acts ++ Discards (folder_of asked) ∷ s.acts;
    lead = joined host a t.acts (Discards (folder_of asked) ∷ s.acts) b d t.lead (c, l, s.lead);
    are = inr (
      is,
      record {
        tried = t.acts;
        told = s.acts;
        harmless = t.are;
        quiet = s.are;
        acts_are = refl;
      },
    );
  }

  pub ended_apart : {a b c : H} (status : ℕ)
      → HasDone host (λ acts. acts ≡ comparisons (folder_of asked) (outputs_of asked) (inputs asked)) a b
      → HasDone host (EndsApart asked status) b c → HasDone host (EndsChecked asked status) a c
  ended_apart {a} {b} {c} status compared rest = record {
    acts = compared.acts ++ rest.acts;
    lead = joined host a compared.acts rest.acts b c compared.lead rest.lead;
    are = EndsServed rest.acts (ap (λ acts. acts ++ rest.acts) compared.are) rest.are;
  }

  pub ended_own : {a b c : H} (status : ℕ) → HasDone host (AreOwn asked) a b
      → HasDone host (EndsChecked asked status) b c → HasDone host (EndsAsked asked status) a c
  ended_own {a} {b} {c} status own rest = record {
    acts = own.acts ++ rest.acts;
    lead = joined host a own.acts rest.acts b c own.lead rest.lead;
    are = EndsOwn own.acts rest.acts own.are refl rest.are;
  }
