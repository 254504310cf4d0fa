-- What is told of an inventory's zones, in words.
use Rattle.std.specs.Prelude.{◌≡◌, ℕ, [], ◌∷◌, ◌++◌, codes, decimal}
use Rattle.std.specs.List.{join_with_byte}
use Rattle.terms.specs.Types.{Text}
use Rattle.terms.specs.Spelling.{type_text}
use Rattle.machine.specs.Report.{words_line}
use Rattle.smpe_verify.specs.declared.breach.EntryFault.{EntryFault}
use Rattle.smpe_verify.specs.declared.breach.EntryFault.TheVariants.{VerNotReceived, FmidNotApplied}
use Rattle.smpe_verify.specs.declared.breach.EntryFault.TheVariants.{RequisiteNotSupplied, NpreApplied}
use Rattle.smpe_verify.specs.declared.breach.EntryFault.TheVariants.{DeletedInChain, SupbyNotApplied}
use Rattle.smpe_verify.specs.declared.breach.Level.{Level}
use Rattle.smpe_verify.specs.declared.breach.Level.TheVariants.{Fmid, Rmid, Umid}
use Rattle.smpe_verify.specs.declared.breach.ElementFault.{ElementFault}
use Rattle.smpe_verify.specs.declared.breach.ElementFault.TheVariants.{LevelNotApplied, NotReplacedBy}
use Rattle.smpe_verify.specs.declared.breach.ElementFault.TheVariants.{NotUpdatedBy, OtherOwner}
use Rattle.smpe_verify.specs.declared.breach.Breach.{Breach}
use Rattle.smpe_verify.specs.declared.breach.Breach.TheVariants.{OfEntry, OfElement}
use Rattle.smpe_verify.specs.declared.verification.Counts.{Counts}
use Rattle.smpe_verify.specs.declared.verification.Verification.{Verification}
use Rattle.smpe_verify.specs.declared.verification.Verification.TheVariants.{Closed, Broken}
use Rattle.smpe_verify.specs.declared.told.VerifyAnswer.{VerifyAnswer}

abbrev pub counts_text : Counts → Text
counts_text counts = words_line (
    codes "VERIFIED"
    ∷ codes "SYSMODS" ∷ decimal counts.sysmods
    ∷ codes "ZONES" ∷ decimal counts.zones
    ∷ codes "ENTRIES" ∷ decimal counts.entries
    ∷ codes "ELEMENTS" ∷ decimal counts.elements
    ∷ [])

abbrev pub level_text : Level → Text
level_text Fmid = codes "FMID"
level_text Rmid = codes "RMID"
level_text Umid = codes "UMID"

-- the rule that an entry breaks, in words
abbrev pub entry_fault_text : EntryFault → Text
entry_fault_text VerNotReceived = words_line (codes "the VER by which it was applied is not received" ∷ [])
entry_fault_text (FmidNotApplied f) = words_line (codes "FMID" ∷ f ∷ codes "is not applied" ∷ [])
entry_fault_text (RequisiteNotSupplied z) =
    words_line (codes "REQUISITE" ∷ z ∷ codes "is neither applied nor superseded nor waived" ∷ [])
entry_fault_text (NpreApplied y) = words_line (codes "NPRE" ∷ y ∷ codes "is applied" ∷ [])
entry_fault_text (DeletedInChain y) = words_line (y ∷ codes "in its chain is deleted" ∷ [])
entry_fault_text (SupbyNotApplied y) = words_line (codes "SUPBY" ∷ y ∷ codes "is not applied" ∷ [])

-- the rule that an element breaks, in words
abbrev pub element_fault_text : ElementFault → Text
element_fault_text (LevelNotApplied level x) = words_line (level_text level ∷ x ∷ codes "is not applied" ∷ [])
element_fault_text (NotReplacedBy x) = words_line (codes "RMID" ∷ x ∷ codes "does not replace it" ∷ [])
element_fault_text (NotUpdatedBy x) = words_line (codes "UMID" ∷ x ∷ codes "does not update it" ∷ [])
element_fault_text (OtherOwner level x owner) =
    words_line (level_text level ∷ x ∷ codes "belongs to" ∷ owner ∷ [])

-- the zone, the SYSMOD or element, and the rule
abbrev pub breach_text : Text → Breach → Text
breach_text zone (OfEntry x fault) =
    join_with_byte 32 (codes "ZONE" ∷ zone ∷ x ∷ []) ++ codes ": " ++ entry_fault_text fault
breach_text zone (OfElement type name fault) =
    join_with_byte 32 (codes "ZONE" ∷ zone ∷ type_text type ∷ name ∷ []) ++ codes ": " ++ element_fault_text fault

abbrev pub text_of : Verification → Text
text_of (Closed counts) = counts_text counts
text_of (Broken zone breach) = breach_text zone breach

-- 0 if all zones are closed
abbrev pub status_of : Verification → ℕ
status_of (Closed counts) = 0
status_of (Broken zone breach) = 12

pub record IsTold (found : Verification) (told : VerifyAnswer) : Type 0 where
  pub text_is : told.text.items ≡ text_of found
  pub status_is : told.status ≡ status_of found
