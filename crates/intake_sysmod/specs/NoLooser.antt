-- What a SYSMOD that is carried keeps of what the file states of it. The operands are those of ++VER and ++IF in
-- IBM z/OS SMP/E Reference, "SMP/E modification control statements".
use Rattle.std.specs.Prelude.{◌≡◌, ◌⊎◌, Bool, List, [], Some, All, IsTrue}
use Rattle.std.specs.List.{Any}
use Rattle.terms.specs.Types.{Text, IfReq, Ver, Sysmod}
use Rattle.terms.specs.Beside.{Beside}
use Rattle.intake_read.specs.declared.items.WideIf.{WideIf}
use Rattle.intake_read.specs.declared.items.WideVer.{WideVer}
use Rattle.intake_read.specs.declared.items.WideSysmod.{WideSysmod}
use Rattle.intake_read.specs.declared.items.WideOther.{WideOther}
use Rattle.intake_read.specs.declared.items.OtherReason.TheVariants.{NoService, LoadModules}
use Rattle.intake_sysmod.specs.declared.ver_operands.VerLists.{VerLists}
use Rattle.intake_sysmod.specs.declared.ver_operands.VerOperands.{VerOperands}
use Rattle.intake_read.specs.Stated.{text_in, AreSame}
use Rattle.intake_read.specs.declared.items.WideElement.{WideElement}
use Rattle.terms.specs.Types.{Change}
use Rattle.intake_sysmod.specs.Changed.{IsElementChanged, IsSaid}
use Rattle.intake_sysmod.specs.Users.{IsPassedOver}

-- the ++IF of the file: its function and its requisites, and no operand that could not be read
pub record IsIf (stated : WideIf) (carried : IfReq) : Type 0 where
  pub read : stated.faulty.items ≡ []
  pub function_is : text_in stated.fmid ≡ Some carried.function
  pub req_is : AreSame stated.req.items carried.req

-- the ++VER of the file for one of its SRELs: the FMID, just the ids of each list, and the ++IFs
pub record IsVer (stated : WideVer) (release : Text) (carried : Ver) : Type 0 where
  pub srel_is : carried.srel ≡ release
  pub fmid_is : text_in stated.fmid ≡ carried.fmid
  pub pre_is : AreSame stated.pre.items carried.pre
  pub req_is : AreSame stated.req.items carried.req
  pub sup_is : AreSame stated.sup.items carried.sup
  pub npre_is : AreSame stated.npre.items carried.npre
  pub delete_is : AreSame stated.delete.items carried.del
  pub ifs_are : Beside (λ _. IsIf) stated.ifs.items carried.ifs

-- the lists of a ++VER as they are read
pub record AreLists (stated : WideVer) (lists : VerLists) : Type 0 where
  pub pre_is : AreSame stated.pre.items lists.pre
  pub req_is : AreSame stated.req.items lists.req
  pub sup_is : AreSame stated.sup.items lists.sup
  pub npre_is : AreSame stated.npre.items lists.npre
  pub delete_is : AreSame stated.delete.items lists.delete

-- all that it says for whichever SREL
pub record AreOperands (stated : WideVer) (operands : VerOperands) : Type 0 where
  pub read : stated.faulty.items ≡ []
  pub fmid_is : text_in stated.fmid ≡ operands.fmid
  pub lists_are : AreLists stated operands.lists
  pub ifs_are : Beside (λ _. IsIf) stated.ifs.items operands.ifs.items

-- for some SREL of the ++VER
abbrev pub IsSaidBy : WideVer → Ver → Type 0
IsSaidBy stated carried = Any (λ s. IsVer stated s.items carried) stated.srels.items

-- for each SREL of it there is one
abbrev pub IsCarriedIn : List Ver → WideVer → Type 0
IsCarriedIn carried stated = All (λ s. Any (IsVer stated s.items) carried) stated.srels.items

-- The reader could read each operand of the ++VER and of its ++IFs.
pub record IsWhollyRead (stated : WideVer) : Type 0 where
  pub operands : stated.faulty.items ≡ []
  pub ifs : All (λ i. i.faulty.items ≡ []) stated.ifs.items

-- The ++VER could be read, and there is one for each SREL of it.
pub record AreForSrels (stated : WideVer) (carried : List Ver) : Type 0 where
  pub read : IsWhollyRead stated
  pub each : Beside (λ _ s. IsVer stated s.items) stated.srels.items carried

-- All that is stated is there, and nothing else is there.
pub record AreVers (stated : List WideVer) (carried : List Ver) : Type 0 where
  pub read_all : All IsWhollyRead stated
  pub carried_all : All (IsCarriedIn carried) stated
  pub said_all : All (λ w. Any (λ v. IsSaidBy v w) stated) carried

-- The element is changed, or passed over.
abbrev pub IsElementDone : Bool → List WideSysmod → WideSysmod → List Change → WideElement → Type 0
IsElementDone decide run stated changes element =
    IsElementChanged decide stated.kind changes element ⊎ IsPassedOver decide run stated element

-- A statement without which the SYSMOD is no looser: one of no service, or, where stand-ins are asked for, one of load
-- modules.
abbrev pub IsHarmlessOther : Bool → WideOther → Type 0
IsHarmlessOther decide other = (other.reason ≡ NoService) ⊎ (IsTrue decide × (other.reason ≡ LoadModules))

-- It has the id and the kind, for each SREL the FMID and each PRE, REQ, ++IF REQ, NPRE and DELETE that is stated, no
-- SUP that is not. It changes each element that the file's SYSMOD changes, but for those that are passed over, and no
-- other element. Nothing of its header or its ++VERs could not be read, and each of its other statements is harmless.
pub record IsNoLooser (decide : Bool) (run : List WideSysmod) (stated : WideSysmod) (carried : Sysmod) : Type 0 where
  pub id_is : carried.id ≡ stated.id.items
  pub kind_is : carried.kind ≡ stated.kind
  pub header_read : stated.faulty.items ≡ []
  pub others_are : All (IsHarmlessOther decide) stated.others.items
  pub vers_are : AreVers stated.vers.items carried.vers
  pub changed : All (IsElementDone decide run stated carried.changes) stated.elements.items
  pub said : All (IsSaid decide stated.kind stated.elements.items) carried.changes
