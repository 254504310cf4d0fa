-- The facts of a certificate, as contracts see them.
use Rattle.std.specs.Prelude.{ℕ, List}
use Rattle.sha2.specs.Sha256.{sha256}
use Rattle.terms.specs.declared.codes.NeedKind.{NeedKind}
use Rattle.terms.specs.Types.{Text, Id}
use Rattle.smpe_certificate.specs.declared.facts.IneligibleFact.{IneligibleFact}
use Rattle.smpe_certificate.specs.declared.facts.ServedFact.{ServedFact}

-- a dropped candidate, one of its needs, and all candidates that could serve this need
pub record Dropped : Type 0 where
  pub id : Id
  pub kind : NeedKind
  pub needed : Id
  pub servers : List Id

pub record Certificate : Type 0 where
  pub ineligible : List IneligibleFact
  pub dropped : List Dropped
  pub kept : List Id
  pub served : List ServedFact

-- a file that was read, by its name, with the digest of its bytes
pub record Input : Type 0 where
  pub name : Text
  pub sha256 : Text

-- the file of this name with these bytes
abbrev pub input_of : Text → List ℕ → Input
input_of name bytes = record { name = name; sha256 = sha256 bytes }
