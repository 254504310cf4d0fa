-- The text of a certificate: a line for each file that was read, and one for each fact.
use Rattle.std.specs.Prelude.{◌||◌, ◌==◌, ℕ, nat_lt, List, [], ◌∷◌, ◌++◌, codes, map, if◌then◌else◌}
use Rattle.std.specs.List.{flat_map}
use Rattle.hex.specs.Hex.{encode_lower}
use Rattle.sha2.specs.Sha256.{sha256}
use Rattle.terms.specs.Types.{Text, Id}
use Rattle.terms.specs.Spelling.{need_text, test_text}
use Rattle.machine.specs.Report.{words_line, list_text}
use Rattle.smpe_certificate.specs.declared.facts.IneligibleFact.{IneligibleFact}
use Rattle.smpe_certificate.specs.declared.facts.ServedFact.{ServedFact}
use Rattle.smpe_certificate.specs.Facts.{Dropped, Certificate, Input}

-- a byte of a name: a question mark in place of a control character
abbrev pub shown : ℕ → ℕ
shown byte = if nat_lt byte 32 || (byte == 127) then 63 else byte

abbrev pub input_line : Input → Text
input_line f = words_line (codes "INPUT" ∷ codes "sha256" ∷ encode_lower f.sha256 ∷ map shown f.name ∷ [])

abbrev pub inputs_text : List Input → Text
inputs_text inputs = flat_map input_line inputs

abbrev pub ineligible_line : IneligibleFact → Text
ineligible_line f = words_line (codes "INELIGIBLE" ∷ f.id ∷ codes "TEST" ∷ test_text f.test ∷ [])

abbrev pub dropped_line : Dropped → Text
dropped_line f =
    words_line (codes "DROPPED" ∷ f.id ∷ codes "NEED" ∷ need_text f.kind ∷ f.needed
    ∷ codes "SERVERS" ∷ list_text f.servers ∷ [])

abbrev pub kept_line : Id → Text
kept_line id = words_line (codes "KEPT" ∷ id ∷ [])

abbrev pub served_line : ServedFact → Text
served_line f = words_line (codes "NEED" ∷ f.id ∷ need_text f.kind ∷ f.needed ∷ codes "BY" ∷ f.by ∷ [])

abbrev pub facts_text : Certificate → Text
facts_text c =
    flat_map ineligible_line c.ineligible ++ flat_map dropped_line c.dropped ++ flat_map kept_line c.kept
    ++ flat_map served_line c.served

-- all lines but the last
abbrev pub body_text : List Input → Certificate → Text
body_text inputs c = words_line (codes "CERTIFICATE" ∷ codes "1" ∷ []) ++ inputs_text inputs ++ facts_text c

-- the last line, with the digest of all lines before it
abbrev pub end_line : Text → Text
end_line body = words_line (codes "END" ∷ codes "sha256" ∷ encode_lower (sha256 body) ∷ [])

abbrev pub certificate_text : List Input → Certificate → Text
certificate_text inputs c = body_text inputs c ++ end_line (body_text inputs c)
