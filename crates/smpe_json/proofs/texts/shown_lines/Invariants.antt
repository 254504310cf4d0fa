use Rattle.std.proofs.Common.{◌≡◌, map, take, string_bytes}
use Rattle.smpe_json.specs.Documents.{printed_in_lines}
use Rattle.smpe_json.proofs.texts.shown_lines.Given as goal

abbrev pub invariant-loop-byte : goal.invariant-loop-byte
invariant-loop-byte l = string_bytes l.text ≡ map printed_in_lines (take l.byte-index l.bytes)
