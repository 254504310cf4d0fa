use Rattle.std.proofs.Common.{◌≡◌, map, take, string_bytes}
use Rattle.smpe_json.specs.Values.{printed}
use Rattle.smpe_json.proofs.texts.shown.Given as goal

abbrev pub invariant-loop-byte : goal.invariant-loop-byte
invariant-loop-byte l = string_bytes l.text ≡ map printed (take l.byte-index l.bytes)
