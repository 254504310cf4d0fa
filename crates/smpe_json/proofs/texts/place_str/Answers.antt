use Rattle.smpe_json.proofs.AsciiWords.{ascii_kind, ascii_hold}
use Rattle.smpe_json.proofs.texts.place_str.Goals as goal

pub text_of-requires : goal.text_of-requires
text_of-requires c = rw c.kind_text.ensures (ascii_kind _)

pub text_of-requires-in-Hold : goal.text_of-requires-in-Hold
text_of-requires-in-Hold c = rw c.hold_text.ensures (ascii_hold _)
