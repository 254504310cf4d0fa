use Rattle.smpe_json.proofs.AsciiWords.{ascii_refusal}
use Rattle.smpe_json.proofs.texts.refusal_str.Goals as goal

pub text_of-requires : goal.text_of-requires
text_of-requires c = rw c.refusal_text.ensures (ascii_refusal c.args.refusal)
