use Rattle.smpe_json.proofs.AsciiWords.{ascii_need}
use Rattle.smpe_json.proofs.texts.need_str.Goals as goal

pub text_of-requires : goal.text_of-requires
text_of-requires c = rw c.need_text.ensures (ascii_need c.args.kind)
