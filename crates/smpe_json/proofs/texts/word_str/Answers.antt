use Rattle.smpe_json.proofs.AsciiWords.{ascii_word}
use Rattle.smpe_json.proofs.texts.word_str.Goals as goal

pub text_of-requires : goal.text_of-requires
text_of-requires c = rw c.word_text.ensures (ascii_word c.args.word)
