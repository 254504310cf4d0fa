use Rattle.smpe_json.proofs.AsciiWords.{ascii_test}
use Rattle.smpe_json.proofs.texts.test_str.Goals as goal

pub text_of-requires : goal.text_of-requires
text_of-requires c = rw c.test_text.ensures (ascii_test c.args.test)
