use Rattle.report.specs.Views.{status_view}
use Rattle.smpe_json.proofs.AsciiWords.{ascii_status}
use Rattle.smpe_json.proofs.texts.status_str.Goals as goal

pub text_of-requires : goal.text_of-requires
text_of-requires c = rw c.status_word.ensures (ascii_status (status_view c.args.status.now))
