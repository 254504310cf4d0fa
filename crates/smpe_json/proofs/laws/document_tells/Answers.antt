use Rattle.smpe_json.proofs.Read.{document_tells}
use Rattle.smpe_json.proofs.laws.document_tells.Goals as goal

pub returns : goal.returns
returns c = document_tells
