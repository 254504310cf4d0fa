use Rattle.std.proofs.Common.{refl}
use Rattle.std.specs.Prelude.{codes}
use Rattle.std.proofs.lemmas.Result.{IfOk-equal}
use Rattle.why_facts.proofs.TextParts.{flag_is}
use Rattle.why_facts.proofs.text.append_ver.Goals as goal

pub returns : goal.returns
returns c =
    IfOk-equal c.append_words.result c.append_words.new.text.items _ _ c.append_words.ensures
    (rw (
      c.id_or_dash.ensures,
      flag_is c.args.ver.now.fits (codes "FITS"),
      flag_is c.args.ver.now.counts (codes "COUNTS"),
    ) refl)
