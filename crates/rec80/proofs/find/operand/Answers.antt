use Rattle.std.proofs.Common.{◌∙◌, sym, ap, refl}
use Rattle.std.specs.Prelude.{option_map}
use Rattle.std.specs.Str.{bytes_eq}
use Rattle.terms.proofs.Searches.{find_mapped}
use Rattle.rec80.specs.Views.{word_of}
use Rattle.rec80.proofs.find.operand.Goals as goal

pub returns : goal.returns
returns c =
    let name = c.args.name.now in
    ap (option_map word_of) (c.copied.ensures ∙ c.find_word.ensures)
    ∙ sym (find_mapped (λ w. bytes_eq w.word.now name) (λ w. bytes_eq w.word name) word_of (λ w. refl) c.args.words.now)
