use Rattle.std.proofs.Common.{◌≡◌, ◌∙◌, length, rules}
use Rattle.sysmods.specs.Choices.{choice}
use Rattle.smpe_summary.proofs.Untouched.{none_taken, nil_of}
use Rattle.smpe_summary.proofs.taken.gone_among.Goals as goal

pub returns-then-is_empty : goal.returns-then-is_empty
returns-then-is_empty c =
    let l = c.args.less.now in
    let none : length l.dels.now ≡ 0 = search rules in
    c.new.ensures.items
    ∙ none_taken l.vers.now.global.now (choice l.vers.now) l.zone.now l.dels.now c.args.ids.now (nil_of l.dels.now none)
