use Rattle.mcs.specs.KnownWords.{own_list}
use Rattle.mcs.proofs.HoldJudging.{release_value, no_release}
use Rattle.mcs.proofs.hold_item.release_item.Goals as goal

pub returns-in-Ok-clause-said : goal.returns-in-Ok-clause-said
returns-in-Ok-clause-said c = λ rest h. record {
  value = release_value c.args.known.now.word (own_list c.args.known.now) rest c.in-Ok.release c.requires
      (c.in-Ok.ensures.ok rest h);
  within = tt;
}

pub returns-in-Err-clause-fault : goal.returns-in-Err-clause-fault
returns-in-Err-clause-fault c = λ rest h.
    no_release c.args.known.now.word (own_list c.args.known.now) rest c.requires (c.in-Err.ensures.bad rest h)
