use Rattle.std.proofs.Common.{refl}
use Rattle.text80.proofs.Reading.{read_at, numbered_fault}
use Rattle.text80.proofs.numbered.Numbered.read.Goals as goal

pub returns-in-Err-clause-fault : goal.returns-in-Err-clause-fault
returns-in-Err-clause-fault c =
    rw (← c.deref-line-items.ensures.value) (numbered_fault c.deref-line-items.result.now c.loop-i.i c.loop-i.least
    c.line-item.result _ c.loop-i-test.true c.line-item.is c.loop-i.invariant refl c.in-Err.ensures.fault)

pub loop-i-preserved : goal.loop-i-preserved
loop-i-preserved c =
    read_at c.deref-line-items.result.now c.loop-i.i c.loop-i.least c.in-Ok.number c.line-item.result c.loop-i-test.true
    c.line-item.is c.loop-i.invariant
    c.in-Ok.ensures.numbered.0 c.in-Ok.ensures.numbered.1 c.in-Ok.ensures.from
