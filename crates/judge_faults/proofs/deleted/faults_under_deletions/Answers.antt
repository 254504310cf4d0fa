use Rattle.std.proofs.Common.{length, refl, arith}
use Rattle.std.proofs.lemmas.Option.{slice_get_read}
use Rattle.sysmods.specs.Choices.{choice}
use Rattle.judge_faults.specs.Deletes.{IsMarkedDeleted}
use Rattle.terms.proofs.BesideLists.{beside_at, beside_through}
use Rattle.judge_faults.proofs.deleted.faults_under_deletions.Goals as goal

pub loop-i-preserved : goal.loop-i-preserved
loop-i-preserved c =
    let ids = c.args.ids.now in
    let id = c.index-ids-i.result in
    beside_at (λ n x own. IsMarkedDeleted c.args.vers.now.global.now (choice c.args.vers.now) c.args.dels.now
    c.args.faults.now n x own) ids c.loop-i.all.items c.push.new.self.items c.loop-i.i id c.with_chain_deleted.result
    (slice_get_read ids (length ids) c.loop-i.i id refl (omega arith) c.index-ids-i.is) c.in_ok-push.ensures.items
    (record { own = c.item_at.result; own_at = c.item_at.ensures; is = c.with_chain_deleted.ensures })
    c.loop-i.invariant

pub returns : goal.returns
returns c =
    beside_through (λ n x own. IsMarkedDeleted c.args.vers.now.global.now (choice c.args.vers.now) c.args.dels.now
    c.args.faults.now n x own) c.args.ids.now c.loop-i.all.items c.loop-i.i (omega arith) c.loop-i.invariant
