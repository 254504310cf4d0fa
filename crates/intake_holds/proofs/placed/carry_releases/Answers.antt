use Rattle.std.proofs.Common.{[], ◌∷◌, sym, refl, arith, append-nil}
use Rattle.mcs.specs.declared.hold_item.HoldItem.TheVariants.{Release}
use Rattle.intake_holds.specs.Holds.{ReleaseBecomes, IsNoRelease, IsReleased, placed_at}
use Rattle.intake_holds.proofs.Becoming.{become_next, become_whole}
use Rattle.intake_holds.proofs.placed.carry_releases.Goals as goal

pub loop-release-preserved-in_default : goal.loop-release-preserved-in_default
loop-release-preserved-in_default c =
    let l = c.loop-release in
    become_next ReleaseBecomes c.args.stated.now [] [] l.placed.items l.placed.items l.release-index
    c.release-item.result [] [] (omega arith) c.release-item.is refl (sym (append-nil l.placed.items))
    (IsNoRelease (rw c.in_default.is at c.in_ok-carried.ensures.none)) l.invariant

pub loop-release-preserved : goal.loop-release-preserved
loop-release-preserved c =
    let l = c.loop-release in
    let stated = c.release-item.result in
    let release = c.in-Some.carried in
    become_next ReleaseBecomes c.args.stated.now [] [] l.placed.items c.push_item.new.placed.items l.release-index
    stated [] (placed_at stated.place (Release release) ∷ []) (omega arith) c.release-item.is refl
    c.in_ok-push_item.ensures (IsReleased release (rw c.in-Some.is at c.in_ok-carried.ensures.some)) l.invariant

pub returns : goal.returns
returns c =
    become_whole ReleaseBecomes c.args.stated.now [] c.loop-release.placed.items c.loop-release.release-index
    (omega arith) c.loop-release.invariant
