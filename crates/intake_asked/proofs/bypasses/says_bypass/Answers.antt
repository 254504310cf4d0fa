use Rattle.std.proofs.Common.{subst}
use Rattle.std.specs.Prelude.{codes, ◌∷◌, []}
use Rattle.terms.specs.Types.{Bypass}
use Rattle.intake_asked.specs.Said.{AreThese, SaysReasons}
use Rattle.intake_asked.specs.Words.{listed}
use Rattle.intake_asked.proofs.bypasses.says_bypass.Goals as goal

pub returns : goal.returns
returns c = λ t.
    let flags = c.says_flags.ensures in
    let seen = c.bypass.view_is in
    let asked = c.args.bypassed.now in
    record {
      pre = flags.pre t;
      req = flags.req t;
      ifreq = flags.ifreq t;
      same_id = flags.same_id t;
      applycheck = flags.applycheck t;
      holderror = subst (λ (b : Bypass). SaysReasons (codes "HOLDERROR" ∷ codes "HOLDERR" ∷ []) asked b.holderror) seen
          (c.in_ok-says_reasons.ensures c.if-not-branch.false);
      holdsystem = subst (λ (b : Bypass). SaysReasons (codes "HOLDSYSTEM" ∷ codes "HOLDSYS" ∷ []) asked
          b.holdsystem) seen
          (c.in_ok-says_reasons-2.ensures c.if-not-branch-2.false);
      holduser = subst (λ (b : Bypass). SaysReasons (codes "HOLDUSER" ∷ []) asked b.holduser) seen
          (c.in_ok-says_reasons-3.ensures c.if-not-branch-3.false);
      holdclass = subst (λ (b : Bypass). AreThese b.holdclass (listed (codes "HOLDCLASS" ∷ []) asked)) seen
          (subst (λ l. AreThese l (listed (codes "HOLDCLASS" ∷ []) asked)) c.as_slice.ensures.items
          (c.in_ok-says_classes.ensures c.if-not-branch-4.false));
    }
