use Rattle.std.proofs.Common.{◌≡◌, ◌++◌, ◌∷◌, [], List, append-nil, append_assoc, arith, refl, sym, ap, subst, ◌∙◌}
use Rattle.std.proofs.lemmas.Grind.{common_steps}
use Rattle.std.proofs.lemmas.List.{nil_from_length}
use Rattle.store_sysmods.specs.declared.head.HeadRow.{HeadRow}
use Rattle.store_sysmods.specs.declared.head.BareHead.{BareHead}
use Rattle.store_sysmods.specs.declared.source.SourceRow.{SourceRow}
use Rattle.store_sysmod_loads.specs.Joined.{AreJoined}
use Rattle.store_sysmod_loads.proofs.RunLemmas.{next_left}
use Rattle.store_sysmod_loads.proofs.JoinLemmas.{joined_step, whole_head}
use Rattle.store_sysmod_loads.proofs.joining.join_sources.Goals as goal

pub loop-head-preserved : goal.loop-head-preserved
loop-head-preserved c =
    let heads = c.loop-head.heads.items in
    let head = c.in-Some.head in
    let names = c.in_ok-names.names in
    let new = c.pop_row.new.rows.items in
    let sources = c.loop-head.sources.items in
    let next = c.take_sources.new.rows.items in
    let whole : HeadRow = record { id = head.id; kind = head.kind; sources = names } in
    let pushed : c.push.new.self.items ≡ heads ++ whole ∷ [] = grind (arith, common_steps) in
    record {
      told = λ more h.
          subst (λ (hs : List HeadRow). AreJoined c.args.bare.items c.args.sources.items hs)
          (sym (ap (λ (hs : List HeadRow). hs ++ more) pushed ∙ append_assoc heads (whole ∷ []) more))
          (c.loop-head.invariant.told (whole ∷ more) (subst (λ (bare : List BareHead).
          AreJoined bare sources (whole ∷ more)) (sym c.in-Some.ensures.some)
          (next, refl, c.in_ok-names.ensures.taken, h)));
      only = λ others h.
          let it = c.loop-head.invariant.only others h in
          let there = subst (λ (bare : List BareHead). AreJoined bare sources it.0) c.in-Some.ensures.some it.2 in
          let step = joined_step head new sources it.0 there in
          let left = step.1 in
          let one = c.in_ok-names.ensures.only step.0.sources step.2 step.5 in (
            left,
            next_left others heads whole it.0 left it.1 (step.3 ∙ ap (λ (x : HeadRow). x ∷ left)
                (whole_head head step.0 names step.4 one.0))
                ∙ ap (λ (hs : List HeadRow). hs ++ left) (sym pushed),
            subst (λ (s : List SourceRow). AreJoined new s left) one.1 step.6,
          );
    }

pub returns-clause-joined : goal.returns-clause-joined
returns-clause-joined c =
    let sources : c.loop-head.sources.items ≡ [] = nil_from_length c.loop-head.sources.items (grind (
      arith,
      common_steps,
    ))
    in
    let there = subst (λ (bare : List BareHead). AreJoined bare c.loop-head.sources.items []) (sym
    c.in_default.ensures.none) sources in
    subst (λ (hs : List HeadRow). AreJoined c.args.bare.items c.args.sources.items hs)
    (append-nil c.loop-head.heads.items) (c.loop-head.invariant.told [] there)
