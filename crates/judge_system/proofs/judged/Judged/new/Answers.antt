use Rattle.std.proofs.Common.{◌∙◌, All, Contains, ap, length, refl, subst, sym}
use Rattle.terms.specs.Types.{Id}
use Rattle.judge_system.specs.declared.stated.RequisiteOf.{RequisiteOf}
use Rattle.judge_system.proofs.judged.Judged.new.Goals as goal

pub numbered_system-requires-clause-by : goal.numbered_system-requires-clause-by
numbered_system-requires-clause-by c =
    subst (λ ids. All (λ (p : Id × Id). Contains ids p.0) c.as_slice-2.result.now) (sym c.in_ok-ids.ensures.ids)
    (subst (All (λ (p : Id × Id). Contains c.args.ids.now p.0)) (sym c.as_slice-2.ensures.value) c.requires.by)

pub numbered_system-requires-clause-within : goal.numbered_system-requires-clause-within
numbered_system-requires-clause-within c =
    subst (λ ids. All (λ (w : RequisiteOf). Contains ids w.of) c.as_slice-3.result.now) (sym c.in_ok-ids.ensures.ids)
    (subst (All (λ (w : RequisiteOf). Contains c.args.ids.now w.of)) (sym c.as_slice-3.ensures.value) c.requires.of)

pub returns-clause-numbered : goal.returns-clause-numbered
returns-clause-numbered c = record {
  ids_are = c.in_ok-ids.ensures.ids;
  tests_are = refl;
  needs_are = refl;
  bypassed_are = refl;
  system = rw (
    c.in_ok-ids.ensures.ids,
    c.as_slice-2.ensures.value,
    c.as_slice-3.ensures.value,
    c.in_ok-eligible.ensures,
    c.as_slice.ensures.value,
  ) at c.in_ok-system.ensures;
}

pub returns-clause-parts : goal.returns-clause-parts
returns-clause-parts c = record {
  size = c.in_ok-system.ensures.needs.size;
  tests = c.requires.rows ∙ ap length (sym c.in_ok-ids.ensures.ids);
  needs = sym (c.in_ok-system.ensures.needs.needs.lengths ∙ ap length c.as_slice-3.ensures.value);
}
