use Rattle.std.proofs.Common.{List, ◌∙◌, ap, filter, not, subst}
use Rattle.std.specs.Ordering.{nat_cmp}
use Rattle.std.specs.Cmp.Lexicographic.{slice_cmp}
use Rattle.sorted.specs.MultiMap.{listed}
use Rattle.terms.specs.Types.{Id, Global}
use Rattle.terms.specs.Lookups.{is_nil, is_in}
use Rattle.terms.specs.Choice.{Choice, counting}
use Rattle.sysmods.specs.Choices.{choice}
use Rattle.smpe_summary.specs.Asked.{Asked, is_failed, ids_where, going_on}
use Rattle.smpe_summary.specs.Superseding.{AreSuperseders}
use Rattle.smpe_summary.specs.Todo.{taken_off}
use Rattle.smpe_summary.proofs.Superseded.{superseders_are}
use Rattle.smpe_summary.proofs.summarize.summary_over.Goals as goal

pub returns : goal.returns
returns c =
    let a = c.args.asked.now in
    let ch = choice c.args.vers.now in
    let cands = c.args.candidates.now in
    let going = c.args.going.now in
    let supers = listed (slice_cmp nat_cmp) c.in_ok-supers.supers in
    record {
      cands = cands;
      cands_are = c.requires.candidates;
      supers = supers;
      supers_are = subst (λ (d : Choice). AreSuperseders d (going_on a) supers) c.requires.choice
          (subst (λ (ids : List Id). AreSuperseders ch ids supers) c.requires.going
          (superseders_are ch going c.in_ok-supers.supers c.in_ok-supers.ensures));
      kind = c.kind.ensures ∙ ap (λ (b : Asked). b.zone.kind) c.asked.view_is;
      members = c.in_ok-members.ensures;
      also = c.in_ok-also.ensures
          ∙ ap (λ (b : Asked). filter (λ x. not (is_in b.members x)) going) c.asked.view_is
          ∙ ap (filter (λ x. not (is_in a.members x))) c.requires.going;
      causes = c.in_ok-causes.ensures.causes;
      todo = rw c.as_slice.ensures.value at c.in_ok-causes.ensures.todo;
      taken_off = c.in_ok-taken_off_by.ensures
          ∙ ap (λ (g : Global). taken_off g ch a.zone going) c.requires.global
          ∙ ap (λ (d : Choice). taken_off a.global d a.zone going) c.requires.choice
          ∙ ap (taken_off a.global (counting a.global a.zone cands) a.zone) c.requires.going;
      holds_read = ap (λ (b : Asked). b.holds_read) c.asked.view_is;
      has_failures = c.in_ok-has_failures.ensures
          ∙ ap (λ (b : Asked). not (is_nil (ids_where is_failed b.lines))) c.asked.view_is;
    }
