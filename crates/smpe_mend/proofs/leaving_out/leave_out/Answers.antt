use Rattle.std.proofs.Common.{◌≡◌, ◌<◌, ◌+◌, ◌-◌, ◌∙◌, length, refl, subst, sym, arith}
use Rattle.std.specs.Prelude.{min}
use Rattle.smpe_mend.specs.Runs.{asked_of}
use Rattle.smpe_mend.specs.Growth.{Repairs}
use Rattle.smpe_mend.specs.Courses.{IsNext}
use Rattle.smpe_mend.proofs.Leaving.{gone_next, goes_on}
use Rattle.smpe_mend.proofs.leaving_out.leave_out.Goals as goal

pub loop-course-init : goal.loop-course-init
loop-course-init c = record {
  same = refl;
  gone = record {
    repairs = c.requires.repairs;
    least = omega arith;
    needed = λ one all i before. absurd (omega (arith, before));
  };
}

pub leave_out_next-requires-clause-repairs : goal.leave_out_next-requires-clause-repairs
leave_out_next-requires-clause-repairs c =
    subst (λ g. Repairs g (asked_of c.args.broken.now) c.loop-course.course.tried) (sym c.loop-course.invariant.same)
    c.loop-course.invariant.gone.repairs

pub loop-course-smaller : goal.loop-course-smaller
loop-course-smaller c =
    let old = c.loop-course.course in
    let end = c.loop-course.course.place + c.min.result in
    let below : old.place < length old.tried.actions.items = omega arith in
    let end_is : end ≡ old.place + min c.args.size (length old.tried.actions.items - old.place) = omega arith in
    goes_on c.loop-course.global (asked_of c.args.broken.now) c.args.size 0 old c.in_ok-course.course end
    c.requires.some below end_is c.in_ok-course.ensures.next

pub loop-course-preserved : goal.loop-course-preserved
loop-course-preserved c =
    let g = c.args.global.now in
    let a = asked_of c.args.broken.now in
    let old = c.loop-course.course in
    let new = c.in_ok-course.course in
    let end = c.loop-course.course.place + c.min.result in
    let same = c.loop-course.invariant.same in
    let below : old.place < length old.tried.actions.items = omega arith in
    let end_is : end ≡ old.place + min c.args.size (length old.tried.actions.items - old.place) = omega arith in
    record {
      same = c.in_ok-course.ensures.back ∙ same;
      gone = gone_next g a c.args.size (length c.args.tried.actions.items) old new end c.requires.some below end_is
          c.loop-course.invariant.gone (subst (λ h. IsNext h a old end new) same c.in_ok-course.ensures.next);
    }

pub returns-clause-repairs : goal.returns-clause-repairs
returns-clause-repairs c = c.loop-course.invariant.gone.repairs

pub returns-clause-fewer : goal.returns-clause-fewer
returns-clause-fewer c = c.loop-course.invariant.gone.least

pub returns-clause-minimal : goal.returns-clause-minimal
returns-clause-minimal c = λ one all i before. c.loop-course.invariant.gone.needed one all i (omega (arith, before))

pub returns-clause-back : goal.returns-clause-back
returns-clause-back c = c.loop-course.invariant.same
