use Rattle.std.proofs.Common.{◌≡◌, ◌∙◌, [], ◌∷◌, ◌++◌, refl, sym, ap, subst, append_assoc, true≢false}
use Rattle.std.specs.Vec.Iter.{into_iter_items}
use Rattle.std.specs.Ordering.{nat_cmp}
use Rattle.std.specs.Cmp.Lexicographic.{slice_cmp}
use Rattle.terms.specs.Rising.{Rises}
use Rattle.terms.specs.Global.{IsGlobal}
use Rattle.sysmods.specs.Held.{zone_of}
use Rattle.sysmods.proofs.Empty.{empty}
use Rattle.sysmods.proofs.Fronts.{AreBefore, before_last, global_front}
use Rattle.sysmods.proofs.parts.build_received.Goals as goal

pub loop-sysmod-init : goal.loop-sysmod-init
loop-sysmod-init c = record {
  parts = refl;
  taken = c.new-received.ensures;
  global = empty;
  rest = search;
}

pub try_insert_last-requires-clause-last : goal.try_insert_last-requires-clause-last
try_insert_last-requires-clause-last c =
    let at = c.loop-sysmod in
    let s = c.in-Some.sysmod in
    let rest = into_iter_items c.next.new.self in
    let all : at.yielded ++ s ∷ rest ≡ c.args.sysmods.items =
    ap (λ r. at.yielded ++ r) (sym c.in-Some.ensures.steps.0) ∙ at.invariant.parts
    ∙ c.into_iter-sysmod-iterator.ensures.into_iter_gives.0 in
    let rises : Rises (slice_cmp nat_cmp) (λ r. r.id) (at.yielded ++ s ∷ rest) =
    subst (Rises (slice_cmp nat_cmp) (λ r. r.id)) (c.as_slice.ensures.value ∙ sym all)
    (c.are_rising.ensures.0 c.if-not-are_rising.false) in
    subst (λ xs. AreBefore xs s.id) (sym at.invariant.taken) (before_last at.yielded s rest rises)

pub returns-then-not-branch-clause-none : goal.returns-then-not-branch-clause-none
returns-then-not-branch-clause-none c =
    let at = c.loop-sysmod in
    let s = c.in-Some.sysmod in
    let rest = into_iter_items c.next.new.self in
    let all : (at.yielded ++ s ∷ []) ++ rest ≡ c.args.sysmods.items =
    append_assoc at.yielded (s ∷ []) rest
    ∙ ap (λ r. at.yielded ++ r) (sym c.in-Some.ensures.steps.0) ∙ at.invariant.parts
    ∙ c.into_iter-sysmod-iterator.ensures.into_iter_gives.0 in (
      λ e. absurd (true≢false (sym e)),
      λ g.
          let front = global_front (at.yielded ++ s ∷ []) rest (subst (λ xs. IsGlobal (zone_of xs)) (sym all) g) in
          let fits = c.in_ok-try_insert_last.ensures.fits.1 (subst (λ xs. IsGlobal (zone_of (xs ++ s ∷ [])))
          (sym at.invariant.taken) front) in
          absurd (true≢false (sym fits ∙ c.if-not-branch.true)),
    )
