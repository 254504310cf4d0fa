use Rattle.std.proofs.Common.{◌≡◌, ◌∙◌, ◌++◌, List, [], ◌∷◌, map, ap, subst, sym, append-nil, append_assoc, arith}
use Rattle.std.proofs.Common.{refl, true, false, true≢false, length}
use Rattle.std.specs.Prelude.{◌↔◌, ◌==◌, Contains}
use Rattle.std.proofs.lemmas.Bool.{eqb-true}
use Rattle.std.proofs.lemmas.List.{nil_from_length, take_all}
use Rattle.terms.specs.Types.{Id, Zone}
use Rattle.change.specs.Deleting.{at_stake}
use Rattle.change.proofs.plan.touched_ids.Goals as goal

none_at_stake : (zone : Zone) (dels : List Id) → (length dels == 0) ≡ true → [] ≡ at_stake zone dels
none_at_stake zone dels empty = ap (at_stake zone) (sym (nil_from_length dels (eqb-true (length dels) 0 empty)))

all_at_stake : (zone : Zone) (dels : List Id) → (length dels == 0) ≡ false
    → dels ++ map (λ e. e.id) zone.entries ≡ at_stake zone dels
all_at_stake zone [] some = absurd (true≢false some)
all_at_stake zone (d ∷ ds) some = refl

pub returns-then-is_empty : goal.returns-then-is_empty
returns-then-is_empty c =
    let own = map (λ p. p.0) c.args.superseded.now ++ c.args.effective.now in
    subst (λ ids. (x : Id) → Contains c.from_vec.result x ↔ Contains ids x)
    (c.in_ok-extend_from_slice.ensures.items ∙ ap (λ ids. ids ++ c.args.effective.now) (c.loop-pair.invariant
    ∙ ap (map (λ p. p.0)) (take_all c.loop-pair.pair-index c.args.superseded.now (omega arith)))
    ∙ sym (append-nil own)
    ∙ ap (λ ids. own ++ ids) (none_at_stake c.args.zone.now c.args.dels.now
    (sym c.is_empty.ensures ∙ c.if-is_empty.true)))
    c.from_vec.ensures.members

pub returns : goal.returns
returns c =
    let own = map (λ p. p.0) c.args.superseded.now ++ c.args.effective.now in
    let dels = c.args.dels.now in
    let entries = c.entries-entry-items.result.now in
    subst (λ ids. (x : Id) → Contains c.from_vec-2.result x ↔ Contains ids x)
    (c.loop-entry.invariant
    ∙ ap (λ es. c.extend_from_slice-2.new.self.items ++ map (λ e. e.id) es)
    (take_all c.loop-entry.entry-index entries (omega arith) ∙ c.entries-entry-items.ensures.same)
    ∙ ap (λ ids. ids ++ map (λ e. e.id) c.args.zone.now.entries)
    (c.in_ok-extend_from_slice-2.ensures.items ∙ ap (λ ids. ids ++ dels)
    (c.in_ok-extend_from_slice.ensures.items ∙ ap (λ ids. ids ++ c.args.effective.now) (c.loop-pair.invariant
    ∙ ap (map (λ p. p.0)) (take_all c.loop-pair.pair-index c.args.superseded.now (omega arith)))))
    ∙ append_assoc own dels (map (λ e. e.id) c.args.zone.now.entries)
    ∙ ap (λ ids. own ++ ids) (all_at_stake c.args.zone.now dels (sym c.is_empty.ensures ∙ c.if-is_empty.false)))
    c.from_vec-2.ensures.members
