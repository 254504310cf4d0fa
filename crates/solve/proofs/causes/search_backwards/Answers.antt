use Rattle.std.proofs.Common.{ℕ, List, ◌≡◌, ◌<◌, ◌≤◌, ◌∙◌, sym, ap, subst, length, get_or}
use Rattle.std.proofs.Common.{arith}
use Rattle.std.specs.List.{All}
use Rattle.std.proofs.lemmas.List.{get_or_default}
use Rattle.solve.specs.Rows.{row_at}
use Rattle.solve.specs.Marks.{IsMarked}
use Rattle.solve.proofs.Added.{row_at_read}
use Rattle.solve.proofs.Marked.{listed_once, clear_from_listed}
use Rattle.solve.proofs.Spread.{spread_start, spread_more, spread_next, spread_within, spread_exact}
use Rattle.solve.proofs.causes.search_backwards.Goals as goal

pub loop-searched-init : goal.loop-searched-init
loop-searched-init c =
    rw (c.in_ok-push.ensures.items, c.new-found.ensures.items)
    (spread_start c.args.leads.now c.args.target c.args.marks.now c.requires.marks c.requires.target c.requires.clear)

pub bounds-leads-reached : goal.bounds-leads-reached
bounds-leads-reached c =
    let below : c.loop-searched.searched < length c.loop-searched.found.items = omega arith in
    let z : c.index-reached.result.now ≡ get_or c.loop-searched.found.items c.loop-searched.searched 0 =
    c.index-reached.ensures ∙ get_or_default c.loop-searched.found.items c.loop-searched.searched
    c.index-reached.result.now 0 below in
    rw z (spread_next c.args.leads.now c.args.target c.loop-searched.marks c.loop-searched.found.items
    c.loop-searched.searched below
    c.loop-searched.invariant)

pub offset_bounds-leads-reached : goal.offset_bounds-leads-reached
offset_bounds-leads-reached c =
    let within = bounds-leads-reached c in
    omega (arith, within)

pub mark_row-requires : goal.mark_row-requires
mark_row-requires c =
    let list = c.loop-searched.found.items in
    let next = c.loop-searched.searched in
    let z = c.index-reached.result.now in
    let below : next < length list = omega arith in
    let read : z ≡ get_or list next 0 = c.index-reached.ensures ∙ get_or_default list next z 0 below in
    let in_rows = spread_next c.args.leads.now c.args.target c.loop-searched.marks list next below
    c.loop-searched.invariant in
    let row = row_at_read c.args.leads.now z c.index-leads-reached.result c.deref.result.now
    (subst (λ n. n < length c.args.leads.now) (sym read) in_rows) c.index-leads-reached.is c.deref.ensures.value in
    subst (All (λ x. x < length c.loop-searched.marks)) row (λ k d in_row.
    omega (arith, c.loop-searched.invariant.size, c.requires.rows z k d in_row))

pub loop-searched-preserved : goal.loop-searched-preserved
loop-searched-preserved c =
    let list = c.loop-searched.found.items in
    let next = c.loop-searched.searched in
    let z = c.index-reached.result.now in
    let below : next < length list = omega arith in
    let size : length c.mark_row.new.marks ≡ length c.loop-searched.marks = omega arith in
    let read : z ≡ get_or list next 0 = c.index-reached.ensures ∙ get_or_default list next z 0 below in
    let in_rows = spread_next c.args.leads.now c.args.target c.loop-searched.marks list next below
    c.loop-searched.invariant in
    let row = row_at_read c.args.leads.now z c.index-leads-reached.result c.deref.result.now
    (subst (λ n. n < length c.args.leads.now) (sym read) in_rows) c.index-leads-reached.is c.deref.ensures.value in
    let P : List ℕ → Type 0 = λ r. IsMarked r c.loop-searched.marks c.mark_row.new.marks list
    c.mark_row.new.found.items in
    spread_more c.args.leads.now c.args.target c.loop-searched.marks c.mark_row.new.marks list
    c.mark_row.new.found.items next
    below size
    (subst P (sym row ∙ ap (row_at c.args.leads.now) read) c.in_ok-mark_row.ensures) c.loop-searched.invariant

pub clear_marks-requires : goal.clear_marks-requires
clear_marks-requires c =
    rw c.deref-2.ensures.value (λ k d in_list. omega (
      arith,
      c.loop-searched.invariant.size,
      spread_within c.args.leads.now c.args.target c.loop-searched.marks c.loop-searched.found.items
          c.loop-searched.searched
          c.loop-searched.invariant k d in_list,
    ))

pub returns-clause-once : goal.returns-clause-once
returns-clause-once c = listed_once c.loop-searched.marks c.loop-searched.found.items c.loop-searched.invariant.listed

pub returns-clause-exact : goal.returns-clause-exact
returns-clause-exact c =
    let end : length c.loop-searched.found.items ≤ c.loop-searched.searched = omega arith in
    spread_exact c.args.leads.now c.args.target c.loop-searched.marks c.loop-searched.found.items
    c.loop-searched.searched end
    c.loop-searched.invariant

pub returns-clause-within : goal.returns-clause-within
returns-clause-within c = spread_within c.args.leads.now c.args.target c.loop-searched.marks c.loop-searched.found.items
    c.loop-searched.searched c.loop-searched.invariant

pub returns-clause-clear : goal.returns-clause-clear
returns-clause-clear c =
    clear_from_listed c.loop-searched.marks c.clear_marks.new.marks c.loop-searched.found.items
    c.loop-searched.invariant.listed
    (rw c.deref-2.ensures.value at c.clear_marks.ensures)
