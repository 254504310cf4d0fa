use Rattle.std.proofs.Common.{◌≡◌, ◌∙◌, sym, ap, subst, List, [], ◌∷◌, Some, None}
use Rattle.std.specs.Prelude.{option_map}
use Rattle.terms.specs.Words.{Word, HasMembers, plain}
use Rattle.rec80.specs.Cursors.{text_of}
use Rattle.rec80.specs.Lists.{LeavesMembers}
use Rattle.rec80.specs.Views.{word_of}
use Rattle.rec80.proofs.OperandReading.{some_and, and_some, if_none, if_some, one_is, plain_word}
use Rattle.terms.proofs.Options.{map_not_none, None_from_is_some}
use Rattle.rec80.proofs.single_operands.one_member.Goals as goal

pub returns-in_default-clause-none : goal.returns-in_default-clause-none
returns-in_default-clause-none c = λ m h.
    c.in_default.ensures.bad (plain m ∷ []) (c.members-members.ensures.all (plain m ∷ [])
    (some_and c.args.word.now.list text_of c.in_ok-list.list (λ text. HasMembers text (plain m ∷ []))
    c.in_ok-list.was h))

pub returns-then-is_some-clause-none : goal.returns-then-is_some-clause-none
returns-then-is_some-clause-none c = λ m h.
    let was : c.in-Ok.first ≡ Some c.in_ok-member.member = c.in_ok-member.was in
    let only = rw was at c.in-Ok.ensures.only in
    let r = only (plain m ∷ []) (c.members-members.ensures.all (plain m ∷ [])
    (some_and c.args.word.now.list text_of c.in_ok-list.list (λ text. HasMembers text (plain m ∷ []))
    c.in_ok-list.was h)) in
    map_not_none c.in_ok-member.member.list text_of (sym c.is_some.ensures ∙ c.if-is_some.true)
    (ap (λ w. w.list) (one_is r.0 m (word_of c.in_ok-member.member) r.1).0)

pub returns-in_default-next_member-clause-none : goal.returns-in_default-next_member-clause-none
returns-in_default-next_member-clause-none c = λ m h.
    let was : c.in-Ok.first ≡ Some c.in_ok-member.member = c.in_ok-member.was in
    let only = rw was at c.in-Ok.ensures.only in
    let r = only (plain m ∷ []) (c.members-members.ensures.all (plain m ∷ [])
    (some_and c.args.word.now.list text_of c.in_ok-list.list (λ text. HasMembers text (plain m ∷ []))
    c.in_ok-list.was h)) in
    c.in_default-next_member.ensures.bad r.0 r.2

pub returns-then-is_some-2-clause-none : goal.returns-then-is_some-2-clause-none
returns-then-is_some-2-clause-none c = λ m h.
    let was : c.in-Ok.first ≡ Some c.in_ok-member.member = c.in_ok-member.was in
    let only = rw was at c.in-Ok.ensures.only in
    let r = only (plain m ∷ []) (c.members-members.ensures.all (plain m ∷ [])
    (some_and c.args.word.now.list text_of c.in_ok-list.list (λ text. HasMembers text (plain m ∷ []))
    c.in_ok-list.was h)) in
    let s = if_some c.in-Ok-next_member.second (λ w. (ms : List Word) → LeavesMembers c.next_member.new.self ms
    → (rest : List Word) × (ms ≡ word_of w ∷ rest) × LeavesMembers c.next_member-2.new.self rest)
    (sym c.is_some-2.ensures ∙ c.if-is_some-2.true) c.in-Ok-next_member.ensures.only in
    let t = s.1 r.0 r.2 in
    cc (t.1, (one_is r.0 m (word_of c.in_ok-member.member) r.1).1)

pub returns-clause-one : goal.returns-clause-one
returns-clause-one c =
    let was : c.in-Ok.first ≡ Some c.in_ok-member.member = c.in_ok-member.was in
    let member = rw was at c.in-Ok.ensures.member in
    let end : LeavesMembers c.next_member.new.self [] = if_none c.in-Ok-next_member.second
    (LeavesMembers c.next_member.new.self []) (sym c.is_some-2.ensures ∙ c.if-is_some-2.false)
    c.in-Ok-next_member.ensures.end in
    let all = c.members-members.ensures.only (word_of c.in_ok-member.member ∷ []) (member [] end) in
    let none : c.in_ok-member.member.list ≡ None = None_from_is_some c.in_ok-member.member.list
    (sym c.is_some.ensures ∙ c.if-is_some.false) in
    let w : word_of c.in_ok-member.member ≡ plain c.in_ok-member.member.word.now =
    plain_word (word_of c.in_ok-member.member) (ap (option_map text_of) none) in
    and_some c.args.word.now.list text_of c.in_ok-list.list (λ text.
    HasMembers text (plain c.in_ok-member.member.word.now ∷ [])) c.in_ok-list.was
    (subst (λ w. HasMembers (text_of c.in_ok-list.list) (w ∷ [])) w all)
