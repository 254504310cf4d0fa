use Rattle.std.proofs.Common.{◌≡◌, ℕ, List, [], ◌∷◌, ◌++◌, ◌∙◌, ap, map, refl}
use Rattle.std.specs.Prelude.{codes}
use Rattle.std.proofs.lemmas.Result.{IfOk-equal}
use Rattle.machine.specs.Report.{words_line}
use Rattle.report.specs.WordTexts.{word_text}
use Rattle.why_facts.proofs.TextParts.{flag_is}
use Rattle.why_facts.proofs.text.append_fact.Goals as goal

-- blanks before the first word are blanks before the line
indented : (word : List ℕ) (words : List (List ℕ))
    → words_line ((32 ∷ 32 ∷ word) ∷ words) ≡ 32 ∷ 32 ∷ words_line (word ∷ words)
indented word [] = refl
indented word (x ∷ xs) = refl

pub returns-in-Standing : goal.returns-in-Standing
returns-in-Standing c =
    rw c.in-Standing.is (IfOk-equal c.append_words.result c.append_words.new.text.items _ _ c.append_words.ensures
    (rw (c.as_bytes.ensures.same, c.kind_or_dash.ensures, c.standing_word.ensures) refl))

pub returns-in-Entry : goal.returns-in-Entry
returns-in-Entry c =
    rw c.in-Entry.is (IfOk-equal c.append_words-in-Entry.result c.append_words-in-Entry.new.text.items _ _
    c.append_words-in-Entry.ensures (ap (λ t. c.args.text.now.items ++ t)
    (indented (codes "ENTRY") (map word_text c.entry_words.result) ∙ ap (λ t. 32 ∷ 32 ∷ t) c.entry_words.ensures)))

pub returns-in-Ver : goal.returns-in-Ver
returns-in-Ver c = rw c.in-Ver.is c.append_ver.ensures

pub returns-in-Requisite : goal.returns-in-Requisite
returns-in-Requisite c = rw c.in-Requisite.is c.append_requisite.ensures

pub returns-in-Hold : goal.returns-in-Hold
returns-in-Hold c = rw c.in-Hold.is c.append_hold.ensures

pub returns-in-Element : goal.returns-in-Element
returns-in-Element c = rw c.in-Element.is c.append_element.ensures

pub returns-in-Delete : goal.returns-in-Delete
returns-in-Delete c =
    rw c.in-Delete.is (IfOk-equal c.append_words-in-Delete.result c.append_words-in-Delete.new.text.items _ _
    c.append_words-in-Delete.ensures
    (rw (c.as_bytes-in-Delete.ensures.same, flag_is c.in-Delete.own (codes "CHAIN")) refl))

pub returns-in-Takes : goal.returns-in-Takes
returns-in-Takes c =
    rw c.in-Takes.is (IfOk-equal c.append_words-in-Takes.result c.append_words-in-Takes.new.text.items _ _
    c.append_words-in-Takes.ensures (rw c.as_bytes-in-Takes.ensures.same refl))

pub returns-in-Npre : goal.returns-in-Npre
returns-in-Npre c =
    rw c.in-Npre.is (IfOk-equal c.append_words-in-Npre.result c.append_words-in-Npre.new.text.items _ _
    c.append_words-in-Npre.ensures
    (rw (c.as_bytes-in-Npre.ensures.same, flag_is c.in-Npre.applied (codes "APPLIED")) refl))

pub returns-in-Forbidden : goal.returns-in-Forbidden
returns-in-Forbidden c =
    rw c.in-Forbidden.is (IfOk-equal c.append_words-in-Forbidden.result c.append_words-in-Forbidden.new.text.items _ _
    c.append_words-in-Forbidden.ensures (rw c.as_bytes-in-Forbidden.ensures.same refl))

pub returns-in-Needed : goal.returns-in-Needed
returns-in-Needed c =
    rw c.in-Needed.is (IfOk-equal c.append_words-in-Needed.result c.append_words-in-Needed.new.text.items _ _
    c.append_words-in-Needed.ensures (rw c.as_bytes-in-Needed.ensures.same refl))
