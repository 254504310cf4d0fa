-- What ++HOLD and ++RELEASE say is determined.
use Rattle.std.proofs.Common.{◌≡◌, List, [], ◌∷◌, ◌++◌, Option, Some, None, refl, sym, ◌∙◌, ap, subst, append_assoc}
use Rattle.std.specs.Prelude.{IsSomeAnd, reverse}
use Rattle.std.proofs.lemmas.List.{reverse-append, reverse-reverse}
use Rattle.std.proofs.lemmas.List.Sorted.{All-permutation, IsPermutation-reverse}
use Rattle.terms.specs.declared.kinds.HoldKind.{HoldKind}
use Rattle.terms.specs.declared.kinds.HoldKind.TheVariants.{Error, System, User}
use Rattle.terms.specs.Types.{Text, Hold, Release}
use Rattle.terms.specs.Forms.{IsId, IsReason, IsClass, IsDate, AreBlanks, BeginsDark, IsTrimmed}
use Rattle.terms.specs.Words.{Word}
use Rattle.terms.specs.Operands.{HasRequired}
use Rattle.terms.specs.HoldStatements.{HasKind, HasComment, IsHoldOf, IsReleaseOf}
use Rattle.terms.proofs.Longest.{StartsWithout, longest_only}
use Rattle.terms.proofs.ExactOperands.{own_only, required_only, optional_only}

-- The kind of a hold is determined.
pub kind_only : (ws : List Word) (a b : HoldKind) → HasKind ws a → HasKind ws b → a ≡ b
kind_only ws Error Error h k = refl
kind_only ws Error System h k = absurd (cc (h.alone System (λ e. cc (e)), k.there))
kind_only ws Error User h k = absurd (cc (h.alone User (λ e. cc (e)), k.there))
kind_only ws System Error h k = absurd (cc (h.alone Error (λ e. cc (e)), k.there))
kind_only ws System System h k = refl
kind_only ws System User h k = absurd (cc (h.alone User (λ e. cc (e)), k.there))
kind_only ws User Error h k = absurd (cc (h.alone Error (λ e. cc (e)), k.there))
kind_only ws User System h k = absurd (cc (h.alone System (λ e. cc (e)), k.there))
kind_only ws User User h k = refl

dark_starts : (cut right : Text) → BeginsDark cut → StartsWithout (λ b. b ≡ 32) (cut ++ right)
dark_starts [] right d = absurd d
dark_starts (b ∷ cut) right d = d

dark_whole : (cut : Text) → BeginsDark cut → StartsWithout (λ b. b ≡ 32) cut
dark_whole [] d = absurd d
dark_whole (b ∷ cut) d = d

blanks_reverse : (text : Text) → AreBlanks text → AreBlanks (reverse text)
blanks_reverse text h = All-permutation (λ b. b ≡ 32) text (reverse text) (IsPermutation-reverse text) h

-- A text has one cut at most.
pub trimmed_only : (text a b : Text) → IsTrimmed text a → IsTrimmed text b → a ≡ b
trimmed_only text a b h k =
    let front = longest_only (λ c. c ≡ 32) h.0 (a ++ h.1) k.0 (b ++ k.1)
    (sym (append_assoc h.0 a h.1) ∙ sym h.2 ∙ k.2 ∙ append_assoc k.0 b k.1) h.3 (dark_starts a h.1 h.5) k.3
    (dark_starts b k.1 k.5) in
    let turned : reverse h.1 ++ reverse a ≡ reverse k.1 ++ reverse b =
    sym (reverse-append a h.1) ∙ ap reverse front.1 ∙ reverse-append b k.1 in
    let back = longest_only (λ c. c ≡ 32) (reverse h.1) (reverse a) (reverse k.1) (reverse b) turned
    (blanks_reverse h.1 h.4) (dark_whole (reverse a) h.6) (blanks_reverse k.1 k.4) (dark_whole (reverse b) k.6)
    in
    sym (reverse-reverse a) ∙ ap reverse back.1 ∙ reverse-reverse b

cut_only : (list a b : Option Text) → IsSomeAnd list (λ text. IsSomeAnd a (λ cut. IsTrimmed text cut))
    → IsSomeAnd list (λ text. IsSomeAnd b (λ cut. IsTrimmed text cut)) → a ≡ b
cut_only None a b h k = absurd h
cut_only (Some text) None b h k = absurd h
cut_only (Some text) (Some a) None h k = absurd k
cut_only (Some text) (Some a) (Some b) h k = ap (λ t. Some t) (trimmed_only text a b h k)

pub comment_only : (found : Option Word) (a b : Option Text) → HasComment found a → HasComment found b → a ≡ b
comment_only None a b h k = h ∙ sym k
comment_only (Some w) a b h k = cut_only w.list a b h k

reason_only : (found : Option Word) (a b : HoldKind) (r s : Text) → a ≡ b → HasRequired (IsReason a) found r
    → HasRequired (IsReason b) found s → r ≡ s
reason_only found a b r s e h k = required_only (IsReason b) found r s
    (subst (λ kind. HasRequired (IsReason kind) found r) e h) k

-- A hold is determined but for whether it is internal.
pub hold_only : (own : Option Text) (ws : List Word) (a b : Hold) → IsHoldOf own ws a → IsHoldOf own ws b
    → a.internal ≡ b.internal → a ≡ b
hold_only own ws a b h k internal =
    let kinds = kind_only ws a.kind b.kind h.kind k.kind in
    ap (λ x. record a { id = x }) (own_only IsId IsId own a.id b.id h.id k.id)
    ∙ ap (λ x. record a { id = b.id; kind = x }) kinds
    ∙ ap (λ x. record a { id = b.id; kind = b.kind; reason = x })
    (reason_only _ a.kind b.kind a.reason b.reason kinds h.reason k.reason)
    ∙ ap (λ x. record a { id = b.id; kind = b.kind; reason = b.reason; fmid = x })
    (required_only IsId _ a.fmid b.fmid h.fmid k.fmid)
    ∙ ap (λ x. record b { class = x; date = a.date; comment = a.comment; internal = a.internal })
    (optional_only IsClass _ a.class b.class h.class k.class)
    ∙ ap (λ x. record b { date = x; comment = a.comment; internal = a.internal })
    (optional_only IsDate _ a.date b.date h.date k.date)
    ∙ ap (λ x. record b { comment = x; internal = a.internal }) (comment_only _ a.comment b.comment h.comment k.comment)
    ∙ ap (λ x. record b { internal = x }) internal

-- A release is determined.
pub release_only : (own : Option Text) (ws : List Word) (a b : Release) → IsReleaseOf own ws a → IsReleaseOf own ws b
    → a ≡ b
release_only own ws a b h k =
    let kinds = kind_only ws a.kind b.kind h.kind k.kind in
    ap (λ x. record a { id = x }) (own_only IsId IsId own a.id b.id h.id k.id)
    ∙ ap (λ x. record a { id = b.id; kind = x }) kinds
    ∙ ap (λ x. record b { reason = x; fmid = a.fmid }) (reason_only _ a.kind b.kind a.reason b.reason kinds h.reason
    k.reason)
    ∙ ap (λ x. record b { fmid = x }) (required_only IsId _ a.fmid b.fmid h.fmid k.fmid)
