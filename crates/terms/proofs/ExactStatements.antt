-- What a statement of PTFIN says is determined.
use Rattle.std.proofs.Common.{◌≡◌, ℕ, List, [], ◌∷◌, ◌++◌, Option, Some, None, refl, sym, ◌∙◌, ap, subst, arith}
use Rattle.std.specs.Prelude.{find, IsSomeAnd}
use Rattle.std.specs.Str.{bytes_eq}
use Rattle.terms.specs.declared.kinds.Kind.{Kind}
use Rattle.terms.specs.declared.kinds.Kind.TheVariants.{Function, Ptf, Apar, Usermod}
use Rattle.terms.specs.declared.kinds.ElemType.{ElemType}
use Rattle.terms.specs.declared.kinds.ElemType.TheVariants.{Mac, Src, Clist, Data, Exec, Parm, Proc}
use Rattle.terms.specs.declared.statement_words.StatementWord.{StatementWord}
use Rattle.terms.specs.declared.statement_words.StatementWord.TheVariants as word
use Rattle.terms.specs.Types.{Text, Lines, IfReq, Ver, Hold, Action, Replaces, Updates, Change, Sysmod, Assign}
use Rattle.terms.specs.Forms.{IsId, IsSource, IsSrel, IsName}
use Rattle.terms.specs.Statement.{Piece, TheWord, TheList}
use Rattle.terms.specs.Operands.{HasOne, HasSorted}
use Rattle.terms.specs.Words.{Word, list_pieces, TakesWord, BeginsNoList}
use Rattle.terms.specs.Statements.{statement_text, changed_type, Statement, SaysHeader, SaysVer, SaysIf, SaysHold}
use Rattle.terms.specs.Statements.{SaysAssign, SaysChange, IsVerOf, IsIfOf, IsOwnHoldOf, IsAssignOf, HasAction}
use Rattle.terms.specs.Statements.{IsChangeOf, Says}
use Rattle.terms.specs.Ptfin.{Parts, HasValue}
use Rattle.terms.proofs.ExactWords.{words_only}
use Rattle.terms.proofs.ExactOperands.{own_only, one_value, has_sorted_only, listed_some_only, required_only}
use Rattle.terms.proofs.ExactOperands.{optional_only, texts_only}
use Rattle.terms.proofs.ExactHolds.{hold_only}

-- the words, as a reader knows them
read_word : Text → Option StatementWord
read_word text =
    find (λ w. bytes_eq (statement_text w) text)
    (word.Header Function ∷ word.Header Ptf ∷ word.Header Apar ∷ word.Header Usermod ∷ word.Ver ∷ word.If ∷ word.Hold
    ∷ word.Release ∷ word.Assign ∷ word.Replace Mac ∷ word.Replace Src ∷ word.Replace Clist ∷ word.Replace Data ∷
    word.Replace Exec
    ∷ word.Replace Parm ∷ word.Replace Proc ∷ word.UpdateMac ∷ word.UpdateSrc ∷ [])

reads : (w : StatementWord) → read_word (statement_text w) ≡ Some w
unfolding read_word
reads (word.Header Function) = refl
reads (word.Header Ptf) = refl
reads (word.Header Apar) = refl
reads (word.Header Usermod) = refl
reads word.Ver = refl
reads word.If = refl
reads word.Hold = refl
reads word.Release = refl
reads word.Assign = refl
reads (word.Replace Mac) = refl
reads (word.Replace Src) = refl
reads (word.Replace Clist) = refl
reads (word.Replace Data) = refl
reads (word.Replace Exec) = refl
reads (word.Replace Parm) = refl
reads (word.Replace Proc) = refl
reads word.UpdateMac = refl
reads word.UpdateSrc = refl

some_same : (a b : StatementWord) → Some a ≡ Some b → a ≡ b
some_same a b e = cc (e)

-- A spelling is that of one word.
pub spelled_only : (w v : StatementWord) → statement_text w ≡ statement_text v → w ≡ v
spelled_only w v e = some_same w v (sym (reads w) ∙ ap read_word e ∙ reads v)

takes_same : (a b : Text) (k l : Option Text) (rest more : List Piece)
    → TheWord a ∷ (list_pieces k ++ rest) ≡ TheWord b ∷ (list_pieces l ++ more) → (k ≡ None → BeginsNoList rest)
    → (l ≡ None → BeginsNoList more) → (a ≡ b) × (k ≡ l) × (rest ≡ more)
takes_same a b None None rest more e f g = (cc (e), refl, cc (e))
takes_same a b None (Some l) rest more e f g =
    let rest_is : rest ≡ TheList l ∷ more = cc (e) in
    absurd (subst BeginsNoList rest_is (f refl))
takes_same a b (Some k) None rest more e f g =
    let more_is : more ≡ TheList k ∷ rest = cc (e) in
    absurd (subst BeginsNoList more_is (g refl))
takes_same a b (Some k) (Some l) rest more e f g = (cc (e), cc (e), cc (e))

-- The word that pieces begin with, its list and what follows are determined.
pub takes_only : (pieces : List Piece) (a b : Text) (k l : Option Text) (rest more : List Piece)
    → TakesWord pieces (record { word = a; list = k }) rest → TakesWord pieces (record { word = b; list = l }) more
    → (a ≡ b) × (k ≡ l) × (rest ≡ more)
takes_only pieces a b k l rest more t u = takes_same a b k l rest more (sym t.pieces_are ∙ u.pieces_are) t.ends u.ends

-- A ++VER is determined.
pub ver_only : (s : Sysmod) (own : Option Text) (ws : List Word) (a b : Ver) → IsVerOf s own ws a → IsVerOf s own ws b
    → a ≡ b
ver_only s own ws a b h k =
    ap (λ x. record a { srel = x }) (own_only IsSrel IsSrel own a.srel b.srel h.srel k.srel)
    ∙ ap (λ x. record a { srel = b.srel; fmid = x }) (optional_only IsId _ a.fmid b.fmid h.fmid k.fmid)
    ∙ ap (λ x. record a { srel = b.srel; fmid = b.fmid; pre = x }) (texts_only IsId _ a.pre b.pre h.pre k.pre)
    ∙ ap (λ x. record a { srel = b.srel; fmid = b.fmid; pre = b.pre; req = x })
    (texts_only IsId _ a.req b.req h.req k.req)
    ∙ ap (λ x. record b { sup = x; npre = a.npre; del = a.del; ifs = a.ifs })
    (texts_only IsId _ a.sup b.sup h.sup k.sup)
    ∙ ap (λ x. record b { npre = x; del = a.del; ifs = a.ifs }) (texts_only IsId _ a.npre b.npre h.npre k.npre)
    ∙ ap (λ x. record b { del = x; ifs = a.ifs }) (texts_only IsId _ a.del b.del h.del k.del)
    ∙ ap (λ x. record b { ifs = x }) (h.no_ifs ∙ sym k.no_ifs)

-- An ++IF is determined.
pub if_only : (s : Sysmod) (own : Option Text) (ws : List Word) (a b : IfReq) → IsIfOf s own ws a → IsIfOf s own ws b
    → a ≡ b
if_only s own ws a b h k =
    let fmid : h.fmid ≡ k.fmid = cc (h.are_operands, k.are_operands) in
    let req : h.req ≡ k.req = cc (h.are_operands, k.are_operands) in
    ap (λ x. record a { function = x }) (one_value IsId k.fmid a.function b.function
    (subst (λ w. HasOne IsId w a.function) fmid h.function) k.function)
    ∙ ap (λ x. record b { req = x }) (has_sorted_only IsId k.req a.req b.req
    (subst (λ w. HasSorted IsId w a.req) req h.ids) k.ids)

-- A hold inside a SYSMOD is determined.
pub own_hold_only : (s : Sysmod) (own : Option Text) (ws : List Word) (a b : Hold) → IsOwnHoldOf s own ws a
    → IsOwnHoldOf s own ws b → a ≡ b
own_hold_only s own ws a b h k = hold_only own ws a b h.hold k.hold (h.internal ∙ sym k.internal)

-- An ++ASSIGN is determined.
pub assign_only : (own : Option Text) (ws : List Word) (a b : Assign) → IsAssignOf own ws a → IsAssignOf own ws b
    → a ≡ b
assign_only own ws a b h k =
    ap (λ x. record a { source = x }) (required_only IsSource _ a.source b.source h.source k.source)
    ∙ ap (λ x. record b { to = x }) (listed_some_only IsId _ a.to b.to h.to k.to)

action_only : (w : StatementWord) (ws : List Word) (inline : Lines) (a b : Action) → HasAction w ws inline a
    → HasAction w ws inline b → a ≡ b
action_only (word.Replace type) ws inline (Replaces d l text) (Replaces d' l' text') h k =
    ap (λ x. Replaces x l text) (required_only IsName _ d d' h.1 k.1)
    ∙ ap (λ x. Replaces d' x text) (required_only IsName _ l l' h.2 k.2)
    ∙ ap (λ x. Replaces d' l' x) (h.3 ∙ sym k.3)
action_only word.UpdateMac ws inline (Updates text) (Updates text') h k = ap (λ x. Updates x) (h.1 ∙ sym k.1)
action_only word.UpdateSrc ws inline (Updates text) (Updates text') h k = ap (λ x. Updates x) (h.1 ∙ sym k.1)
action_only (word.Replace type) ws inline (Updates text) b h k = absurd h
action_only (word.Replace type) ws inline a (Updates text) h k = absurd k
action_only word.UpdateMac ws inline (Replaces d l text) b h k = absurd h
action_only word.UpdateMac ws inline a (Replaces d l text) h k = absurd k
action_only word.UpdateSrc ws inline (Replaces d l text) b h k = absurd h
action_only word.UpdateSrc ws inline a (Replaces d l text) h k = absurd k
action_only w ws inline a b h k = absurd h

-- A replacement or an update is determined.
pub change_only : (w : StatementWord) (own : Option Text) (ws : List Word) (inline : Lines) (a b : Change)
    → IsChangeOf w own ws inline a → IsChangeOf w own ws inline b → a ≡ b
change_only w own ws inline a b h k =
    let types : a.elem_type ≡ b.elem_type = cc (h.type_is, k.type_is) in
    ap (λ x. record a { elem_type = x }) types
    ∙ ap (λ x. record a { elem_type = b.elem_type; name = x }) (own_only IsName IsName own a.name b.name h.name k.name)
    ∙ ap (λ x. record b { action = x }) (action_only w ws inline a.action b.action h.action k.action)

-- what is said of a SYSMOD, where there is one
current_only : {A : Type 0} (current : Option Sysmod) (Is : Sysmod → A → Type 0)
    → ((s : Sysmod) (a b : A) → Is s a → Is s b → a ≡ b) → (a b : A) → IsSomeAnd current (λ s. Is s a)
    → IsSomeAnd current (λ s. Is s b) → a ≡ b
current_only None Is only a b h k = absurd h
current_only (Some s) Is only a b h k = only s a b h k

-- the kinds of statements by number, and those of words
said : Statement → ℕ
said (SaysHeader kind id) = 0
said (SaysVer v) = 1
said (SaysIf i) = 2
said (SaysHold h) = 3
said (SaysAssign a) = 4
said (SaysChange c) = 5

spoken : StatementWord → ℕ
spoken (word.Header kind) = 0
spoken word.Ver = 1
spoken word.If = 2
spoken word.Hold = 3
spoken word.Release = 6
spoken word.Assign = 4
spoken (word.Replace type) = 5
spoken word.UpdateMac = 5
spoken word.UpdateSrc = 5

changes_spoken : (w : StatementWord) (t : ElemType) → changed_type w ≡ Some t → spoken w ≡ 5
unfolding spoken
changes_spoken (word.Replace type) t e = refl
changes_spoken word.UpdateMac t e = refl
changes_spoken word.UpdateSrc t e = refl
changes_spoken w t e = absurd (cc (e))

says_spoken : (current : Option Sysmod) (w : StatementWord) (own : Option Text) (ws : List Word) (inline : Lines)
    (s : Statement) → Says current w own ws inline s → said s ≡ spoken w
unfolding said spoken
says_spoken current w own ws inline (SaysHeader j x) h = ap spoken (sym h.0)
says_spoken current w own ws inline (SaysVer v) h = ap spoken (sym h.0)
says_spoken current w own ws inline (SaysIf i) h = ap spoken (sym h.0)
says_spoken current w own ws inline (SaysHold x) h = ap spoken (sym h.0)
says_spoken current w own ws inline (SaysAssign a) h = ap spoken (sym h.0)
says_spoken current w own ws inline (SaysChange c) h = sym (changes_spoken w c.elem_type h.type_is)

header_kind : (w : StatementWord) (j k : Kind) → w ≡ word.Header j → w ≡ word.Header k → j ≡ k
header_kind w j k e f = cc (e, f)

says_same : (current : Option Sysmod) (w : StatementWord) (own : Option Text) (ws : List Word) (inline : Lines)
    (s t : Statement) → said s ≡ said t → Says current w own ws inline s → Says current w own ws inline t → s ≡ t
unfolding said
says_same current w own ws inline (SaysHeader j x) (SaysHeader k y) e h g =
    let kinds = header_kind w j k h.0 g.0 in
    let ids = own_only IsId IsId own x y h.1.0 g.1.0 in
    cc (kinds, ids)
says_same current w own ws inline (SaysVer v) (SaysVer u) e h g =
    ap (λ x. SaysVer x) (current_only current (λ s. IsVerOf s own ws) (λ s. ver_only s own ws) v u h.1 g.1)
says_same current w own ws inline (SaysIf i) (SaysIf j) e h g =
    ap (λ x. SaysIf x) (current_only current (λ s. IsIfOf s own ws) (λ s. if_only s own ws) i j h.1 g.1)
says_same current w own ws inline (SaysHold x) (SaysHold y) e h g =
    ap (λ x. SaysHold x) (current_only current (λ s. IsOwnHoldOf s own ws) (λ s. own_hold_only s own ws) x y h.1 g.1)
says_same current w own ws inline (SaysAssign a) (SaysAssign b) e h g =
    ap (λ x. SaysAssign x) (assign_only own ws a b h.1 g.1)
says_same current w own ws inline (SaysChange c) (SaysChange d) e h g =
    ap (λ x. SaysChange x) (change_only w own ws inline c d h g)
says_same current w own ws inline s t e h g = absurd (omega (arith, e))

says_only : (current : Option Sysmod) (w : StatementWord) (own : Option Text) (ws : List Word) (inline : Lines)
    (s t : Statement) → Says current w own ws inline s → Says current w own ws inline t → s ≡ t
says_only current w own ws inline s t h g =
    says_same current w own ws inline s t (says_spoken current w own ws inline s h
    ∙ sym (says_spoken current w own ws inline t g)) h g

-- What a statement says is determined.
pub value_only : (current : Option Sysmod) (p : Parts) (s t : Statement) → HasValue current p s → HasValue current p t
    → s ≡ t
value_only current p s t h k =
    let words = words_only p.rest h.0 k.0 h.1 k.1 in
    says_only current p.word p.own k.0 p.inline s t
    (subst (λ l. Says current p.word p.own l p.inline s) words h.2) k.2
