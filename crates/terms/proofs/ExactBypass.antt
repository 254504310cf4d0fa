-- What BYPASS says is determined, and none of its members is there twice.
use Rattle.std.proofs.Common.{◌≡◌, ◌≢◌, ◌≤◌, ◌<◌, Bool, true, false, IsTrue, List, [], length, map, get_or, Option}
use Rattle.std.proofs.Common.{Some, None, refl, sym, ◌∙◌, ap, subst, arith}
use Rattle.std.specs.Prelude.{◌&&◌, All, AllPairs, Contains, IsSomeAnd, codes, nat_le}
use Rattle.std.specs.List.{list_any, list_all}
use Rattle.std.proofs.lemmas.Bool.{and_parts, leb-true}
use Rattle.std.proofs.lemmas.List.Folds.{list_any_none}
use Rattle.std.proofs.lemmas.List.Sums.{AllPass-from_list_all}
use Rattle.std.proofs.lemmas.List.Elements.{All-weaker, Contains-get_or}
use Rattle.terms.specs.declared.kinds.HoldKind.{HoldKind}
use Rattle.terms.specs.declared.kinds.HoldKind.TheVariants.{Error, System, User}
use Rattle.terms.specs.declared.codes.CommandWord.{CommandWord}
use Rattle.terms.specs.declared.codes.CommandWord.TheVariants as word
use Rattle.terms.specs.Types.{Text, Reasons, NoReason, AnyReason, TheseReasons, Bypass}
use Rattle.terms.specs.Lookups.{is_in}
use Rattle.terms.specs.Forms.{IsClass, IsReason, is_word_byte}
use Rattle.terms.specs.Statement.{Piece}
use Rattle.terms.specs.Words.{Word, HasWords, HasMembers, IsListOf}
use Rattle.terms.specs.Operands.{operand, AreOperands, HasSorted}
use Rattle.terms.specs.CommandForms.{members_of, HasReasons, HasBypassed, IsBypassList, HasBypass}
use Rattle.terms.specs.Commands.{runs_from, runs_in}
use Rattle.terms.specs.Operands.{list_behind, is_often}
use Rattle.terms.proofs.Pairs.{pairs_map}
use Rattle.terms.proofs.Ids.{Contains_from_is_in}
use Rattle.terms.proofs.ExactWords.{members_only}
use Rattle.terms.proofs.ExactOperands.{has_sorted_only, texts_only, flag_only}
use Rattle.terms.proofs.OperandWords.{count, count_once, operands_once, once_each, seldom}
use Rattle.terms.proofs.BypassMembers.{AreWordBytes, members_count, list_of, behind_operand}

no_list : (form : Text → Type 0) (m : Word) (values : List Text) → m.list ≡ None → HasSorted form m values → ⊥
no_list form m values none h = subst (λ l. IsSomeAnd l (λ text. IsListOf form text h.0)) none h.1

reasons_only : (kind : HoldKind) (found : Option Word) (a b : Reasons) → HasReasons kind found a
    → HasReasons kind found b → a ≡ b
reasons_only kind None a b h k = h ∙ sym k
reasons_only kind (Some m) NoReason b h k = absurd h
reasons_only kind (Some m) AnyReason NoReason h k = absurd k
reasons_only kind (Some m) AnyReason AnyReason h k = refl
reasons_only kind (Some m) AnyReason (TheseReasons b) h k = absurd (no_list (IsReason kind) m b h k.0)
reasons_only kind (Some m) (TheseReasons a) NoReason h k = absurd k
reasons_only kind (Some m) (TheseReasons a) AnyReason h k = absurd (no_list (IsReason kind) m a k h.0)
reasons_only kind (Some m) (TheseReasons a) (TheseReasons b) h k =
    ap (λ l. TheseReasons l) (has_sorted_only (IsReason kind) m a b h.0 k.0)

bypassed_only : (ms : List Word) (a b : Bypass) → HasBypassed ms a → HasBypassed ms b → a ≡ b
bypassed_only ms a b h k =
    ap (λ x. record a { pre = x }) (flag_only (operand (codes "PRE") ms) a.pre b.pre h.pre k.pre)
    ∙ ap (λ x. record a { pre = b.pre; req = x }) (flag_only (operand (codes "REQ") ms) a.req b.req h.req k.req)
    ∙ ap (λ x. record a { pre = b.pre; req = b.req; ifreq = x }) (flag_only (operand (codes "IFREQ") ms) a.ifreq b.ifreq
    h.ifreq k.ifreq)
    ∙ ap (λ x. record a { pre = b.pre; req = b.req; ifreq = b.ifreq; same_id = x }) (flag_only
    (operand (codes "ID") ms) a.same_id b.same_id h.same_id k.same_id)
    ∙ ap (λ x. record b {
      applycheck = x;
      holderror = a.holderror;
      holdsystem = a.holdsystem;
      holduser = a.holduser;
      holdclass = a.holdclass;
    }) (flag_only (operand (codes "APPLYCHECK") ms) a.applycheck b.applycheck h.applycheck
    k.applycheck)
    ∙ ap (λ x. record b { holderror = x; holdsystem = a.holdsystem; holduser = a.holduser; holdclass = a.holdclass })
    (reasons_only Error (operand (codes "HOLDERROR") ms) a.holderror b.holderror h.holderror k.holderror)
    ∙ ap (λ x. record b { holdsystem = x; holduser = a.holduser; holdclass = a.holdclass }) (reasons_only System
    (operand (codes "HOLDSYSTEM") ms) a.holdsystem b.holdsystem h.holdsystem k.holdsystem)
    ∙ ap (λ x. record b { holduser = x; holdclass = a.holdclass }) (reasons_only User
    (operand (codes "HOLDUSER") ms) a.holduser b.holduser h.holduser k.holduser)
    ∙ ap (λ x. record b { holdclass = x }) (texts_only IsClass (operand (codes "HOLDCLASS") ms) a.holdclass b.holdclass
    h.holdclass.0 k.holdclass.0)

list_only : (w : CommandWord) (list : Option Text) (a b : Bypass) → IsSomeAnd list (λ text. IsBypassList w text a)
    → IsSomeAnd list (λ text. IsBypassList w text b) → a ≡ b
list_only w None a b h k = absurd h
list_only w (Some text) a b h k =
    let same = members_only text h.members k.members h.has_members k.has_members in
    bypassed_only k.members a b (subst (λ ms. HasBypassed ms a) same h.has_bypassed) k.has_bypassed

pub bypass_only : (w : CommandWord) (found : Option Word) (a b : Bypass) → HasBypass w found a → HasBypass w found b
    → a ≡ b
bypass_only w None a b h k = h ∙ sym k
bypass_only w (Some m) a b h k = list_only w m.list a b h k

-- whether a name is made of word characters, and has some
abbrev is_name : Text → Bool
is_name name = nat_le 1 (length name) && list_all is_word_byte name

each_name : (w : CommandWord) → list_all is_name (members_of w) ≡ true
each_name word.Set = refl
each_name word.Receive = refl
each_name word.Reject = refl
each_name word.Apply = refl
each_name word.Accept = refl
each_name word.Restore = refl
each_name word.List = refl
each_name word.Report = refl

name_is : (w : CommandWord) (t : Text) → Contains (members_of w) t → (0 < length t) × AreWordBytes t
name_is w t h =
    let is : is_name t ≡ true = subst (λ s. is_name s ≡ true) h.2
    (AllPass-from_list_all is_name (members_of w) (each_name w) h.0 t h.1) in
    let parts = and_parts (nat_le 1 (length t)) (list_all is_word_byte t) is in
    (omega (arith, leb-true 1 (length t) parts.0), AllPass-from_list_all is_word_byte t parts.1)

pub names_some : (w : CommandWord) → All (λ t. 0 < length t) (members_of w)
names_some w = λ i d below. (name_is w (get_or (members_of w) i d) (Contains-get_or (members_of w) i d below)).0

-- Members that the command's BYPASS may have stand in a list as often as their names among its runs.
pub runs_count : (w : CommandWord) (text : Text) (ms : List Word) (t : Text) → HasMembers text ms
    → All (λ m. IsTrue (is_in (members_of w) m.word)) ms → Contains (members_of w) t
    → count t (runs_from false [] text) ≡ count t (map (λ m. m.word) ms)
runs_count w text ms t h known there' =
    members_count t (name_is w t there').0 text ms h
    (All-weaker (λ (m : Word). IsTrue (is_in (members_of w) m.word)) (λ m. AreWordBytes m.word)
    (λ m k. (name_is w m.word (Contains_from_is_in (members_of w) m.word k)).1) ms known)

-- Known members of which no name runs twice are members each at most once.
pub are_members : (w : CommandWord) (text : Text) (ms : List Word) → HasMembers text ms
    → All (λ m. IsTrue (is_in (members_of w) m.word)) ms
    → list_any (is_often 2 (runs_from false [] text)) (members_of w) ≡ false → AreOperands (members_of w) ms
are_members w text ms h known single =
    operands_once (members_of w) ms known (λ t there'.
    subst (λ n. n ≤ 1) (runs_count w text ms t h known there')
    (once_each (members_of w) (runs_from false [] text) single t there'))

members_single : (w : CommandWord) (text : Text) (ms : List Word) → HasMembers text ms → AreOperands (members_of w) ms
    → list_any (is_often 2 (runs_from false [] text)) (members_of w) ≡ false
members_single w text ms h are =
    let apart : AllPairs (λ a b. a ≢ b) (map (λ (m : Word). m.word) ms) =
    pairs_map (λ a b. a.word ≢ b.word) (λ s t. s ≢ t) (λ (m : Word). m.word) (λ a b n. n) ms are.once in
    list_any_none (is_often 2 (runs_from false [] text)) (members_of w) (λ i d below.
    let name = get_or (members_of w) i d in
    seldom 2 (runs_from false [] text) name (omega (
      arith,
      count_once name (map (λ (m : Word). m.word) ms) apart,
      runs_count w text ms name h are.known (Contains-get_or (members_of w) i d below),
    )))

pub none_single : (names : List Text) → list_any (is_often 2 []) names ≡ false
none_single names = list_any_none (is_often 2 []) names (λ i d below. refl)

list_single : (w : CommandWord) (list : Option Text) (b : Bypass) → IsSomeAnd list (λ text. IsBypassList w text b)
    → list_any (is_often 2 (runs_in list)) (members_of w) ≡ false
list_single w None b h = absurd h
list_single w (Some text) b h = members_single w text h.members h.has_members h.are_members

operand_single : (w : CommandWord) (found : Option Word) (b : Bypass) → HasBypass w found b
    → list_any (is_often 2 (runs_in (list_of found))) (members_of w) ≡ false
operand_single w None b h = none_single (members_of w)
operand_single w (Some m) b h = list_single w m.list b h

-- A BYPASS among the words has no member twice.
pub bypass_once : (w : CommandWord) (rest : List Piece) (ws : List Word) (b : Bypass) → HasWords rest ws
    → HasBypass w (operand (codes "BYPASS") ws) b
    → list_any (is_often 2 (runs_in (list_behind (codes "BYPASS") rest))) (members_of w) ≡ false
bypass_once w rest ws b h has =
    ap (λ l. list_any (is_often 2 (runs_in l)) (members_of w)) (ap (list_behind (codes "BYPASS")) h
    ∙ behind_operand (codes "BYPASS") ws) ∙ operand_single w (operand (codes "BYPASS") ws) b has
