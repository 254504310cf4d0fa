-- A command is determined by its pieces, and no pieces are both a command and at fault.
use Rattle.std.proofs.Common.{◌≡◌, ◌≢◌, ◌≤◌, Bool, true, false, List, [], ◌∷◌, map, get_or, Option, Some, None, refl}
use Rattle.std.proofs.Common.{sym, ◌∙◌, ap, ap₂, subst, arith, cond}
use Rattle.std.specs.Prelude.{◌||◌, AllPairs, IsSomeAnd, codes, not, if◌then◌else◌}
use Rattle.std.specs.List.{list_any}
use Rattle.std.specs.Str.{bytes_eq}
use Rattle.std.proofs.lemmas.Bool.{true≢false}
use Rattle.std.proofs.lemmas.List.Folds.{list_any_none}
use Rattle.std.proofs.lemmas.Cmp.{nat_list_eq_equiv}
use Rattle.terms.specs.declared.codes.CommandWord.{CommandWord}
use Rattle.terms.specs.declared.codes.CommandWord.TheVariants as word
use Rattle.terms.specs.declared.codes.CommandCode.{CommandCode}
use Rattle.terms.specs.declared.codes.CommandCode.TheVariants.{UnknownCommand, BadCommandOperand, OperandTwice}
use Rattle.terms.specs.declared.codes.CommandCode.TheVariants.{NoSingleList}
use Rattle.terms.specs.declared.codes.CommandCode.TheVariants.{BadCommandForm}
use Rattle.terms.specs.Types.{Text, Selection, Install, RestoreList, RestoreSelect, RestoreGroup, ReceiveOperands, Command}
use Rattle.terms.specs.Types.{Set, Receive, Reject, Apply, Accept, Restore, ListZone, Report}
use Rattle.terms.specs.Forms.{IsId, IsSource, IsZoneName}
use Rattle.terms.specs.Statement.{Piece}
use Rattle.terms.specs.Words.{Word, HasWords}
use Rattle.terms.specs.Operands.{operand, HasSorted}
use Rattle.terms.specs.CommandForms.{operands_of, members_of, command_word, HasSome, HasReceive, HasSelection}
use Rattle.terms.specs.CommandForms.{HasInstall}
use Rattle.terms.specs.CommandForms.{HasRestoreList, HasOperands, IsCommand}
use Rattle.terms.specs.Commands.{runs_in, has_double, is_unchosen, BeginsWith}
use Rattle.terms.specs.Operands.{words_in, list_behind, is_often}
use Rattle.terms.specs.Commands.{IsCommandFault}
use Rattle.terms.proofs.Pairs.{pairs_map}
use Rattle.terms.proofs.ExactWords.{words_only}
use Rattle.terms.proofs.ExactOperands.{required_only, optional_only, texts_only, some_only, flag_only}
use Rattle.terms.proofs.OperandWords.{count, count_once, count_same, count_other, words_of, often, seldom}
use Rattle.terms.proofs.ExactBypass.{bypass_only, bypass_once}
use Rattle.terms.proofs.CommandLines.{begins_only, of_command}

abbrev what : Bool → Bool → Option Text → ReceiveOperands
what s h source = record { sysmods = s; holddata = h; source = source }

receive_only : (ws : List Word) (a b : ReceiveOperands) → HasReceive ws a → HasReceive ws b → a ≡ b
receive_only ws a b h k =
    let sysmods = flag_only (operand (codes "SYSMODS") ws) h.sysmods k.sysmods h.has_sysmods k.has_sysmods in
    let holddata = flag_only (operand (codes "HOLDDATA") ws) h.holddata k.holddata h.has_holddata k.has_holddata in
    let source = optional_only IsSource (operand (codes "SOURCEID") ws) a.source b.source h.source k.source in
    ap (λ x. what x a.holddata a.source) (h.reads_sysmods ∙ ap₂ (λ s d. s || not d) sysmods holddata
    ∙ sym k.reads_sysmods)
    ∙ ap (λ x. what b.sysmods x a.source) (h.reads_holds ∙ ap₂ (λ s d. d || not s) sysmods holddata ∙ sym k.reads_holds)
    ∙ ap (λ x. what b.sysmods b.holddata x) source

abbrev make : Bool → Bool → Bool → Bool → List Text → List Text → List Text → List Text → List Text → Bool → Selection
make x0 x1 x2 x3 x4 x5 x6 x7 x8 x9 = record {
  functions = x0;
  ptfs = x1;
  apars = x2;
  usermods = x3;
  select = x4;
  exclude = x5;
  sourceid = x6;
  forfmid = x7;
  group = x8;
  groupextend = x9;
}

selection_only : (ws : List Word) (s t : Selection) → HasSelection ws s → HasSelection ws t → s ≡ t
selection_only ws s t h k =
    let e0 : s.functions ≡ t.functions =
    flag_only (operand (codes "FUNCTIONS") ws) s.functions t.functions h.functions k.functions in
    let e1 : s.ptfs ≡ t.ptfs = flag_only (operand (codes "PTFS") ws) s.ptfs t.ptfs h.ptfs k.ptfs in
    let e2 : s.apars ≡ t.apars = flag_only (operand (codes "APARS") ws) s.apars t.apars h.apars k.apars in
    let e3 : s.usermods ≡ t.usermods =
    flag_only (operand (codes "USERMODS") ws) s.usermods t.usermods h.usermods k.usermods in
    let e4 : s.select ≡ t.select =
    texts_only IsId (operand (codes "SELECT") ws) s.select t.select h.select.0 k.select.0 in
    let e5 : s.exclude ≡ t.exclude =
    texts_only IsId (operand (codes "EXCLUDE") ws) s.exclude t.exclude h.exclude.0 k.exclude.0 in
    let e6 : s.sourceid ≡ t.sourceid =
    texts_only IsSource (operand (codes "SOURCEID") ws) s.sourceid t.sourceid h.sourceid.0 k.sourceid.0 in
    let e7 : s.forfmid ≡ t.forfmid =
    texts_only IsId (operand (codes "FORFMID") ws) s.forfmid t.forfmid h.forfmid.0 k.forfmid.0 in
    let e8 : s.group ≡ t.group = texts_only IsId (operand (codes "GROUP") ws) s.group t.group h.group.0 k.group.0 in
    let e9 : s.groupextend ≡ t.groupextend =
    flag_only (operand (codes "GROUPEXTEND") ws) s.groupextend t.groupextend h.groupextend k.groupextend in
    ap (λ x. make x s.ptfs s.apars s.usermods s.select s.exclude s.sourceid s.forfmid s.group s.groupextend) e0
    ∙ ap (λ x. make t.functions x s.apars s.usermods s.select s.exclude s.sourceid s.forfmid s.group s.groupextend) e1
    ∙ ap (λ x. make t.functions t.ptfs x s.usermods s.select s.exclude s.sourceid s.forfmid s.group s.groupextend) e2
    ∙ ap (λ x. make t.functions t.ptfs t.apars x s.select s.exclude s.sourceid s.forfmid s.group s.groupextend) e3
    ∙ ap (λ x. make t.functions t.ptfs t.apars t.usermods x s.exclude s.sourceid s.forfmid s.group s.groupextend) e4
    ∙ ap (λ x. make t.functions t.ptfs t.apars t.usermods t.select x s.sourceid s.forfmid s.group s.groupextend) e5
    ∙ ap (λ x. make t.functions t.ptfs t.apars t.usermods t.select t.exclude x s.forfmid s.group s.groupextend) e6
    ∙ ap (λ x. make t.functions t.ptfs t.apars t.usermods t.select t.exclude t.sourceid x s.group s.groupextend) e7
    ∙ ap (λ x. make t.functions t.ptfs t.apars t.usermods t.select t.exclude t.sourceid t.forfmid x s.groupextend) e8
    ∙ ap (λ x. make t.functions t.ptfs t.apars t.usermods t.select t.exclude t.sourceid t.forfmid t.group x) e9

install_only : (w : CommandWord) (ws : List Word) (i j : Install) → HasInstall w ws i → HasInstall w ws j → i ≡ j
install_only w ws i j h k =
    ap (λ x. record i { selection = x }) (selection_only ws i.selection j.selection h.selection k.selection)
    ∙ ap (λ x. record i { selection = j.selection; bypass = x })
    (bypass_only w (operand (codes "BYPASS") ws) i.bypass j.bypass h.bypass k.bypass)
    ∙ ap (λ x. record j { check = x }) (flag_only (operand (codes "CHECK") ws) i.check j.check h.check k.check)

none_some : (found : Option Word) (ids : List Text) → found ≡ None → HasSome IsId found ids → ⊥
none_some None ids none h = h.0
none_some (Some w) ids none h = cc (none)

list_only : (ws : List Word) (a b : RestoreList) → HasRestoreList ws a → HasRestoreList ws b → a ≡ b
list_only ws (RestoreSelect x) (RestoreSelect y) h k =
    ap (λ l. RestoreSelect l) (some_only IsId (operand (codes "SELECT") ws) x y h.1.0 k.1.0)
list_only ws (RestoreSelect x) (RestoreGroup y) h k = absurd (none_some (operand (codes "GROUP") ws) y h.0 k.1)
list_only ws (RestoreGroup x) (RestoreSelect y) h k = absurd (none_some (operand (codes "GROUP") ws) x k.0 h.1)
list_only ws (RestoreGroup x) (RestoreGroup y) h k =
    ap (λ l. RestoreGroup l) (some_only IsId (operand (codes "GROUP") ws) x y h.1.0 k.1.0)

values_only : (ws : List Word) (c d : Command) → command_word c ≡ command_word d → HasOperands ws c → HasOperands ws d
    → c ≡ d
values_only ws (Set x) (Set y) e h k = ap (λ v. Set v) (required_only IsZoneName (operand (codes "BDY") ws) x y h k)
values_only ws (Receive x) (Receive y) e h k = ap (λ v. Receive v) (receive_only ws x y h k)
values_only ws (Reject x) (Reject y) e h k =
    ap (λ v. Reject v) (some_only IsId (operand (codes "SELECT") ws) x y h.0 k.0)
values_only ws (Apply x) (Apply y) e h k = ap (λ v. Apply v) (install_only word.Apply ws x y h k)
values_only ws (Accept x) (Accept y) e h k = ap (λ v. Accept v) (install_only word.Accept ws x y h k)
values_only ws (Restore x a) (Restore y b) e h k =
    ap (λ v. Restore v a) (list_only ws x y h.0 k.0)
    ∙ ap (λ v. Restore y v) (flag_only (operand (codes "CHECK") ws) a b h.1 k.1)
values_only ws (ListZone x) (ListZone y) e h k = ap (λ v. ListZone v) (flag_only (operand (codes "TEXT") ws) x y h k)
values_only ws Report Report e h k = refl
values_only ws c d e h k = absurd (cc (e))

-- Pieces are one command at most.
pub value_only : (pieces : List Piece) (c d : Command) → IsCommand pieces c → IsCommand pieces d → c ≡ d
value_only pieces c d k l =
    let o = of_command pieces (command_word c) k.rest d k.begins l in
    let same = words_only k.rest k.words o.1.0 k.has_words o.1.1 in
    values_only o.1.0 c d (sym o.0) (subst (λ ws. HasOperands ws c) same k.has_operands) o.1.3

abbrev texts_of : List Word → List Text
texts_of ws = map (λ (w : Word). w.word) ws

-- whether an operand is there, by how often its name is
absent : (name : Text) (ws : List Word) → operand name ws ≡ None → count name (texts_of ws) ≡ 0
absent name [] none = refl
absent name (w ∷ ws) none = at (absent name ws) (bytes_eq w.word name) refl
  where
    at : (operand name ws ≡ None → count name (texts_of ws) ≡ 0) → (b : Bool) → bytes_eq w.word name ≡ b
        → count name (texts_of (w ∷ ws)) ≡ 0
    at more true same =
        let there' : operand name (w ∷ ws) ≡ Some w = ap (λ b. cond b (Some w) (operand name ws)) same in
        let no' : Some w ≡ None = sym there' ∙ none in
        absurd (cc (no'))
    at more false other =
        let later : operand name (w ∷ ws) ≡ operand name ws = ap (λ b. cond b (Some w) (operand name ws)) other in
        count_other name w.word (texts_of ws) (nat_list_eq_equiv.symm name w.word ∙ other) ∙ more (sym later ∙ none)

present : (name : Text) (ws : List Word) (P : Word → Type 0) → IsSomeAnd (operand name ws) P
    → 1 ≤ count name (texts_of ws)
present name [] P some = absurd some
present name (w ∷ ws) P some = at (present name ws P) (bytes_eq w.word name) refl
  where
    at : (IsSomeAnd (operand name ws) P → 1 ≤ count name (texts_of ws)) → (b : Bool) → bytes_eq w.word name ≡ b
        → 1 ≤ count name (texts_of (w ∷ ws))
    at more true same = omega (arith, count_same name w.word (texts_of ws) (nat_list_eq_equiv.symm name w.word ∙ same))
    at more false other =
        let later : operand name (w ∷ ws) ≡ operand name ws = ap (λ b. cond b (Some w) (operand name ws)) other in
        omega (
          arith,
          count_other name w.word (texts_of ws) (nat_list_eq_equiv.symm name w.word ∙ other),
          more (subst (λ o. IsSomeAnd o P) later some),
        )

-- no member of BYPASS is there twice
members_once : (c : Command) (rest : List Piece) (ws : List Word) → HasWords rest ws → HasOperands ws c
    → list_any (is_often 2 (runs_in (list_behind (codes "BYPASS") rest))) (members_of (command_word c)) ≡ false
members_once (Set x) rest ws h v = refl
members_once (Receive x) rest ws h v = refl
members_once (Reject x) rest ws h v = refl
members_once (Apply i) rest ws h v = bypass_once word.Apply rest ws i.bypass h v.bypass
members_once (Accept i) rest ws h v = bypass_once word.Accept rest ws i.bypass h v.bypass
members_once (Restore list check) rest ws h v = refl
members_once (ListZone x) rest ws h v = refl
members_once Report rest ws h v = refl

-- A command has no operand twice, and RESTORE has one of SELECT and GROUP.
single : (pieces : List Piece) (c : Command) (k : IsCommand pieces c) → has_double (command_word c) k.rest ≡ false
single pieces c k =
    let is : words_in k.rest ≡ texts_of k.words = ap words_in k.has_words ∙ words_of k.words in
    let apart : AllPairs (λ a b. a ≢ b) (texts_of k.words) =
    pairs_map (λ a b. a.word ≢ b.word) (λ s t. s ≢ t) (λ (w : Word). w.word) (λ a b n. n) k.words
    k.are_operands.once in
    let operands : list_any (is_often 2 (words_in k.rest)) (operands_of (command_word c)) ≡ false =
    list_any_none (is_often 2 (words_in k.rest)) (operands_of (command_word c)) (λ i d below.
    let name = get_or (operands_of (command_word c)) i d in
    seldom 2 (words_in k.rest) name (omega (arith, count_once name (texts_of k.words) apart, ap (count name) is))) in
    ap₂ (λ a b. a || b) operands (members_once c k.rest k.words k.has_words k.has_operands)

chosen_list : (rest : List Piece) (ws : List Word) (list : RestoreList) → HasWords rest ws → HasRestoreList ws list
    → is_unchosen word.Restore rest ≡ false
chosen_list rest ws (RestoreSelect ids) h r =
    let texts = words_in rest in
    let is : texts ≡ texts_of ws = ap words_in h ∙ words_of ws in
    let select : is_often 1 texts (codes "SELECT") ≡ true = often 1 texts (codes "SELECT") (omega (
      arith,
      present (codes "SELECT") ws (λ w. HasSorted IsId w ids) r.1.0,
      ap (count (codes "SELECT")) is,
    )) in
    let none : is_often 1 texts (codes "GROUP") ≡ false = seldom 1 texts (codes "GROUP")
    (omega (arith, absent (codes "GROUP") ws r.0, ap (count (codes "GROUP")) is)) in
    ap (λ b. if b then is_often 1 texts (codes "GROUP") else not (is_often 1 texts (codes "GROUP"))) select ∙ none
chosen_list rest ws (RestoreGroup ids) h r =
    let texts = words_in rest in
    let is : texts ≡ texts_of ws = ap words_in h ∙ words_of ws in
    let group : is_often 1 texts (codes "GROUP") ≡ true = often 1 texts (codes "GROUP") (omega (
      arith,
      present (codes "GROUP") ws (λ w. HasSorted IsId w ids) r.1.0,
      ap (count (codes "GROUP")) is,
    )) in
    let none : is_often 1 texts (codes "SELECT") ≡ false = seldom 1 texts (codes "SELECT")
    (omega (arith, absent (codes "SELECT") ws r.0, ap (count (codes "SELECT")) is)) in
    ap (λ b. if b then is_often 1 texts (codes "GROUP") else not (is_often 1 texts (codes "GROUP"))) none
    ∙ ap not group

chosen : (rest : List Piece) (ws : List Word) (c : Command) → HasWords rest ws → HasOperands ws c
    → is_unchosen (command_word c) rest ≡ false
chosen rest ws (Set x) h v = refl
chosen rest ws (Receive x) h v = refl
chosen rest ws (Reject x) h v = refl
chosen rest ws (Apply x) h v = refl
chosen rest ws (Accept x) h v = refl
chosen rest ws (Restore list check) h v = chosen_list rest ws list h v.0
chosen rest ws (ListZone x) h v = refl
chosen rest ws Report h v = refl

-- No pieces are both a command and at fault.
pub fault_no_value : (pieces : List Piece) (c : Command) (code : CommandCode) → IsCommand pieces c
    → IsCommandFault pieces code → ⊥
fault_no_value pieces c UnknownCommand k f = f (command_word c) k.rest k.begins
fault_no_value pieces c BadCommandOperand k f = f.5 c k
fault_no_value pieces c OperandTwice k f =
    let s = begins_only pieces f.0 (command_word c) f.1 k.rest f.2 k.begins in
    true≢false (sym f.3 ∙ ap (λ w. has_double w f.1) s.0 ∙ ap (has_double (command_word c)) s.1 ∙ single pieces c k)
fault_no_value pieces c NoSingleList k f =
    let s = begins_only pieces f.0 (command_word c) f.1 k.rest f.2 k.begins in
    true≢false (sym f.4 ∙ ap (λ w. is_unchosen w f.1) s.0 ∙ ap (is_unchosen (command_word c)) s.1
    ∙ chosen k.rest k.words c k.has_words k.has_operands)
fault_no_value pieces c BadCommandForm k f = f

double_same : (pieces : List Piece) (v w : CommandWord) (rest rest' : List Piece) → BeginsWith pieces v rest
    → BeginsWith pieces w rest' → has_double v rest ≡ true → has_double w rest' ≡ false → ⊥
double_same pieces v w rest rest' b b' yes' no' =
    let s = begins_only pieces v w rest rest' b b' in
    true≢false (sym yes' ∙ ap (λ w. has_double w rest) s.0 ∙ ap (has_double w) s.1 ∙ no')

unchosen_same : (pieces : List Piece) (v w : CommandWord) (rest rest' : List Piece) → BeginsWith pieces v rest
    → BeginsWith pieces w rest' → is_unchosen v rest ≡ true → is_unchosen w rest' ≡ false → ⊥
unchosen_same pieces v w rest rest' b b' yes' no' =
    let s = begins_only pieces v w rest rest' b b' in
    true≢false (sym yes' ∙ ap (λ w. is_unchosen w rest) s.0 ∙ ap (is_unchosen w) s.1 ∙ no')

-- The first fault of a command is determined.
pub fault_only : (pieces : List Piece) (a b : CommandCode) → IsCommandFault pieces a → IsCommandFault pieces b → a ≡ b
fault_only pieces UnknownCommand UnknownCommand f g = refl
fault_only pieces UnknownCommand BadCommandOperand f g = absurd (f g.0 g.1 g.2)
fault_only pieces UnknownCommand OperandTwice f g = absurd (f g.0 g.1 g.2)
fault_only pieces UnknownCommand NoSingleList f g = absurd (f g.0 g.1 g.2)
fault_only pieces BadCommandOperand UnknownCommand f g = absurd (g f.0 f.1 f.2)
fault_only pieces OperandTwice UnknownCommand f g = absurd (g f.0 f.1 f.2)
fault_only pieces NoSingleList UnknownCommand f g = absurd (g f.0 f.1 f.2)
fault_only pieces BadCommandOperand BadCommandOperand f g = refl
fault_only pieces OperandTwice OperandTwice f g = refl
fault_only pieces NoSingleList NoSingleList f g = refl
fault_only pieces BadCommandOperand OperandTwice f g = absurd (double_same pieces g.0 f.0 g.1 f.1 g.2 f.2 g.3 f.3)
fault_only pieces OperandTwice BadCommandOperand f g = absurd (double_same pieces f.0 g.0 f.1 g.1 f.2 g.2 f.3 g.3)
fault_only pieces NoSingleList OperandTwice f g = absurd (double_same pieces g.0 f.0 g.1 f.1 g.2 f.2 g.3 f.3)
fault_only pieces OperandTwice NoSingleList f g = absurd (double_same pieces f.0 g.0 f.1 g.1 f.2 g.2 f.3 g.3)
fault_only pieces BadCommandOperand NoSingleList f g = absurd (unchosen_same pieces g.0 f.0 g.1 f.1 g.2 f.2 g.4 f.4)
fault_only pieces NoSingleList BadCommandOperand f g = absurd (unchosen_same pieces f.0 g.0 f.1 g.1 f.2 g.2 f.4 g.4)
fault_only pieces BadCommandForm b f g = absurd f
fault_only pieces UnknownCommand BadCommandForm f g = absurd g
fault_only pieces BadCommandOperand BadCommandForm f g = absurd g
fault_only pieces OperandTwice BadCommandForm f g = absurd g
fault_only pieces NoSingleList BadCommandForm f g = absurd g
