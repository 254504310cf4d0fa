use Rattle.std.proofs.Common.{◌≡◌, ◌∙◌, sym, ap, subst, refl, Some, true, false}
use Rattle.std.specs.Prelude.{List, not, codes}
use Rattle.std.specs.List.{list_all}
use Rattle.std.proofs.lemmas.Bool.{true≢false}
use Rattle.terms.specs.Types.{Id, Ver, Sysmod}
use Rattle.terms.specs.Forms.{IsId}
use Rattle.terms.specs.Lookups.{is_in}
use Rattle.terms.specs.Operands.{operand}
use Rattle.terms.specs.Statements.{IsVerOf, SuitsKind, lists_of}
use Rattle.rec80.specs.Views.{words_of}
use Rattle.rec80.proofs.Owning.{optional_text}
use Rattle.std.proofs.lemmas.Result.{err_from_is_err_and}
use Rattle.mcs.specs.KnownWords.{own_list}
use Rattle.mcs.specs.VerOperands.{HasLists}
use Rattle.mcs.proofs.NotNaming.{free_all, all_free}
use Rattle.rec80.proofs.Failing.{excludes_more}
use Rattle.mcs.proofs.Versions.{HasVer, ver_is, lists_in, fmid_is, lists_are}
use Rattle.mcs.proofs.ver.read_ver.Goals as goal
use Rattle.mcs.proofs.ver.read_ver.Goals.{After-ver_of_lists-ver}

made : (c : After-ver_of_lists-ver)
    → HasVer (own_list c.args.known.now) (words_of c.args.words.now) c.ver_of_lists-ver.result
made c = rw c.ver_of_lists-ver.ensures record {
  has_srel = c.in-Some.ensures.one;
  has_fmid = optional_text IsId (operand (codes "FMID") (words_of c.args.words.now)) c.in_ok-fmid.fmid c.in_ok-fmid.ensures.ok;
  has_lists = c.in_ok-lists.ensures.ok;
  no_ifs = refl;
}

pub returns-in_err-lists-clause-bad : goal.returns-in_err-lists-clause-bad
returns-in_err-lists-clause-bad c =
    let p = err_from_is_err_and c.from_residual-in_err-lists.result c.from_residual-in_err-lists.ensures.1 in
    let own = own_list c.args.known.now in
    let ws = words_of c.args.words.now in
    let All : Type 0 = (pre req sup npre del : List Id) × HasLists ws pre req sup npre del in
    let One : Type 0 = (v : Ver) × IsVerOf c.args.sysmod.now own ws v in
    let pick : One → All = λ x. (
      x.0.pre,
      x.0.req,
      x.0.sup,
      x.0.npre,
      x.0.del,
      lists_in c.args.sysmod.now own ws x.0 x.1,
    ) in
    rw (p.1, p.2) (excludes_more c.in_err-lists.field-0.0 All One pick c.in_err-lists.ensures.bad)

same_id : (c : After-ver_of_lists-ver) → c.sysmod.inside.id ≡ c.args.sysmod.now.id
same_id c = ap (λ (s : Sysmod). s.id) c.sysmod.view_is

pub returns-then-has_fmid-clause-bad : goal.returns-then-has_fmid-clause-bad
returns-then-has_fmid-clause-bad c = λ x.
    let c' = (goal.at.returns-then-has_fmid-clause-bad c).After-ver_of_lists-ver in
    let is = fmid_is c.args.sysmod.now (own_list c.args.known.now) (words_of c.args.words.now) x.0
    c.ver_of_lists-ver.result
    x.1 (made c') in
    x.1.other_fmid (sym is ∙ c.has_fmid.ensures.0 c.if-has_fmid.true ∙ ap (λ (i : Id). Some i) (same_id c'))

pub returns-then-not-no_list_names-clause-bad : goal.returns-then-not-no_list_names-clause-bad
returns-then-not-no_list_names-clause-bad c = λ x.
    let c' = (goal.at.returns-then-not-no_list_names-clause-bad c).After-ver_of_lists-ver in
    let are = lists_are c.args.sysmod.now (own_list c.args.known.now) (words_of c.args.words.now) x.0
    c.ver_of_lists-ver.result x.1 (made c') in
    let free = all_free c.args.sysmod.now.id (lists_of x.0) x.1.others in
    let same : list_all (λ ids. not (is_in ids c.args.sysmod.now.id)) (lists_of c.ver_of_lists-ver.result) ≡ true =
    ap (λ l. list_all (λ ids. not (is_in ids c.args.sysmod.now.id)) l) are ∙ free in
    true≢false (sym same ∙ subst (λ i. list_all (λ ids. not (is_in ids i)) (lists_of c.ver_of_lists-ver.result) ≡ false)
    (same_id c') (sym c.no_list_names.ensures ∙ c.if-not-no_list_names.true))

pub returns-clause-ok : goal.returns-clause-ok
returns-clause-ok c =
    let c' = (goal.at.returns-clause-ok c).After-ver_of_lists-ver in
    let ws = words_of c.args.words.now in
    let same_kind : c.sysmod.inside.kind ≡ c.args.sysmod.now.kind = ap (λ (s : Sysmod). s.kind) c.sysmod.view_is in
    let suits = subst (λ k. SuitsKind k ws) same_kind (c.suits_kind.ensures.0 c.if-not-suits_kind.false) in
    let free = subst (λ i. list_all (λ ids. not (is_in ids i)) (lists_of c.ver_of_lists-ver.result) ≡ true) (same_id c')
    (sym c.no_list_names.ensures ∙ c.if-not-no_list_names.false) in
    ver_is c.args.sysmod.now (own_list c.args.known.now) ws c.ver_of_lists-ver.result (made c') c.requires suits
    (λ e. true≢false (sym (c.has_fmid.ensures.1 (e ∙ ap (λ (i : Id). Some i) (sym (same_id c'))))
    ∙ c.if-has_fmid.false))
    (free_all c.args.sysmod.now.id (lists_of c.ver_of_lists-ver.result) free)
