-- An element after an install is determined.
use Rattle.std.proofs.Common.{◌≡◌, ◌∙◌, inl, inr, ℕ, Option, None, Some, refl, sym, ap}
use Rattle.std.proofs.Common.{subst, true≢false}
use Rattle.std.proofs.lemmas.Option.{same_Some}
use Rattle.terms.proofs.TextOrder.{same_or_not}
use Rattle.terms.specs.declared.kinds.ElemType.{ElemType}
use Rattle.terms.specs.Types.{Text, Id, Lines, Replaces, Change, Element}
use Rattle.terms.specs.Over.{names, IsOver}
use Rattle.terms.specs.Texts.{line_at, Touches}
use Rattle.terms.specs.Install.{Installation, replaced, HasBase, IsUpdater, IsUpdated, HasElementAfter}
use Rattle.terms.proofs.Leads.{reaches_through}
use Rattle.terms.proofs.Texts.{same_text}
use Rattle.machine_laws.proofs.Stable.{Stable, by_either, part_of}
use Rattle.machine_laws.proofs.Deciders.{AreOrdered, UpdatesAt, decider}
use Rattle.machine_laws.proofs.Decided.{members_only}
use Rattle.machine_laws.proofs.StableSame.{stable_option, stable_text, stable_texts}

module _ (i : Installation) (no_loop : (x : Id) → ¬ IsOver i.choice x x) (ordered : AreOrdered i)
    (type : ElemType) (name : Text) where
  replacer_only : (r s : Option Id) (b c : Element) → HasBase i type name r b → HasBase i type name s c → r ≡ s
  replacer_only None None b c base other = refl
  replacer_only None (Some s) b c base other =
      absurd (true≢false (sym other.0.replaces ∙ base.0 s other.0.installed))
  replacer_only (Some r) None b c base other =
      absurd (true≢false (sym base.0.replaces ∙ other.0 r base.0.installed))
  replacer_only (Some r) (Some s) b c base other = elim (same_or_not r s) [
    | inl same ↦ ap (λ x. Some x) same
    | inr apart ↦ absurd (no_loop r (reaches_through (names i.choice) r s r
        (base.0.over s other.0.installed other.0.replaces (λ same. apart (sym same)))
        (other.0.over r base.0.installed base.0.replaces apart)))
  ]

  base_only : (r : Option Id) (b c : Element) → HasBase i type name r b → HasBase i type name r c → b ≡ c
  base_only None b c base other = same_Some b c (sym base.1 ∙ other.1)
  base_only (Some r) b c (is, (h, distlib, syslib, lines, at, does, made)) (
    is',
    (
      h',
      distlib',
      syslib',
      lines',
      at',
      does',
      made',
    ),
  ) =
      let change : h ≡ h' = same_Some h h' (sym at ∙ at') in
      let action : Replaces distlib syslib lines ≡ Replaces distlib' syslib' lines' =
      sym does ∙ ap (λ (h : Change). h.action) change ∙ does' in
      let first : distlib ≡ distlib' = cc action in
      let second : syslib ≡ syslib' = cc action in
      let third : lines ≡ lines' = cc action in
      made ∙ ap (λ t. replaced i r type name t syslib lines) first
      ∙ ap (λ t. replaced i r type name distlib' t lines) second
      ∙ ap (λ t. replaced i r type name distlib' syslib' t) third ∙ sym made'

  module _ (replacer : Option Id) (base e f : Element) (is_e : IsUpdated i type name replacer base e)
      (is_f : IsUpdated i type name replacer base f) where
    -- an update that decides says the record, and so does the base where none touches it
    line_only : (n : ℕ) → line_at e.text n ≡ line_at f.text n
    line_only n = by_either {A = (y : Id) × UpdatesAt i type name replacer n y} stable
        (λ some. part_of (λ d. is_e.decided n d.0 d.1 d.2 ∙ sym (is_f.decided n d.0 d.1 d.2))
        stable (decider i type name replacer ordered n some.0 some.1))
        (λ none.
        let untouched : (y : Id) (update : Lines) → IsUpdater i type name replacer y update → ¬ Touches update n =
        λ y update updater touches. none (y, (update, updater, touches)) in
        is_e.others n untouched ∙ sym (is_f.others n untouched))
      where
        stable : Stable (line_at e.text n ≡ line_at f.text n)
        stable = stable_option stable_text (line_at e.text n) (line_at f.text n)

    text_only : e.text ≡ f.text
    text_only = by_either {A = (y : Id) × (update : Lines) × IsUpdater i type name replacer y update}
        (stable_texts e.text f.text)
        (λ some. same_text e.text f.text (is_e.numbered some.0 some.1 some.2) (is_f.numbered some.0 some.1 some.2)
        line_only)
        (λ none.
        let no_updater : (y : Id) (update : Lines) → ¬ IsUpdater i type name replacer y update =
        λ y update updater. none (y, update, updater) in
        is_e.same no_updater ∙ sym (is_f.same no_updater))

    updated_only : e ≡ f
    updated_only =
        is_e.rest
        ∙ ap (λ ids. record base { umids = ids; text = e.text })
        (members_only _ e.umids f.umids is_e.rising is_f.rising is_e.umids is_f.umids)
        ∙ ap (λ text. record base { umids = f.umids; text = text }) text_only ∙ sym is_f.rest

  pub element_after_only : (e f : Element) → HasElementAfter i type name e → HasElementAfter i type name f → e ≡ f
  element_after_only e f (r, b, base, updated) (s, c, other, updated') =
      let replacer = replacer_only r s b c base other in
      let of_r = subst (λ r. HasBase i type name r c) (sym replacer) other in
      updated_only r b e f updated (subst (λ base. IsUpdated i type name r base f) (sym (base_only r b c base of_r))
      (subst (λ r. IsUpdated i type name r c f) (sym replacer) updated'))
