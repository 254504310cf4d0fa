-- The rules of a closed zone, and the search for the first that is broken.
use Rattle.std.proofs.Common.{◌≡◌, ◌≢◌, ◌∙◌, Bool, true, false, List, [], ◌∷◌, All, Option, Some, None, find, filter}
use Rattle.std.proofs.Common.{refl, sym, ap, subst, IsTrue}
use Rattle.std.specs.Prelude.{◌↔◌, IsFalse, IfSome, Contains, is_some, not, option_map, if◌then◌else◌}
use Rattle.std.specs.Str.{bytes_eq}
use Rattle.std.proofs.lemmas.Bool.{not-true}
use Rattle.std.proofs.lemmas.List.Elements.{All-nil, All-cons, All-head, All-tail, All-weaker, All-contains}
use Rattle.terms.specs.Types.{Id, Entry, Element, Global, Zone}
use Rattle.terms.specs.Lookups.{applied_ids, at_most_one, delby_of, is_applied, is_function, is_supplied}
use Rattle.terms.specs.Choice.{Choice, fmid_of, npre_of}
use Rattle.terms.specs.Closed.{IsSupported, IsAtPeace, IsOwned, IsClosedZone}
use Rattle.terms.specs.Over.{chain, owner}
use Rattle.terms.specs.Changes.{has_replacement, has_update}
use Rattle.terms.specs.Needs.{binding_ids}
use Rattle.terms.specs.Texts.{HasForm}
use Rattle.terms.proofs.Each.{All_from_each}
use Rattle.terms.proofs.ListMembers.{in_map, map_in, in_filter, filter_in}
use Rattle.terms.proofs.TextOrder.{same_from, same_itself}
use Rattle.smpe_verify.specs.declared.breach.EntryFault.TheVariants.{VerNotReceived, FmidNotApplied}
use Rattle.smpe_verify.specs.declared.breach.EntryFault.TheVariants.{RequisiteNotSupplied, NpreApplied}
use Rattle.smpe_verify.specs.declared.breach.EntryFault.TheVariants.{DeletedInChain, SupbyNotApplied}
use Rattle.smpe_verify.specs.declared.breach.Level.{Level}
use Rattle.smpe_verify.specs.declared.breach.Level.TheVariants.{Fmid, Rmid, Umid}
use Rattle.smpe_verify.specs.declared.breach.ElementFault.TheVariants.{LevelNotApplied, NotReplacedBy}
use Rattle.smpe_verify.specs.declared.breach.ElementFault.TheVariants.{NotUpdatedBy, OtherOwner}
use Rattle.smpe_verify.specs.declared.breach.Breach.{Breach}
use Rattle.smpe_verify.specs.declared.breach.Breach.TheVariants.{OfEntry, OfElement}
use Rattle.smpe_verify.specs.FirstBreach.{not_applied, not_supplied, applied_in, deleted_in, support_fault}
use Rattle.smpe_verify.specs.FirstBreach.{npre_or_chain_fault, applied_fault, entry_fault, other_owner_fault}
use Rattle.smpe_verify.specs.FirstBreach.{level_fault}
use Rattle.smpe_verify.specs.FirstBreach.{change_fault, owner_fault, element_fault, entry_breach, element_breach}
use Rattle.smpe_verify.specs.FirstBreach.{first_breach, first_of, none_or}
use Rattle.smpe_verify.specs.Breaks.{EntryBreaks, ElementBreaks, Breaks, ids_at}
use Rattle.smpe_verify.proofs.Judging.{Judges, restated, nothing, mapped, either, when, tested, searched, searched_not}
use Rattle.smpe_verify.proofs.Judging.{listed, all_of_one, one_of_all, in_one}

module _ (g : Global) (c : Choice) (zone : Zone) where
  -- ---- an applied SYSMOD

  module _ (x : Id) (applied : Contains (applied_ids zone) x) where
    ver_judged : Judges (none_or VerNotReceived (is_some (c x))) (IsTrue (is_some (c x))) (EntryBreaks g c zone x)
    ver_judged = tested VerNotReceived (is_some (c x)) (λ none. (applied, none))

    fmid_judged : Judges (option_map FmidNotApplied (not_applied zone (at_most_one (fmid_of c x))))
        (All (λ f. IsTrue (is_applied zone f)) (at_most_one (fmid_of c x))) (EntryBreaks g c zone x)
    fmid_judged = mapped (not_applied zone (at_most_one (fmid_of c x))) FmidNotApplied
        (λ f it. (applied, in_one (fmid_of c x) f it.1, not-true (is_applied zone f) it.0))
        (searched_not (is_applied zone) (at_most_one (fmid_of c x)))

    abbrev requisites : List Id
    requisites = binding_ids c zone (is_applied zone) x

    requisites_judged : Judges (option_map RequisiteNotSupplied (not_supplied zone requisites))
        (All (λ z. IsTrue (is_supplied zone z)) requisites) (EntryBreaks g c zone x)
    requisites_judged = mapped (not_supplied zone requisites) RequisiteNotSupplied
        (λ z it. (applied, it.1, not-true (is_supplied zone z) it.0)) (searched_not (is_supplied zone) requisites)

    supported : Judges (support_fault c zone x) (IsSupported c zone x) (EntryBreaks g c zone x)
    supported =
        let all = either _ _ ver_judged (either _ _ fmid_judged (either _ _ requisites_judged nothing)) in
        restated all (λ have. record {
          received = have.0;
          fmid = all_of_one (λ f. IsTrue (is_applied zone f)) (fmid_of c x) have.1.0;
          requisites = have.1.1.0;
        })
        (λ is. (is.received, (one_of_all (λ f. IsTrue (is_applied zone f)) (fmid_of c x) is.fmid, (is.requisites, tt))))

    npre_for : (b : Bool) → is_function g x ≡ b
        → Judges (option_map NpreApplied (if b then applied_in zone (npre_of c x) else None))
        (IsTrue b → All (λ y. IsFalse (is_applied zone y)) (npre_of c x)) (EntryBreaks g c zone x)
    npre_for true is = restated (mapped (applied_in zone (npre_of c x)) NpreApplied
        (λ y it. (applied, is, it.1, it.0)) (searched (is_applied zone) (npre_of c x)))
        (λ all true_is. all) (λ rule. rule refl)
    npre_for false is = record { none = λ e t. absurd (cc t); holds = λ rule. refl; some = λ y e. absurd (cc e) }

    chain_judged : Judges (option_map DeletedInChain (deleted_in zone (chain g c x)))
        (All (λ y. IsFalse (is_some (delby_of zone y))) (chain g c x)) (EntryBreaks g c zone x)
    chain_judged = mapped (deleted_in zone (chain g c x)) DeletedInChain (λ y it. (applied, it.1, it.0))
        (searched (λ y. is_some (delby_of zone y)) (chain g c x))

    at_peace : Judges (npre_or_chain_fault g c zone x) (IsAtPeace g c zone x) (EntryBreaks g c zone x)
    at_peace =
        let all = either _ _ (npre_for (is_function g x) refl) (either _ _ chain_judged nothing) in
        restated all (λ have. record { npre = have.0; chain = have.1.0 }) (λ is. (is.npre, (is.chain, tt)))

    own : Judges (applied_fault g c zone x) (IsSupported c zone x × IsAtPeace g c zone x) (EntryBreaks g c zone x)
    own = either (support_fault c zone x) (npre_or_chain_fault g c zone x) supported at_peace

  -- ---- an entry

  abbrev EntryRule : Entry → Type 0
  EntryRule e = (IsTrue (is_some e.applied) → IsSupported c zone e.id × IsAtPeace g c zone e.id)
      × All (λ y. IsTrue (is_applied zone y)) e.supby

  supby_judged : (e : Entry) → Contains zone.entries e
      → Judges (option_map SupbyNotApplied (not_applied zone e.supby)) (All (λ y. IsTrue (is_applied zone y)) e.supby)
      (EntryBreaks g c zone e.id)
  supby_judged e has = mapped (not_applied zone e.supby) SupbyNotApplied
      (λ y it. (e, has, refl, it.1, not-true (is_applied zone y) it.0)) (searched_not (is_applied zone) e.supby)

  entry_judged : (e : Entry) → Contains zone.entries e
      → Judges (entry_fault g c zone e) (EntryRule e) (EntryBreaks g c zone e.id)
  entry_judged e has =
      either (if is_some e.applied then applied_fault g c zone e.id else None)
      (option_map SupbyNotApplied (not_applied zone e.supby))
      (when (is_some e.applied) (applied_fault g c zone e.id)
      (λ is. own e.id (in_map (λ e. e.id) (filter (λ e. is_some e.applied) zone.entries) e
      (in_filter (λ e. is_some e.applied) zone.entries e has is))))
      (supby_judged e has)

  -- ---- an element

  module _ (e : Element) where
    abbrev ids : List Id
    ids = e.fmid ∷ e.rmid ∷ e.umids

    apart : (P : Id → Type 0) → All P ids
        → All P (e.fmid ∷ []) × (All P (e.rmid ∷ []) × (All P e.umids × Unit {0}))
    apart P all =
        let rest = All-tail P e.fmid (e.rmid ∷ e.umids) all in (
          All-cons P e.fmid [] (All-head P e.fmid (e.rmid ∷ e.umids) all) (All-nil P),
          (All-cons P e.rmid [] (All-head P e.rmid e.umids rest) (All-nil P), (All-tail P e.rmid e.umids rest, tt)),
        )

    joined : (P : Id → Type 0) → All P (e.fmid ∷ []) × (All P (e.rmid ∷ []) × (All P e.umids × Unit {0})) → All P ids
    joined P all =
        All-cons P e.fmid (e.rmid ∷ e.umids) (All-head P e.fmid [] all.0)
        (All-cons P e.rmid e.umids (All-head P e.rmid [] all.1.0) all.1.1.0)

    at_level : (level : Level)
        → Judges (option_map (LevelNotApplied level) (not_applied zone (ids_at e level)))
        (All (λ x. IsTrue (is_applied zone x)) (ids_at e level)) (ElementBreaks g c zone e)
    at_level level = mapped _ (LevelNotApplied level) (λ x it. (it.1, not-true (is_applied zone x) it.0))
        (searched_not (is_applied zone) (ids_at e level))

    level_judged : Judges (level_fault zone e) (All (λ x. IsTrue (is_applied zone x)) ids) (ElementBreaks g c zone e)
    level_judged =
        let all = either _ _ (at_level Fmid) (either _ _ (at_level Rmid) (either _ _ (at_level Umid) nothing)) in
        restated all (joined (λ x. IsTrue (is_applied zone x))) (apart (λ x. IsTrue (is_applied zone x)))

    replaced_judged : Judges (none_or (NotReplacedBy e.rmid) (has_replacement g e.rmid e.elem_type e.name))
        (IsTrue (has_replacement g e.rmid e.elem_type e.name)) (ElementBreaks g c zone e)
    replaced_judged = tested (NotReplacedBy e.rmid) (has_replacement g e.rmid e.elem_type e.name)
        (λ other. (refl, other))

    updated_judged : Judges (option_map NotUpdatedBy (find (λ x. not (has_update g x e.elem_type e.name)) e.umids))
        (All (λ x. IsTrue (has_update g x e.elem_type e.name)) e.umids) (ElementBreaks g c zone e)
    updated_judged = mapped (find (λ x. not (has_update g x e.elem_type e.name)) e.umids) NotUpdatedBy
        (λ x it. (it.1, not-true (has_update g x e.elem_type e.name) it.0))
        (searched_not (λ x. has_update g x e.elem_type e.name) e.umids)

    change_judged : Judges (change_fault g e)
        (IsTrue (has_replacement g e.rmid e.elem_type e.name)
        × All (λ x. IsTrue (has_update g x e.elem_type e.name)) e.umids) (ElementBreaks g c zone e)
    change_judged =
        let all = either _ _ replaced_judged (either _ _ updated_judged nothing) in
        restated all (λ have. (have.0, have.1.0)) (λ have. (have.0, (have.1, tt)))

    abbrev is_owned : Id → Bool
    is_owned x = bytes_eq (owner g c x) e.fmid

    same_owner : (x : Id) → owner g c x ≡ e.fmid → IsTrue (is_owned x)
    same_owner x same = ap (λ f. bytes_eq f e.fmid) same ∙ same_itself e.fmid

    other : (x : Id) → IsFalse (is_owned x) → owner g c x ≢ e.fmid
    other x isnt same = let is = same_owner x same in absurd (cc (isnt, is))

    owned_at : (level : Level) → Judges (other_owner_fault g c e.fmid level (ids_at e level))
        (All (λ x. owner g c x ≡ e.fmid) (ids_at e level)) (ElementBreaks g c zone e)
    owned_at level =
        let found : Judges (other_owner_fault g c e.fmid level (ids_at e level))
        (All (λ x. IsTrue (is_owned x)) (ids_at e level)) (ElementBreaks g c zone e) =
        mapped (find (λ x. not (is_owned x)) (ids_at e level)) (λ x. OtherOwner level x (owner g c x))
        (λ x it. (it.1, refl, other x (not-true (is_owned x) it.0))) (searched_not is_owned (ids_at e level)) in
        restated found
        (All-weaker (λ x. IsTrue (is_owned x)) (λ x. owner g c x ≡ e.fmid)
        (λ x is. same_from (owner g c x) e.fmid is) (ids_at e level))
        (All-weaker (λ x. owner g c x ≡ e.fmid) (λ x. IsTrue (is_owned x)) same_owner (ids_at e level))

    owner_judged : Judges (owner_fault g c e) (All (λ x. owner g c x ≡ e.fmid) ids) (ElementBreaks g c zone e)
    owner_judged =
        let all = either _ _ (owned_at Fmid) (either _ _ (owned_at Rmid) (either _ _ (owned_at Umid) nothing)) in
        restated all (joined (λ x. owner g c x ≡ e.fmid)) (apart (λ x. owner g c x ≡ e.fmid))

    element_judged : HasForm e.elem_type e.text
        → Judges (element_fault g c zone e) (IsOwned g c zone e) (ElementBreaks g c zone e)
    element_judged form =
        let all = either _ _ level_judged (either _ _ change_judged (either _ _ owner_judged nothing)) in
        restated all (λ have. record {
          applied = have.0;
          rmid = have.1.0.0;
          umids = have.1.0.1;
          owner = have.1.1.0;
          text = form;
        })
        (λ is. (is.applied, ((is.rmid, is.umids), (is.owner, tt))))

  -- ---- the zone

  applied_all : (P : Id → Type 0) → All (λ e. IsTrue (is_some e.applied) → P e.id) zone.entries
      → All P (applied_ids zone)
  applied_all P all = All_from_each P (applied_ids zone) (λ x has.
      let it = map_in (λ e. e.id) (filter (λ e. is_some e.applied) zone.entries) x has in
      let e = it.0 in
      let is = filter_in (λ e. is_some e.applied) zone.entries e it.1 in
      subst P it.2 (All-contains (λ e. IsTrue (is_some e.applied) → P e.id) zone.entries e all is.0 is.1))

  all_applied : (P : Id → Type 0) → All P (applied_ids zone)
      → All (λ e. IsTrue (is_some e.applied) → P e.id) zone.entries
  all_applied P all = All_from_each (λ e. IsTrue (is_some e.applied) → P e.id) zone.entries (λ e has is.
      All-contains P (applied_ids zone) e.id all (in_map (λ e. e.id) (filter (λ e. is_some e.applied) zone.entries) e
      (in_filter (λ e. is_some e.applied) zone.entries e has is)))

  entries_judged : Judges (first_of (entry_breach g c zone) zone.entries) (All EntryRule zone.entries)
      (Breaks g c zone)
  entries_judged = listed (entry_breach g c zone) EntryRule (Breaks g c zone) zone.entries (λ e has.
      mapped (entry_fault g c zone e) (OfEntry e.id) (λ fault breaks. breaks) (entry_judged e has))

  elements_judged : All (λ e. HasForm e.elem_type e.text) zone.elements
      → Judges (first_of (element_breach g c zone) zone.elements) (All (IsOwned g c zone) zone.elements)
      (Breaks g c zone)
  elements_judged forms = listed (element_breach g c zone) (IsOwned g c zone) (Breaks g c zone) zone.elements
      (λ e has. mapped (element_fault g c zone e) (OfElement e.elem_type e.name)
      (λ fault breaks. (e, has, refl, refl, breaks))
      (element_judged e (All-contains (λ e. HasForm e.elem_type e.text) zone.elements e forms has)))

  closed_from : All EntryRule zone.entries → All (IsOwned g c zone) zone.elements → IsClosedZone g c zone
  closed_from entries elements = record {
    supported = applied_all (IsSupported c zone) (All-weaker EntryRule
        (λ e. IsTrue (is_some e.applied) → IsSupported c zone e.id) (λ e rule is. (rule.0 is).0) zone.entries entries);
    at_peace = applied_all (IsAtPeace g c zone) (All-weaker EntryRule
        (λ e. IsTrue (is_some e.applied) → IsAtPeace g c zone e.id) (λ e rule is. (rule.0 is).1) zone.entries entries);
    supby = All-weaker EntryRule (λ e. All (λ y. IsTrue (is_applied zone y)) e.supby) (λ e rule. rule.1) zone.entries
        entries;
    elements = elements;
  }

  rules_of : IsClosedZone g c zone → All EntryRule zone.entries
  rules_of closed = All_from_each EntryRule zone.entries (λ e has.
      let supported = all_applied (IsSupported c zone) closed.supported in
      let at_peace = all_applied (IsAtPeace g c zone) closed.at_peace in (
        λ is. (
          All-contains (λ e. IsTrue (is_some e.applied) → IsSupported c zone e.id) zone.entries e supported has is,
          All-contains (λ e. IsTrue (is_some e.applied) → IsAtPeace g c zone e.id) zone.entries e at_peace has is,
        ),
        All-contains (λ e. All (λ y. IsTrue (is_applied zone y)) e.supby) zone.entries e closed.supby has,
      ))

  -- The search for the first breach finds none if and only if the zone is closed, and what it finds is one.
  pub zone_judged : All (λ e. HasForm e.elem_type e.text) zone.elements
      → Judges (first_breach g c zone) (IsClosedZone g c zone) (Breaks g c zone)
  zone_judged forms =
      let all = either (first_of (entry_breach g c zone) zone.entries)
      (first_of (element_breach g c zone) zone.elements) entries_judged (elements_judged forms) in
      restated all (λ have. closed_from have.0 have.1) (λ closed. (rules_of closed, closed.elements))

  pub none_if_closed : All (λ e. HasForm e.elem_type e.text) zone.elements → (b : Option Breach)
      → b ≡ first_breach g c zone → (b ≡ None) ↔ IsClosedZone g c zone
  none_if_closed forms b is =
      let judged = zone_judged forms in (λ none. judged.none (sym is ∙ none), λ closed. is ∙ judged.holds closed)

  pub some_breaks : All (λ e. HasForm e.elem_type e.text) zone.elements → (b : Option Breach)
      → b ≡ first_breach g c zone → IfSome b (Breaks g c zone)
  some_breaks forms None is = tt
  some_breaks forms (Some y) is = (zone_judged forms).some y (sym is)
