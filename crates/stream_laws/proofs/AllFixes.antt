-- APPLY and ACCEPT lose no fix of a clean stream.
use Rattle.std.proofs.Common.{◌≡◌, ◌≢◌, ◌⊎◌, ◌∙◌, Bool, true, false, not, List, [], ◌∷◌, Option, None, Some, Contains}
use Rattle.std.proofs.Common.{inl, inr, refl, sym, ap, subst, true≢false}
use Rattle.std.specs.Prelude.{◌&&◌, unwrap_or, if◌then◌else◌}
use Rattle.std.specs.Option.{option_map_or}
use Rattle.std.proofs.lemmas.Bool.{cases_Bool, false_from_ne_true}
use Rattle.std.proofs.lemmas.Option.{same_Some}
use Rattle.terms.specs.declared.kinds.ElemType.{ElemType}
use Rattle.terms.specs.declared.codes.Test.TheVariants.{OwnedByAnother}
use Rattle.terms.specs.Types.{Text, Id, Lines, Action, Replaces, Updates, Change, Element, Zone}
use Rattle.terms.specs.Lookups.{change_of, has_change, element_of, is_applied, is_function, supby_of}
use Rattle.terms.specs.Choice.{fmid_of, sup_of}
use Rattle.terms.specs.Over.{names, IsOver, Supersedes, owner}
use Rattle.terms.specs.Changes.{is_replacement, has_replacement, has_update}
use Rattle.terms.specs.Deleted.{deletions, is_deleted}
use Rattle.terms.specs.Tests.{Setting}
use Rattle.terms.specs.Install.{Installation, TakesEffect, cleared, HasInstalled, HasBase, IsUpdater}
use Rattle.terms.specs.Install.{IsUpdated, HasElementAfter}
use Rattle.terms.proofs.ChangedElements.{replaces_changes}
use Rattle.terms.proofs.Leads.{reaches_named, reaches_through}
use Rattle.terms.proofs.ListMembers.{here, there, here_or, none_in}
use Rattle.terms.proofs.Loops.{sup_named}
use Rattle.zones.proofs.Filtered.{passing}
use Rattle.zones.proofs.Lookups.{element_of_less}
use Rattle.terms.proofs.TextOrder.{same_or_not}
use Rattle.change.proofs.KeptTogether.{replaces_or_updates, kept_over, kept_owner}
use Rattle.machine_laws.proofs.Installable.{not_supplied}
use Rattle.machine_laws.proofs.Supplied.{supplied_or, supplied_applied, left_applied, applied_left, left_supby}
use Rattle.machine_laws.proofs.Supplied.{left_element}
use Rattle.machine_laws.proofs.Given.{Keeps, installing, eligible, kept_candidate, candidate_ver, unapplied}
use Rattle.machine_laws.proofs.Chains.{view_element, undeleted_fmid}
use Rattle.machine_laws.proofs.Effect.{effect_or_not, applied_either}
use Rattle.terms.specs.Stream.{IsInStream, IsClean, IsOfStream, IsInLevel, HasAllFixes, HasOwners}
use Rattle.stream_laws.proofs.Below.{direct, supported}
use Rattle.stream_laws.proofs.NoRegression.{over_level}

-- one that passes, or none
search : {X : Type 0} (P : X → Type 0) → ((x : X) → P x ⊎ (¬ P x)) → (xs : List X)
    → ((x : X) × P x) ⊎ ((x : X) → Contains xs x → ¬ P x)
search P decide [] = inr (λ x is. absurd (none_in x is))
search {X} P decide (y ∷ ys) = by (decide y) (search P decide ys)
  where
    by : P y ⊎ (¬ P y) → ((x : X) × P x) ⊎ ((x : X) → Contains ys x → ¬ P x)
        → ((x : X) × P x) ⊎ ((x : X) → Contains (y ∷ ys) x → ¬ P x)
    by (inl has) rest = inl (y, has)
    by (inr out) (inl some) = inl some
    by (inr out) (inr none) = inr (λ x is has. elim (here_or y ys x is) [
      | inl same ↦ out (subst P (sym same) has)
      | inr later ↦ none x later has
    ])

-- the records of an update
record UpdatesBy (o : Option Change) : Type 0 where
  h : Change
  at : o ≡ Some h
  update : Lines
  does : h.action ≡ Updates update

updates_by : (o : Option Change) → option_map_or (λ h. not (is_replacement h.action)) o false ≡ true → UpdatesBy o
updates_by None has = absurd (true≢false (sym has))
updates_by (Some h) has = by h.action refl has
  where
    by : (a : Action) → h.action ≡ a → not (is_replacement a) ≡ true → UpdatesBy (Some h)
    by (Replaces distlib syslib lines) at is = absurd (true≢false (sym is))
    by (Updates lines) at is = record { h = h; at = refl; update = lines; does = at }

-- none replaces and updates an element
not_both : (o : Option Change) → option_map_or (λ h. is_replacement h.action) o false ≡ true
    → option_map_or (λ h. not (is_replacement h.action)) o false ≡ true → ⊥
not_both None replaces updates = true≢false (sym replaces)
not_both (Some h) replaces updates = true≢false (sym updates ∙ ap not replaces)

module _ (s : Setting) (survivors kept : List Id) (k : Keeps s survivors kept) (bypassed : List (Id × Id)) (date : Text)
    (new : Zone) (installed : HasInstalled (installing s kept bypassed date) new)
    (clean : IsClean s.global s.choice) (is : IsOfStream s.global s.choice s.zone)
    (owners : HasOwners s.global s.choice s.zone) (fixes : HasAllFixes s.global s.choice s.zone) where
  abbrev i : Installation
  i = installing s kept bypassed date

  abbrev dels : List Id
  dels = deletions s.choice kept

  abbrev Over : Id → Id → Type 0
  Over = IsOver s.choice

  over_through : (x y z : Id) → Over x y → (y ≡ z) ⊎ Over y z → Over x z
  over_through x y z over (inl same) = subst (Over x) same over
  over_through x y z over (inr more) = reaches_through (names s.choice) x y z over more

  module _ (type : ElemType) (name : Text) where
    abbrev ChangesIt : Id → Type 0
    ChangesIt x = has_change s.global x type name ≡ true

    -- the new zone has the element, and y is in its level
    abbrev HasFix : Id → Type 0
    HasFix y = (e : Element) × (element_of new type name ≡ Some e) × IsInLevel s.choice e y

    -- ---- what was in the level

    -- OwnedByAnother: what takes effect owns the element that it changes
    old_owner : (x : Id) (old : Element) → TakesEffect i x → ChangesIt x
        → element_of (cleared i) type name ≡ Some old → old.fmid ≡ owner s.global s.choice x
    old_owner x old effect changes found = elim (same_or_not old.fmid (owner s.global s.choice x)) [
      | inl same ↦ same
      | inr other ↦ absurd ((eligible s survivors kept k x effect.kept).0.0.1 OwnedByAnother (
        old,
        (type, name, changes, view_element s survivors kept k x type name old effect.kept found),
        other,
      ))
    ]

    -- what takes effect is over the level of the element that it changes
    over_old : (x : Id) (old : Element) → TakesEffect i x → ChangesIt x → element_of (cleared i) type name ≡ Some old
        → (r : Id) → Contains (old.rmid ∷ old.umids) r → Over x r
    over_old x old effect changes found =
        let cand = kept_candidate s survivors kept k x effect.kept in
        over_level s.global s.choice s.zone clean is x type name old (candidate_ver s survivors kept k x cand)
        (not_supplied s.global s.zone x (k.installable x cand))
        (left_element s.global s.choice s.zone k.is_zone dels type name old found).0
        (old_owner x old effect changes found) changes

    -- a replacement's level is the replacer, and what updates it
    replaced_rmid : (r : Id) (base e : Element) → HasBase i type name (Some r) base
        → IsUpdated i type name (Some r) base e → e.rmid ≡ r
    replaced_rmid r base e has updated =
        ap (λ (o : Element). o.rmid) updated.rest ∙ ap (λ (o : Element). o.rmid) has.1.6

    kept_level : (y : Id) (old : Element) (r : Id) → element_of (cleared i) type name ≡ Some old
        → Contains (old.rmid ∷ old.umids) r → (r ≡ y) ⊎ Over r y → (e : Element) (replacer : Option Id) (base : Element)
        → HasBase i type name replacer base → IsUpdated i type name replacer base e → IsInLevel s.choice e y
    kept_level y old r found within up e None base has updated = (r, level, up)
      where
        same : base ≡ old
        same = same_Some base old (sym has.1 ∙ found)

        rmid : e.rmid ≡ old.rmid
        rmid = ap (λ (o : Element). o.rmid) updated.rest ∙ ap (λ (o : Element). o.rmid) same

        level : Contains (e.rmid ∷ e.umids) r
        level = elim (here_or old.rmid old.umids r within) [
          | inl first ↦ subst (Contains (e.rmid ∷ e.umids)) (rmid ∙ first) (here e.rmid e.umids)
          | inr later ↦ there e.rmid e.umids r ((updated.umids r).1
              (inl (subst (λ (o : Element). Contains o.umids r) (sym same) later)))
        ]
    kept_level y old r found within up e (Some q) base has updated = (
      q,
      subst (Contains (e.rmid ∷ e.umids)) (replaced_rmid q base e has updated) (here e.rmid e.umids),
      inr (over_through q r y (over_old q old has.0.installed (replaces_it q has.0.replaces) found r within) up),
    )
      where
        replaces_it : (x : Id) → has_replacement s.global x type name ≡ true → ChangesIt x
        replaces_it x = replaces_changes s.global x type name

    changes_or_not : (x : Id) → (TakesEffect i x × ChangesIt x) ⊎ (¬ (TakesEffect i x × ChangesIt x))
    changes_or_not x = elim (effect_or_not s survivors kept k bypassed date x) [
      | inl effect ↦ elim (cases_Bool (has_change s.global x type name)) [
        | inl changes ↦ inl (effect, changes)
        | inr none ↦ inr (λ both. true≢false (sym both.1 ∙ none))
      ]
      | inr out ↦ inr (λ both. out both.0)
    ]

    stays_in_level : (y : Id) (old : Element) → element_of (cleared i) type name ≡ Some old
        → IsInLevel s.choice old y → HasFix y
    stays_in_level y old found (r, within, up) =
        elim (search (λ x. TakesEffect i x × ChangesIt x) changes_or_not kept) [
          | inl some ↦
              let after = installed.changed type name some.0 some.1.0 some.1.1 in
              let made : HasElementAfter i type name after.0 = after.2 in (
                after.0,
                after.1,
                kept_level y old r found within up after.0 made.0 made.1 made.2 made.3,
              )
          | inr none ↦ (
            old,
            installed.unchanged type name (λ x effect. false_from_ne_true (has_change s.global x type name)
                (λ changes. none x effect.kept (effect, changes))) ∙ found,
            (r, within, up),
          )
        ]

    -- ---- owners

    -- the element after it has the owner of all that change it
    made_owner : (y : Id) → TakesEffect i y → ChangesIt y → (e : Element) (replacer : Option Id) (base : Element)
        → HasBase i type name replacer base → IsUpdated i type name replacer base e
        → owner s.global s.choice y ≡ e.fmid
    made_owner y effect changes e None base has updated =
        sym (old_owner y base effect changes has.1)
        ∙ sym (ap (λ (o : Element). o.fmid) updated.rest)
    made_owner y effect changes e (Some q) base has updated =
        kept_owner s survivors kept k.members y q effect.kept has.0.installed.kept
        (type, name, changes, replaces_changes s.global q type name has.0.replaces)
        ∙ sym (ap (λ (o : Element). o.fmid) updated.rest ∙ ap (λ (o : Element). o.fmid) has.1.6)

    -- and so has the element before it
    kept_owner_of : (y : Id) (old : Element) → element_of (cleared i) type name ≡ Some old
        → owner s.global s.choice y ≡ old.fmid → (e : Element) → element_of new type name ≡ Some e
        → owner s.global s.choice y ≡ e.fmid
    kept_owner_of y old found owns e now = elim (search (λ x. TakesEffect i x × ChangesIt x) changes_or_not kept) [
      | inl some ↦
          let after = installed.changed type name some.0 some.1.0 some.1.1 in
          let made : HasElementAfter i type name after.0 = after.2 in
          owns ∙ old_owner some.0 old some.1.0 some.1.1 found
          ∙ made_owner some.0 some.1.0 some.1.1 after.0 made.0 made.1 made.2 made.3
          ∙ ap (λ (o : Element). o.fmid) (same_Some after.0 e (sym after.1 ∙ now))
      | inr none ↦ owns ∙ ap (λ (o : Element). o.fmid) (same_Some old e
          (sym (installed.unchanged type name (λ x effect. false_from_ne_true (has_change s.global x type name)
          (λ changes. none x effect.kept (effect, changes))) ∙ found) ∙ now))
    ]

    -- ---- what takes effect

    made_level : (y : Id) → TakesEffect i y → ChangesIt y → (e : Element) (replacer : Option Id) (base : Element)
        → HasBase i type name replacer base → IsUpdated i type name replacer base e → IsInLevel s.choice e y
    made_level y effect changes e replacer base has updated =
        elim (replaces_or_updates s.global y type name changes) [
          | inl replaces ↦ replacing replacer has updated replaces
          | inr updates ↦ updating replacer has updated (updates_by (change_of s.global y type name) updates) updates
        ]
      where
        replaced : (q : Id) → HasBase i type name (Some q) base → IsUpdated i type name (Some q) base e
            → (q ≡ y) ⊎ Over q y → IsInLevel s.choice e y
        replaced q has updated up = (
          q,
          subst (Contains (e.rmid ∷ e.umids)) (replaced_rmid q base e has updated) (here e.rmid e.umids),
          up,
        )

        replacing : (replacer : Option Id) → HasBase i type name replacer base
            → IsUpdated i type name replacer base e → has_replacement s.global y type name ≡ true
            → IsInLevel s.choice e y
        replacing None has updated replaces = absurd (true≢false (sym replaces ∙ has.0 y effect))
        replacing (Some q) has updated replaces = elim (same_or_not y q) [
          | inl same ↦ replaced q has updated (inl (sym same))
          | inr other ↦ replaced q has updated (inr (has.0.over y effect replaces other))
        ]

        updated_by : (replacer : Option Id) (update : Lines) → IsUpdated i type name replacer base e
            → IsUpdater i type name replacer y update → IsInLevel s.choice e y
        updated_by replacer update updated updater =
            (y, there e.rmid e.umids y ((updated.umids y).1 (inr (update, updater))), inl refl)

        updating : (replacer : Option Id) → HasBase i type name replacer base → IsUpdated i type name replacer base e
            → UpdatesBy (change_of s.global y type name) → has_update s.global y type name ≡ true
            → IsInLevel s.choice e y
        updating None has updated by updates = updated_by None by.update updated (record {
          installed = effect;
          updates = (by.h, by.at, by.does);
          over = tt;
        })
        updating (Some q) has updated by updates =
            elim (kept_over s survivors kept k.members k.is_zone k.global k.chosen (unapplied s survivors kept k) y q
            effect.kept has.0.installed.kept other
            (type, name, changes, replaces_changes s.global q type name has.0.replaces)) [
              | inl over ↦ updated_by (Some q) by.update updated (record {
                installed = effect;
                updates = (by.h, by.at, by.does);
                over = over;
              })
              | inr under ↦ replaced q has updated (inr under)
            ]
          where
            other : y ≢ q
            other same = not_both (change_of s.global y type name)
                (subst (λ x. has_replacement s.global x type name ≡ true) (sym same) has.0.replaces) updates

    comes_in_level : (y : Id) → TakesEffect i y → ChangesIt y → HasFix y
    comes_in_level y effect changes =
        let after = installed.changed type name y effect changes in
        let made : HasElementAfter i type name after.0 = after.2 in
        (after.0, after.1, made_level y effect changes after.0 made.0 made.1 made.2 made.3)

    -- ---- what is left after DELETE

    -- The owner of what is not deleted is not deleted.
    owner_left : (b : Id) → is_deleted s.global s.choice dels b ≡ false
        → is_deleted s.global s.choice dels (owner s.global s.choice b) ≡ false
    owner_left b stays = by (is_function s.global b)
      where
        through : (o : Option Id) → fmid_of s.choice b ≡ o
            → is_deleted s.global s.choice dels (unwrap_or o b) ≡ false
        through None at = stays
        through (Some f) at = undeleted_fmid s survivors kept k dels b f at stays

        by : (function : Bool)
            → is_deleted s.global s.choice dels (if function then b else unwrap_or (fmid_of s.choice b) b) ≡ false
        by true = stays
        by false = through (fmid_of s.choice b) refl

    -- So the elements that a SYSMOD changes are left with it.
    left_fix : (b : Id) → is_applied (cleared i) b ≡ true → ChangesIt b
        → (old : Element) × (element_of (cleared i) type name ≡ Some old) × IsInLevel s.choice old b
        × (owner s.global s.choice b ≡ old.fmid)
    left_fix b left changes = (fix.0, found, fix.2, owned)
      where
        was : (is_applied s.zone b ≡ true) × (is_deleted s.global s.choice dels b ≡ false)
        was = left_applied s.global s.choice s.zone k.is_zone dels b left

        fix : (old : Element) × (element_of s.zone type name ≡ Some old) × IsInLevel s.choice old b
        fix = fixes b (supported s.global s.choice s.zone clean.requisites is b was.0).received
            (supplied_applied s.zone b was.0) type name changes

        owned : owner s.global s.choice b ≡ fix.0.fmid
        owned = owners b was.0 type name changes fix.0 fix.1

        found : element_of (cleared i) type name ≡ Some fix.0
        found =
            element_of_less s.global s.choice dels s.zone k.is_zone type name
            ∙ ap (passing (λ e. not (is_deleted s.global s.choice dels e.fmid))) fix.1
            ∙ ap (λ b. if not b then Some fix.0 else None)
            (subst (λ f. is_deleted s.global s.choice dels f ≡ false) owned (owner_left b was.1))

    applied_stays_in_level : (y : Id) → is_applied (cleared i) y ≡ true → ChangesIt y → HasFix y
    applied_stays_in_level y left changes =
        let fix = left_fix y left changes in stays_in_level y fix.0 fix.1 fix.2

    -- ---- what supersedes y has its fix

    up_to : (y b : Id) → Contains (sup_of s.choice b) y → (e : Element) → IsInLevel s.choice e b
        → IsInLevel s.choice e y
    up_to y b named e (r, within, up) = (
      r,
      within,
      inr (elim up [
        | inl same ↦ subst (λ x. Over x y) (sym same) over
        | inr over_b ↦ over_through r b y over_b (inr over)
      ]),
    )
      where
        over : Over b y
        over = reaches_named (names s.choice) b y (sup_named s.choice b y named)

    superseded_in_level : (y b : Id) → IsInStream s.choice y → ChangesIt y
        → is_applied (cleared i) b ≡ true → Contains (sup_of s.choice b) y → HasFix y
    superseded_in_level y b in_stream changes left named =
        let fix = left_fix b left (clean.elements b y in_stream named type name changes) in
        stays_in_level y fix.0 fix.1 (up_to y b named fix.0 fix.2)

    comes_superseded : (y b : Id) → IsInStream s.choice y → ChangesIt y → TakesEffect i b → Supersedes s.choice b y
        → HasFix y
    comes_superseded y b in_stream changes effect supersedes =
        let named = direct s.choice clean.requisites b y supersedes in
        let fix = comes_in_level b effect (clean.elements b y in_stream named type name changes) in
        (fix.0, fix.1, up_to y b named fix.0 fix.2)

  -- what still supersedes an id did so, and is applied
  left_superseder : (y b : Id) → Contains (supby_of (cleared i) y) b
      → (is_applied (cleared i) b ≡ true) × Contains (sup_of s.choice b) y
  left_superseder y b there =
      let left = left_supby s.global s.choice s.zone k.is_zone dels y b there in
      let was = (is.supby y b).0 left.0 in (
        applied_left s.global s.choice s.zone k.is_zone dels b was.0
            (sym (ap (λ a. a && is_deleted s.global s.choice dels b) was.0) ∙ left.1),
        was.1,
      )

  pub keeps_fixes : HasAllFixes s.global s.choice new
  keeps_fixes y in_stream there type name changes = elim (supplied_or new y there) [
    | inl on ↦ elim (applied_either s survivors kept k bypassed date new installed y on) [
      | inl effect ↦ comes_in_level type name y effect changes
      | inr left ↦ applied_stays_in_level type name y left changes
    ]
    | inr by ↦ elim ((installed.supby y by.0).0 by.1) [
      | inl old ↦
          let left = left_superseder y by.0 old in
          superseded_in_level type name y by.0 in_stream changes left.0 left.1
      | inr over ↦ comes_superseded type name y by.0 in_stream changes over.0 over.1
    ]
  ]

  pub keeps_owners : HasOwners s.global s.choice new
  keeps_owners y on type name changes e found =
      elim (applied_either s survivors kept k bypassed date new installed y on) [
        | inl effect ↦
            let after = installed.changed type name y effect changes in
            let made : HasElementAfter i type name after.0 = after.2 in
            made_owner type name y effect changes after.0 made.0 made.1 made.2 made.3
            ∙ ap (λ (o : Element). o.fmid) (same_Some after.0 e (sym after.1 ∙ found))
        | inr left ↦
            let fix = left_fix type name y left changes in
            kept_owner_of type name y fix.0 fix.1 fix.3 e found
      ]
