-- APPLY and ACCEPT leave a zone of a clean stream a zone of the stream.
use Rattle.std.proofs.Common.{◌≡◌, ◌∙◌, Bool, true, false, List, [], ◌∷◌, Option, None, Some, Contains}
use Rattle.std.proofs.Common.{inl, inr, refl, sym, ap, subst}
use Rattle.std.specs.Prelude.{◌↔◌, ◌&&◌, ◌++◌, option_map, if◌then◌else◌}
use Rattle.std.specs.Option.{option_map_or}
use Rattle.terms.specs.declared.codes.NeedKind.TheVariants.{Ifreq}
use Rattle.terms.specs.Types.{Text, Id, Entry, Zone}
use Rattle.terms.specs.Lookups.{has_content, entry_of, is_applied, supby_of, waived_of}
use Rattle.terms.specs.Choice.{pre_of, req_of, sup_of}
use Rattle.terms.specs.Deleted.{deletions, is_deleted, is_taken_out, entry_less}
use Rattle.terms.specs.Tests.{Setting}
use Rattle.terms.specs.Needs.{asked, bypassed_ids}
use Rattle.terms.specs.Install.{Installation, cleared, HasInstalled}
use Rattle.terms.specs.Closed.{IsClosedZone}
use Rattle.terms.proofs.Leads.{reaches_named}
use Rattle.terms.proofs.ListMembers.{here, none_in}
use Rattle.zones.proofs.Filtered.{passing}
use Rattle.zones.proofs.Lookups.{entry_of_less}
use Rattle.machine_laws.proofs.Supplied.{left_applied, left_supby, supby_left}
use Rattle.machine_laws.proofs.Given.{Keeps, installing}
use Rattle.machine_laws.proofs.Effect.{effect_or_not, effect_applied, applied_either}
use Rattle.machine_laws.proofs.Undeleted.{undeleted_applied}
use Rattle.terms.specs.Stream.{KeepsRequisites, IsOfStream, ChecksRequisites}
use Rattle.stream_laws.proofs.Below.{direct}

-- a list that has nothing
has_none : (xs : List Id) → ((x : Id) → ¬ Contains xs x) → xs ≡ []
has_none [] none = refl
has_none (x ∷ xs) none = absurd (none x (here x xs))

-- what an entry waives, if there is one
abbrev waived_in : Option Entry → List Id
waived_in o = option_map_or (λ e. e.waived) o []

-- with requisites checked, none is bypassed
none_bypassed : (s : Setting) → ChecksRequisites s.bypass → (x : Id) → bypassed_ids s x ≡ []
none_bypassed s checks x =
    ap (λ b. (if b then pre_of s.choice x else []) ++ (if s.bypass.req then req_of s.choice x else [])
    ++ (if s.bypass.ifreq then asked s [] x Ifreq else [])) checks.pre
    ∙ ap (λ b. (if b then req_of s.choice x else []) ++ (if s.bypass.ifreq then asked s [] x Ifreq else [])) checks.req
    ∙ ap (λ b. if b then asked s [] x Ifreq else []) checks.ifreq

module _ (s : Setting) (survivors kept : List Id) (k : Keeps s survivors kept) (bypassed : List (Id × Id)) (date : Text)
    (new : Zone) (installed : HasInstalled (installing s kept bypassed date) new)
    (are_bypassed : (x z : Id) → Contains bypassed (x, z) ↔ (Contains kept x × Contains (bypassed_ids s x) z))
    (checks : ChecksRequisites s.bypass) (keeps : KeepsRequisites s.choice)
    (is : IsOfStream s.global s.choice s.zone) where
  abbrev i : Installation
  i = installing s kept bypassed date

  abbrev dels : List Id
  dels = deletions s.choice kept

  -- ---- nothing is waived

  -- what is left of an entry waives nothing
  left_unwaived : (x : Id) → waived_of (cleared i) x ≡ []
  left_unwaived x =
      ap waived_in (entry_of_less s.global s.choice dels s.zone k.is_zone x) ∙ by (entry_of s.zone x) refl
    where
      unless : (ids : List Id) → ids ≡ [] → (b : Bool) → (if b then [] else ids) ≡ []
      unless ids none true = refl
      unless ids none false = none

      entry : (e : Entry) → e.waived ≡ [] → (held : Bool) → waived_in (if held then Some e else None) ≡ []
      entry e none true = none
      entry e none false = refl

      by : (o : Option Entry) → entry_of s.zone x ≡ o
          → waived_in (passing has_content (option_map (entry_less (is_taken_out s.global s.choice dels s.zone)) o))
          ≡ []
      by None at = refl
      by (Some e) at = entry (entry_less (is_taken_out s.global s.choice dels s.zone) e)
          (unless e.waived (sym (ap waived_in at) ∙ is.unwaived x) (is_taken_out s.global s.choice dels s.zone e.id))
          (has_content (entry_less (is_taken_out s.global s.choice dels s.zone) e))

  new_unwaived : (x : Id) → waived_of new x ≡ []
  new_unwaived x = elim (effect_or_not s survivors kept k bypassed date x) [
    | inl effect ↦ has_none (waived_of new x) (λ z there.
        none_in z (subst (λ ids. Contains ids z) (none_bypassed s checks x)
        ((are_bypassed x z).0 ((installed.waived x z effect).0 there).0).1))
    | inr out ↦ installed.not_waived x out ∙ left_unwaived x
  ]

  -- ---- SUPBY

  stays : (b : Id) → is_applied s.zone b ≡ true → is_deleted s.global s.choice dels b ≡ false
      → is_taken_out s.global s.choice dels s.zone b ≡ false
  stays b on undeleted = ap (λ a. a && is_deleted s.global s.choice dels b) on ∙ undeleted

  -- an applied SYSMOD that is not taken out is not deleted
  undeleted : (b : Id) → is_applied s.zone b ≡ true → is_taken_out s.global s.choice dels s.zone b ≡ false
      → is_deleted s.global s.choice dels b ≡ false
  undeleted b on left = sym (ap (λ a. a && is_deleted s.global s.choice dels b) on) ∙ left

  names_supby : (x b : Id) → Contains (supby_of new x) b → (is_applied new b ≡ true) × Contains (sup_of s.choice b) x
  names_supby x b there = elim ((installed.supby x b).0 there) [
    | inl old ↦
        let left = left_supby s.global s.choice s.zone k.is_zone dels x b old in
        let was = (is.supby x b).0 left.0 in (
          undeleted_applied s survivors kept k bypassed date new installed b was.0 (undeleted b was.0 left.1),
          was.1,
        )
    | inr new_one ↦ (
      effect_applied s survivors kept k bypassed date new installed b new_one.0,
      direct s.choice keeps b x new_one.1,
    )
  ]

  supby_named : (x b : Id) → is_applied new b ≡ true → Contains (sup_of s.choice b) x → Contains (supby_of new x) b
  supby_named x b on named = elim (applied_either s survivors kept k bypassed date new installed b on) [
    | inl effect ↦ (installed.supby x b).1 (inr (effect, reaches_named (sup_of s.choice) b x named))
    | inr left ↦
        let was = left_applied s.global s.choice s.zone k.is_zone dels b left in
        (installed.supby x b).1 (inl (supby_left s.global s.choice s.zone k.is_zone dels x b
        ((is.supby x b).1 (was.0, named)) (stays b was.0 was.1)))
  ]

  pub stays_of_stream : IsClosedZone s.global s.choice new → IsOfStream s.global s.choice new
  stays_of_stream closed = record {
    closed = closed;
    unwaived = new_unwaived;
    supby = λ x b. (names_supby x b, λ by. supby_named x b by.0 by.1);
  }
