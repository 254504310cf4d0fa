-- What SET finds, and the session of the state that it leads to.
use Rattle.std.proofs.Common.{◌≡◌, ◌⊎◌, ◌∙◌, Bool, true, false, cond, List, [], Some, None, refl, sym, ap, subst, inl}
use Rattle.std.proofs.Common.{inr}
use Rattle.std.specs.Prelude.{is_some, IsSome}
use Rattle.std.specs.Str.{bytes_eq}
use Rattle.std.proofs.lemmas.Bool.{or_right}
use Rattle.indexmap.specs.IndexMap.{get, Updates}
use Rattle.terms.specs.Types.{Text, Zone, Set}
use Rattle.terms.proofs.TextOrder.{same_from}
use Rattle.machine.specs.Outcome.{Line, NoZone, Refused, Ran, header_of}
use Rattle.machine.specs.State.{State, global_name, zone_named, misplaced}
use Rattle.machine.specs.Machine.{Files, Performs}
use Rattle.smpe_session.specs.declared.session.Session.{Session}
use Rattle.smpe_session.specs.Sessions.{IsSessionOf}
use Rattle.smpe_session.specs.KnownZones.{IsSought}

-- a zone of the state under its name
pub zones_updated : (s : State) (at new : Session) (name : Text) (zone : Zone)
    → ((q : Text) (z : Zone) → bytes_eq name q ≡ false → get bytes_eq at.zones q ≡ Some z
    → zone_named s.zones q ≡ Some z)
    → Updates bytes_eq at.zones new.zones name (Some zone) → zone_named s.zones name ≡ Some zone
    → (q : Text) (z : Zone) → get bytes_eq new.zones q ≡ Some z → zone_named s.zones q ≡ Some z
zones_updated s at new name zone zones updates there q z found = by (bytes_eq name q) refl
  where
    by : (b : Bool) → bytes_eq name q ≡ b → zone_named s.zones q ≡ Some z
    by true same =
        let is : Some zone ≡ Some z = sym (updates.0 q ∙ ap (λ b. cond b (Some zone) (get bytes_eq at.zones q)) same)
        ∙ found in
        ap (λ n. zone_named s.zones n) (sym (same_from name q same)) ∙ there ∙ is
    by false other = zones q z other (sym (updates.0 q ∙ ap (λ b. cond b (Some zone) (get bytes_eq at.zones q)) other)
        ∙ found)

-- what stood in the map stands in it still
pub some_updated : (at new : Session) (name q : Text) (zone : Zone)
    → Updates bytes_eq at.zones new.zones name (Some zone) → IsSome (get bytes_eq at.zones q)
    → IsSome (get bytes_eq new.zones q)
some_updated at new name q zone updates some = by (bytes_eq name q) refl
  where
    by : (b : Bool) → bytes_eq name q ≡ b → IsSome (get bytes_eq new.zones q)
    by true same = subst IsSome (sym (updates.0 q ∙ ap (λ b. cond b (Some zone) (get bytes_eq at.zones q)) same)) refl
    by false other = subst IsSome (sym (updates.0 q ∙ ap (λ b. cond b (Some zone) (get bytes_eq at.zones q)) other))
        some

-- a zone that was loaded
pub sought_loaded : (s : State) (at new : Session) (name : Text) (zone : Zone) → IsSessionOf s at
    → zone_named s.zones name ≡ Some zone
    → new.global ≡ at.global → new.boundary ≡ at.boundary → Updates bytes_eq at.zones new.zones name (Some zone)
    → IsSought s new name true
sought_loaded s at new name zone is there global boundary updates = record {
  session = record {
    global = global ∙ is.global;
    boundary = boundary ∙ is.boundary;
    zones = zones_updated s at new name zone (λ q z other found. is.zones q z found) updates there;
    current = λ q named. elim (is.current q named) [
      | inl same ↦ inl same
      | inr some ↦ inr (some_updated at new name q zone updates some)
    ];
  };
  found = sym (or_right (bytes_eq name global_name) (is_some (zone_named s.zones name)) (ap is_some there));
  here = λ found. inr (subst IsSome (sym updates.1) refl);
}

-- SET of no zone
pub set_refused : (s : State) (at : Session) (name date : Text) (files : Files) (answer : Bool)
    → IsSought s at name answer → answer ≡ false
    → Performs date files s (Set name) s (Refused (header_of (Set name) s.boundary) NoZone)
unfolding misplaced
set_refused s at name date files true is none = absurd (cc none)
set_refused s at name date files false is none = inl (
  NoZone,
  ap (λ b. cond b None (Some NoZone))
      (sym is.found),
  refl,
  refl,
)

-- SET of a zone
pub set_ran : (s : State) (at : Session) (name date : Text) (files : Files) (lines : List Line) (answer : Bool)
    → IsSought s at name answer → answer ≡ true → lines ≡ []
    → Performs date files s (Set name) (record s { boundary = Some name }) (Ran (header_of (Set name) s.boundary) lines)
unfolding misplaced
set_ran s at name date files lines true is some none = inr (
  ap (λ b. cond b None (Some NoZone)) (sym is.found),
  (refl, ap (λ ls. Ran (header_of (Set name) s.boundary) ls) none),
)
set_ran s at name date files lines false is some none = absurd (cc some)

pub set_session : (s : State) (at new : Session) (name : Text) (answer : Bool) → IsSought s at name answer
    → answer ≡ true
    → new.global ≡ at.global → new.zones ≡ at.zones → new.boundary ≡ Some name
    → IsSessionOf (record s { boundary = Some name }) new
set_session s at new name false is some global zones boundary = absurd (cc some)
set_session s at new name true is some global zones boundary = record {
  global = global ∙ is.session.global;
  boundary = boundary;
  zones = λ q z found. is.session.zones q z (sym (ap (λ m. get bytes_eq m q) zones) ∙ found);
  current = λ q named.
      let same : Some name ≡ Some q = named in
      let here : name ≡ q = cc same in
      subst (λ n. (n ≡ global_name) ⊎ IsSome (get bytes_eq new.zones n)) here
      (subst (λ m. (name ≡ global_name) ⊎ IsSome (get bytes_eq m name)) (sym zones) (is.here refl));
}
