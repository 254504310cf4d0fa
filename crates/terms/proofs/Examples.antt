-- Small zones that show the definitions at work. Ids are single numbers here.
use Rattle.std.specs.Prelude.{◌≡◌, ◌≢◌, ◌+◌, true, false, List, [], ◌∷◌, None, Some, Contains, refl, map}
use Rattle.std.proofs.Common.{inl, inr, arith, sym, subst}
use Rattle.terms.specs.declared.kinds.Kind.{Kind}
use Rattle.terms.specs.declared.kinds.Kind.TheVariants.{Function, Ptf}
use Rattle.terms.specs.declared.kinds.HoldKind.TheVariants.{Error, User}
use Rattle.terms.specs.declared.kinds.ElemType.TheVariants.{Mac}
use Rattle.terms.specs.declared.kinds.ZoneKind.TheVariants.{Target}
use Rattle.terms.specs.declared.codes.NeedKind.TheVariants.{Fmid, Pre, Req, Ifreq, HoldError, Orphan}
use Rattle.terms.specs.declared.not_chosen.NotChosen.TheVariants.{Already, Deleted, Missing}
use Rattle.terms.proofs.ListMembers.{here_or, none_in}
use Rattle.terms.specs.Types.{Text, Id, Ver, Change, Replaces, Sysmod, Global, Entry, Zone, AnyReason}
use Rattle.terms.specs.Types.{Selection, an_applied}
use Rattle.terms.specs.Lookups.{is_applied}
use Rattle.terms.specs.Choice.{place, counting, del_of}
use Rattle.terms.specs.Over.{Leads, Reaches, Supersedes, names, chain}
use Rattle.terms.specs.Deleted.{is_deleted, zone_less}
use Rattle.terms.specs.Candidates.{IsCandidate, is_start, needed_ids, not_chosen}
use Rattle.terms.specs.Tests.{Setting, Clash, IsHeldByUser, HasSeveralFit, standing_holds}
use Rattle.terms.specs.Needs.{asked, orphans, binding_ids, Needs, Serves}
use Rattle.terms.specs.Judged.{setting}
use Rattle.terms.specs.Install.{Installation, TakesEffect, delby_after}
use Rattle.terms.specs.CommandForms.{no_bypass}

abbrev srel : Text
srel = 9 ∷ []

abbrev haa : Id
haa = 10 ∷ []

abbrev hcc : Id
hcc = 11 ∷ []

abbrev hdd : Id
hdd = 12 ∷ []

abbrev ua21 : Id
ua21 = 21 ∷ []

abbrev ua23 : Id
ua23 = 23 ∷ []

abbrev plain : Ver
plain = record { srel = srel; fmid = None; pre = []; req = []; sup = []; npre = []; del = []; ifs = [] }

abbrev sysmod : Id → Kind → Ver → List Change → Sysmod
sysmod x kind v changes = record { id = x; kind = kind; sources = []; vers = v ∷ []; changes = changes; holds = [] }

abbrev macro : Text
macro = 77 ∷ []

-- HAA1100 has a macro, HCC1200 has DELETE(HAA1100), UA00021 is service for HAA1100, and UA00023 for HDD1100 with
-- REQ(UA00021).
abbrev deleting : Global
deleting = record {
  holds = [];
  sysmods =
      sysmod haa Function plain (record { elem_type = Mac; name = macro; action = Replaces [] [] [] } ∷ [])
      ∷ sysmod hcc Function (record plain { del = haa ∷ [] }) []
      ∷ sysmod hdd Function plain []
      ∷ sysmod ua21 Ptf (record plain { fmid = Some haa }) []
      ∷ sysmod ua23 Ptf (record plain { fmid = Some hdd; req = ua21 ∷ [] }) []
      ∷ [];
}

abbrev applied : Id → Entry
applied x = record { id = x; applied = Some (an_applied (1 ∷ []) 1); supby = []; delby = None; waived = [] }

-- all but HCC1200 are applied
abbrev full : Zone
full = record {
  kind = Target;
  srel = srel;
  related = None;
  entries = applied haa ∷ applied hdd ∷ applied ua21 ∷ applied ua23 ∷ [];
  elements = record {
    elem_type = Mac;
    name = macro;
    fmid = haa;
    rmid = haa;
    umids = [];
    distlib = [];
    syslib = [];
    text = [];
  } ∷ [];
}

abbrev select : List Id → Selection
select xs = record {
  functions = false;
  ptfs = false;
  apars = false;
  usermods = false;
  select = xs;
  exclude = [];
  sourceid = [];
  forfmid = [];
  group = [];
  groupextend = false;
}

-- the chain of UA00021 is itself and its FMID
chain_service : chain deleting (counting deleting full []) ua21 ≡ ua21 ∷ haa ∷ []
chain_service = refl

-- HCC1200 takes the supplier of UA00021 from UA00023
orphans_deleter : orphans (setting deleting full None (hcc ∷ []) no_bypass) hcc ≡ ua21 ∷ []
unfolding orphans zone_less
orphans_deleter = refl

-- with HAA1100 its service and its macro go
zone_less_deletion : zone_less deleting (counting deleting full []) (haa ∷ []) full
    ≡ record full { entries = applied hdd ∷ applied ua23 ∷ []; elements = [] }
unfolding zone_less
zone_less_deletion = refl

abbrev installing : Installation
installing = record {
  global = deleting;
  choice = counting deleting full (hcc ∷ []);
  number = λ x. place deleting full (hcc ∷ []) x + 1;
  zone = full;
  kept = hcc ∷ [];
  bypassed = [];
  date = 1 ∷ [];
}

-- HAA1100 gets DELBY HCC1200, and service that goes with it gets none
delby_after_deletion : map (delby_after installing) (haa ∷ hcc ∷ hdd ∷ ua21 ∷ ua23 ∷ []) ≡ Some hcc ∷ None ∷ None ∷ None
    ∷ None ∷ []
unfolding delby_after
delby_after_deletion = refl

-- HAA1100 alone is applied
abbrev base : Zone
base = record full { entries = applied haa ∷ []; elements = [] }

-- what is applied is not open
is_start_select : map (is_start deleting base (select (hcc ∷ haa ∷ hdd ∷ []))) (haa ∷ hcc ∷ hdd ∷ []) ≡ false ∷ true ∷
    true ∷ []
is_start_select = refl

-- without operands PTFs alone are taken
is_start_mass : map (is_start deleting base (select [])) (haa ∷ hdd ∷ ua21 ∷ ua23 ∷ []) ≡ false ∷ false ∷ true ∷ true ∷
    []
is_start_mass = refl

not_chosen_select : map (not_chosen deleting full (select (hcc ∷ haa ∷ (99 ∷ []) ∷ [])))
    (haa ∷ hcc ∷ hdd ∷ (99 ∷ []) ∷ [])
    ≡ Some Already ∷ None ∷ None ∷ Some Missing ∷ []
unfolding not_chosen
not_chosen_select = refl

-- an id that was deleted is DELETED, and not MISSING or NOVER
not_chosen_deleted : not_chosen deleting (record full {
  entries =
      record { id = haa; applied = None; supby = []; delby = Some hcc; waived = [] } ∷ [];
}) (select (haa ∷ [])) haa
    ≡ Some Deleted
unfolding not_chosen
not_chosen_deleted = refl

-- what UA00023 asks for
binding_ids_service : binding_ids (counting deleting full []) full (is_applied full) ua23 ≡ ua21 ∷ []
binding_ids_service = refl

asked_service : map (asked (setting deleting full None (ua23 ∷ []) no_bypass) [] ua23)
    (Fmid ∷ Pre ∷ Req ∷ Ifreq ∷ HoldError ∷ Orphan ∷ [])
    ≡ (hdd ∷ []) ∷ [] ∷ (ua21 ∷ []) ∷ [] ∷ [] ∷ [] ∷ []
asked_service = refl

-- UA00007 has PRE(UA00008), which is not received, UA00010 has SUP(UA00008), and UA00007 is held by ERROR and USER.
abbrev ua7 : Id
ua7 = 7 ∷ []

abbrev ua8 : Id
ua8 = 8 ∷ []

abbrev ua10 : Id
ua10 = 110 ∷ []

abbrev extending : Global
extending = record {
  holds =
      record {
        id = ua7;
        kind = Error;
        reason = ua8;
        fmid = haa;
        class = None;
        date = None;
        comment = None;
        internal = false;
      }
      ∷ record {
        id = ua7;
        kind = User;
        reason = 5 ∷ [];
        fmid = haa;
        class = Some (6 ∷ []);
        date = None;
        comment = None;
        internal = false;
      }
      ∷ [];
  sysmods =
      sysmod ua7 Ptf (record plain { fmid = Some haa; pre = ua8 ∷ [] }) []
      ∷ sysmod haa Function plain []
      ∷ sysmod ua10 Ptf (record plain { fmid = Some haa; sup = ua8 ∷ [] }) []
      ∷ [];
}

needed_ids_missing : needed_ids extending base (λ x. false) ua7 ≡ ua8 ∷ []
unfolding needed_ids
needed_ids_missing = refl

supersedes_missing : Supersedes (counting extending base []) ua10 ua8
supersedes_missing = ([], (0, omega arith, refl))

-- GROUP brings in the function of what it names
abbrev grouped : Selection
grouped = record (select []) { group = ua21 ∷ [] }

grouped_candidate : IsCandidate deleting (record full { entries = [] }) grouped haa
unfolding needed_ids
grouped_candidate = λ cands growing pair.
    pair.part haa (pair.grown ua21 haa (pair.growing_start ua21 refl) (refl, inl (0, omega arith, refl)))

-- UA00007 needs UA00008 as PRE
needs_missing : Needs (setting extending base None (ua7 ∷ []) no_bypass) [] ua7 Pre ua8
unfolding zone_less
needs_missing = record {
  of = (0, omega arith, refl);
  asks = (0, omega arith, refl);
  not_bypassed = refl;
  not_met = refl;
}

-- the USER hold stands, and BYPASS(HOLDUSER) covers it
held : IsHeldByUser (setting extending base None (ua7 ∷ []) no_bypass) ua7
held = λ e. absurd (cc e)

standing_holds_bypassed : standing_holds (setting extending base None (ua7 ∷ [])
    (record no_bypass { holduser = AnyReason })) User ua7 ≡ []
standing_holds_bypassed = refl

standing_holds_class : standing_holds (setting extending base None (ua7 ∷ [])
    (record no_bypass { holdclass = (6 ∷ []) ∷ [] })) User ua7 ≡ []
standing_holds_class = refl

-- UA00010 supersedes the reason of the ERROR hold on UA00007, and so it serves the need for it.
abbrev resolving : Setting
resolving = setting extending base None (ua7 ∷ ua10 ∷ []) no_bypass

asked_error : asked resolving [] ua7 HoldError ≡ ua8 ∷ []
asked_error = refl

serves_error : Serves resolving.choice HoldError ua10 ua8
serves_error = inr (refl, ([], (0, omega arith, refl)))

-- only UA00010 itself would serve a need for it as FMID
serves_fmid : Serves resolving.choice Fmid ua10 ua8 → ⊥
serves_fmid (inl same) = absurd (cc same)
serves_fmid (inr more) = absurd (cc (more.0))

-- Kept with what supersedes it, UA00008 is not installed.
abbrev superseding : Installation
superseding = record installing {
  global = extending;
  choice = counting extending base (ua8 ∷ ua10 ∷ []);
  zone = base;
  kept = ua8 ∷ ua10 ∷ [];
}

superseded : TakesEffect superseding ua8 → ⊥
superseded effect = effect.first ua10 (1, omega arith, refl) (λ same. absurd (cc same)) ([], (0, omega arith, refl))

-- UA00013 has an ++IF for HCC1200 that requires UA00014, whether HCC1200 passes its tests or not.
abbrev ua13 : Id
ua13 = 113 ∷ []

abbrev ua14 : Id
ua14 = 114 ∷ []

abbrev conditional : Global
conditional = record {
  holds = [];
  sysmods =
      sysmod haa Function plain []
      ∷ sysmod hcc Function plain []
      ∷ sysmod ua13 Ptf (record plain { fmid = Some haa; ifs = record { function = hcc; req = ua14 ∷ [] } ∷ [] }) []
      ∷ [];
}

asked_condition : asked (setting conditional base None (hcc ∷ ua13 ∷ []) no_bypass) [] ua13 Ifreq ≡ ua14 ∷ []
unfolding zone_less
asked_condition = refl

asked_no_condition : asked (setting conditional base None (ua13 ∷ []) no_bypass) [] ua13 Ifreq ≡ []
unfolding zone_less
asked_no_condition = refl

-- Two PTFs for one function replace its macro, and neither is over the other.
abbrev ua15 : Id
ua15 = 115 ∷ []

abbrev ua16 : Id
ua16 = 116 ∷ []

abbrev replacing : List Change
replacing = record { elem_type = Mac; name = macro; action = Replaces [] [] [] } ∷ []

abbrev unordered : Global
unordered = record {
  holds = [];
  sysmods =
      sysmod haa Function plain replacing
      ∷ sysmod ua15 Ptf (record plain { fmid = Some haa }) replacing
      ∷ sysmod ua16 Ptf (record plain { fmid = Some haa }) replacing
      ∷ [];
}

-- what a SYSMOD leads to there
abbrev led_to : Id → Id → Type 0
led_to x z = Reaches (names (counting unordered base [])) x z

none_above : (x : Id) → led_to haa x → ⊥
none_above x ([], at) = none_in x at
none_above x (y ∷ ys, (at, rest)) = none_in y at

only_function : (x : Id) → x ≢ haa → (y : Id) → names (counting unordered base []) y ≡ haa ∷ [] → led_to y x → ⊥
only_function x other y is ([], at) =
    elim (here_or haa [] x (subst (λ xs. Contains xs x) is at))
    [ inl same ↦ other (sym same) | inr none ↦ none_in x none ]
only_function x other y is (z ∷ zs, (at, rest)) =
    elim (here_or haa [] z (subst (λ xs. Contains xs z) is at)) [
      | inl same ↦ none_above x (zs, subst (λ w. Leads (names (counting unordered base [])) w zs x) (sym same) rest)
      | inr none ↦ none_in z none
    ]

-- so each of them clashes with the other
clashes : Clash (setting unordered base None [] no_bypass) ua15 ua16
clashes = inr (inr (
  (Mac, macro, refl, refl),
  inr (
    only_function ua16 (λ same. absurd (cc same)) ua15 refl,
    only_function ua15 (λ same. absurd (cc same)) ua16 refl,
  ),
))

-- With HCC1200 service for HAA1100 is deleted; where something applied supersedes it, its entry stays.
deleted_service : is_deleted deleting (counting deleting full []) (del_of (counting deleting full []) hcc) ua21 ≡ true
deleted_service = refl

zone_less_superseded : zone_less deleting (counting deleting full []) (haa ∷ [])
    (record full { entries = applied hdd ∷ record (applied ua21) { supby = ua23 ∷ [] } ∷ applied ua23 ∷ [] })
    ≡ record full {
      entries = applied hdd ∷ record (applied ua21) { applied = None; supby = ua23 ∷ [] } ∷ applied ua23 ∷ [];
      elements = [];
    }
unfolding zone_less
zone_less_superseded = refl

-- UA00040 is service for HAA1100, and for HDD1100 with PRE(UA00041), which is not received.
abbrev ua40 : Id
ua40 = 40 ∷ []

abbrev ua41 : Id
ua41 = 41 ∷ []

abbrev serving : Global
serving = record {
  holds = [];
  sysmods =
      sysmod haa Function plain []
      ∷ sysmod hdd Function plain []
      ∷ record (sysmod ua40 Ptf plain []) {
        vers =
            record plain { fmid = Some haa } ∷ record plain { fmid = Some hdd; pre = ua41 ∷ [] } ∷ [];
      }
      ∷ [];
}

-- a zone that has applied these alone
abbrev with_entries : List Entry → Zone
with_entries entries = record full { entries = entries; elements = [] }

-- the first fits where HAA1100 is applied, the second where HDD1100 is; and none, or both, is the first
places_fitting : map (λ zone. place serving zone [] ua40)
    (base ∷ with_entries (applied hdd ∷ []) ∷ with_entries [] ∷ with_entries (applied haa ∷ applied hdd ∷ []) ∷ [])
    ≡ 0 ∷ 1 ∷ 0 ∷ 0 ∷ []
places_fitting = refl

-- one that a candidate fits
place_candidate : place serving (with_entries []) (hdd ∷ ua40 ∷ []) ua40 ≡ 1
place_candidate = refl

-- installed by the second, it stays so
place_kept : place serving (with_entries (applied haa ∷ applied hdd
    ∷ record (applied ua40) { applied = Some (an_applied (1 ∷ []) 2) } ∷ [])) [] ua40
    ≡ 1
place_kept = refl

-- requisites of one that does not fit are not needed
needed_ids_fitting : map (λ zone. needed_ids serving zone (λ x. false) ua40)
    (base ∷ with_entries (applied hdd ∷ []) ∷ with_entries [] ∷ [])
    ≡ [] ∷ (ua41 ∷ []) ∷ (haa ∷ hdd ∷ []) ∷ []
unfolding needed_ids
needed_ids_fitting = refl

-- where both fit it fails
fails_both : HasSeveralFit (setting serving base None (hdd ∷ ua40 ∷ []) no_bypass) ua40
fails_both = omega arith

passes_one : ¬ HasSeveralFit (setting serving base None (ua40 ∷ []) no_bypass) ua40
passes_one = omega arith
