-- The lines of LIST and of REPORT, as pieces.
use Rattle.std.proofs.Common.{◌≡◌, ◌<◌, ℕ, List, [], ◌∷◌, ◌++◌, length, refl, ◌∙◌, ap, arith, map}
use Rattle.std.specs.Prelude.{codes, Option, Some, None, option_map, Bool, true, false, if◌then◌else◌}
use Rattle.std.specs.List.{flat_map}
use Rattle.std.proofs.lemmas.List.Concat.{flat_map-append}
use Rattle.terms.specs.declared.kinds.ZoneKind.{ZoneKind}
use Rattle.terms.specs.declared.kinds.ZoneKind.TheVariants.{Target, Distribution}
use Rattle.terms.specs.Types.{Applied, Entry, Element, Global, Zone}
use Rattle.machine.specs.Outcome.{Line, lines_code, EntryLine, TextLine, SysmodLine, HoldLine, list_global, list_zone}
use Rattle.machine.specs.Outcome.{element_lines}
use Rattle.machine.specs.Report.{words_line, detail_line, list_text, optional_text, applied_words, entry_text}
use Rattle.machine.specs.Report.{mark_text, resolver_text}
use Rattle.report.specs.Views.{applied_word}
use Rattle.report.specs.WordTexts.{applied_text}

-- resolvers, where there are none or some
pub resolvers_none : (xs : List (List ℕ)) → length xs ≡ 0
    → detail_line (codes "RESOLVER" ∷ codes "-" ∷ []) ≡ resolver_text xs
resolvers_none [] none = refl
resolvers_none (x ∷ xs) none = absurd (omega (arith, none))

pub resolvers_some : (xs : List (List ℕ)) → 0 < length xs
    → flat_map (λ id. detail_line (codes "RESOLVER" ∷ id ∷ [])) xs ≡ resolver_text xs
resolvers_some [] some = absurd (omega (arith, some))
resolvers_some (x ∷ xs) some = refl

-- the word of an applied SYSMOD, a blank and the date
pub applied_put : (kind : ZoneKind) (applied : Option Applied) (a : Applied) {word date : List ℕ} → applied ≡ Some a
    → word ≡ applied_word kind → date ≡ a.date → word ++ codes " " ++ date ≡ applied_text kind applied
applied_put Target applied a is word date = rw (is, word, date) refl
applied_put Distribution applied a is word date = rw (is, word, date) refl

-- the words of an entry
dated : (kind : ZoneKind) (applied : Option Applied) (id supby delby waived : List ℕ)
    → words_line (codes "ENTRY" ∷ id ∷ applied_text kind applied ∷ codes "SUPBY" ∷ supby ∷ codes "DELBY" ∷ delby
    ∷ codes "WAIVED" ∷ waived ∷ [])
    ≡ words_line (codes "ENTRY" ∷ id ∷ applied_words kind (option_map (λ a. a.date) applied)
    ++ codes "SUPBY" ∷ supby ∷ codes "DELBY" ∷ delby ∷ codes "WAIVED" ∷ waived ∷ [])
dated Target None id supby delby waived = refl
dated Target (Some a) id supby delby waived = refl
dated Distribution None id supby delby waived = refl
dated Distribution (Some a) id supby delby waived = refl

pub words_of_entry : (kind : ZoneKind) (e : Entry) {id delby : List ℕ} {supby waived : List (List ℕ)} → id ≡ e.id
    → supby ≡ e.supby → delby ≡ optional_text e.delby → waived ≡ e.waived
    → words_line (codes "ENTRY" ∷ id ∷ applied_text kind e.applied ∷ codes "SUPBY" ∷ list_text supby
    ∷ codes "DELBY" ∷ delby ∷ codes "WAIVED" ∷ list_text waived ∷ []) ≡ entry_text kind e
words_of_entry kind e id supby delby waived =
    rw (id, supby, delby, waived)
    (dated kind e.applied e.id (list_text e.supby) (optional_text e.delby) (list_text e.waived))

-- whether a hold is internal
pub mark_is : (b : Bool) → (if b then codes "INTERNAL" else codes "EXTERNAL") ≡ mark_text b
mark_is true = refl
mark_is false = refl

-- the texts of lists of lists
pub flat_map_flat_map : {X Y Z : Type 0} (f : Y → List Z) (h : X → List Y) (xs : List X)
    → flat_map f (flat_map h xs) ≡ flat_map (λ x. flat_map f (h x)) xs
flat_map_flat_map f h [] = refl
flat_map_flat_map f h (x ∷ xs) =
    flat_map-append f (h x) (flat_map h xs) ∙ ap (λ l. flat_map f (h x) ++ l) (flat_map_flat_map f h xs)

codes_append : (xs ys : List Line) → lines_code xs ≡ 0 → lines_code ys ≡ 0 → lines_code (xs ++ ys) ≡ 0
codes_append [] ys none none_more = none_more
codes_append (x ∷ xs) ys none none_more =
    let rest = codes_append xs ys (omega (arith, none)) none_more in
    omega (arith, none, rest)

codes_of : {X : Type 0} (line : X → Line) (xs : List X) → ((x : X) → lines_code (line x ∷ []) ≡ 0)
    → lines_code (map line xs) ≡ 0
codes_of line [] each = refl
codes_of line (x ∷ xs) each = let rest = codes_of line xs each in omega (arith, each x, rest)

codes_of_all : {X : Type 0} (lines : X → List Line) (xs : List X) → ((x : X) → lines_code (lines x) ≡ 0)
    → lines_code (flat_map lines xs) ≡ 0
codes_of_all lines [] each = refl
codes_of_all lines (x ∷ xs) each = codes_append (lines x) (flat_map lines xs) (each x) (codes_of_all lines xs each)

element_code : (text : Bool) (e : Element) → lines_code (element_lines text e) ≡ 0
element_code true e = let rest = codes_of (λ r. TextLine r) e.text (λ r. refl) in omega (arith, rest)
element_code false e = refl

-- LIST has the code 0
pub list_global_code : (g : Global) → lines_code (list_global g) ≡ 0
list_global_code g =
    codes_append (map (λ s. SysmodLine s.id s.kind s.sources) g.sysmods)
    (map (λ h. HoldLine h.id h.kind h.reason h.internal) g.holds)
    (codes_of (λ s. SysmodLine s.id s.kind s.sources) g.sysmods (λ s. refl))
    (codes_of (λ h. HoldLine h.id h.kind h.reason h.internal) g.holds (λ h. refl))

pub list_zone_code : (text : Bool) (z : Zone) → lines_code (list_zone text z) ≡ 0
list_zone_code text z =
    codes_append (map (λ e. EntryLine z.kind e) z.entries) (flat_map (λ e. element_lines text e) z.elements)
    (codes_of (λ e. EntryLine z.kind e) z.entries (λ e. refl))
    (codes_of_all (λ e. element_lines text e) z.elements (λ e. element_code text e))
