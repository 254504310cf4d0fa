-- A SYSMOD that is taken in with its holds, and one that is taken out again.
use Rattle.std.proofs.Common.{if◌then◌else◌, is_some, ap₂, ◌≡◌, true, false, not, List, [], ◌∷◌, filter, find, fold}
use Rattle.std.proofs.Common.{cond, refl, sym, ap, ◌∙◌, None, All, IsTrue, arith}
use Rattle.std.specs.declared.cmp.Ordering.{Ordering}
use Rattle.std.specs.declared.cmp.Ordering.TheVariants.{Less, Equal, Greater}
use Rattle.std.specs.Ordering.{is_lt, is_eq, nat_cmp}
use Rattle.std.specs.Cmp.Lexicographic.{slice_cmp}
use Rattle.std.specs.Str.{bytes_eq}
use Rattle.std.proofs.lemmas.Cmp.{nat_list_cmp_total}
use Rattle.std.proofs.lemmas.Option.{none-some}
use Rattle.std.proofs.lemmas.Map.Text.{is_eq-slice_cmp}
use Rattle.std.proofs.lemmas.List.Elements.{All-cons, All-weaker}
use Rattle.terms.proofs.TextOrder.{other_from_less, same_itself}
use Rattle.terms.specs.Types.{Id, Hold, Sysmod, Global, a_global}
use Rattle.terms.specs.Rising.{Rises, Splits, with_item}
use Rattle.terms.specs.Global.{hold}
use Rattle.terms.proofs.RisingLists.{with_item_new}
use Rattle.terms.proofs.Pairs.{AllPairs_first, AllPairs_rest}
use Rattle.terms.proofs.Orderings.{Less_from_is_lt, Greater_turned, Less_turned}
use Rattle.terms.proofs.Searches.{filter_all}
use Rattle.sysmods.specs.Held.{found}
use Rattle.sysmods.specs.Lists.{with_holds}

-- A SYSMOD that was new goes again.
pub taken_out : (xs : List Sysmod) (s : Sysmod) → Rises (slice_cmp nat_cmp) (λ r. r.id) xs
    → find (λ r. bytes_eq r.id s.id) xs ≡ None
    → filter (λ r. not (bytes_eq r.id s.id)) (with_item (slice_cmp nat_cmp) (λ r. r.id) xs s) ≡ xs
taken_out [] s rises none = rw (same_itself s.id) refl
taken_out (y ∷ ys) s rises none =
    by (taken_out ys s (AllPairs_rest (λ a b. IsTrue (is_lt (slice_cmp nat_cmp a.id b.id))) y ys rises))
    (slice_cmp nat_cmp y.id s.id) refl
  where
    higher : All (λ z. IsTrue (is_lt (slice_cmp nat_cmp y.id z.id))) ys
    higher = AllPairs_first (λ a b. IsTrue (is_lt (slice_cmp nat_cmp a.id b.id))) y ys rises

    by : (find (λ r. bytes_eq r.id s.id) ys ≡ None → filter (λ r. not (bytes_eq r.id s.id))
        (with_item (slice_cmp nat_cmp) (λ r. r.id) ys s) ≡ ys)
        → (c : Ordering) → slice_cmp nat_cmp y.id s.id ≡ c
        → filter (λ r. not (bytes_eq r.id s.id)) (with_item (slice_cmp nat_cmp) (λ r. r.id) (y ∷ ys) s) ≡ y ∷ ys
    by again Less c =
        let apart : bytes_eq y.id s.id ≡ false = other_from_less y.id s.id c in
        let rest = rw apart at none in
        rw (c, Greater_turned nat_list_cmp_total y.id s.id c, apart) (ap (λ zs. y ∷ zs) (again rest))
    by again Equal c =
        let same : bytes_eq y.id s.id ≡ true = sym (is_eq-slice_cmp y.id s.id) ∙ ap is_eq c in
        let found = rw same at none in
        absurd (none-some y (sym found))
    by again Greater c =
        let first : slice_cmp nat_cmp s.id y.id ≡ Less = Less_turned nat_list_cmp_total y.id s.id c in
        let behind : All (λ z. slice_cmp nat_cmp s.id z.id ≡ Less) (y ∷ ys) =
        All-cons (λ z. slice_cmp nat_cmp s.id z.id ≡ Less) y ys first
        (All-weaker (λ z. IsTrue (is_lt (slice_cmp nat_cmp y.id z.id))) (λ z. slice_cmp nat_cmp s.id z.id ≡ Less)
        (λ z less. nat_list_cmp_total.trans s.id y.id z.id first
        (Less_from_is_lt (slice_cmp nat_cmp y.id z.id) less)) ys higher) in
        let splits : Splits (slice_cmp nat_cmp) (λ (r : Sysmod). r.id) s.id [] (y ∷ ys) =
        record { low = λ i d below. absurd (omega arith); high = behind } in
        ap (filter (λ r. not (bytes_eq r.id s.id))) (with_item_new nat_list_cmp_total (λ (r : Sysmod). r.id) [] (y ∷ ys)
        s splits)
        ∙ ap (λ b. cond (not b) (s ∷ filter (λ r. not (bytes_eq r.id s.id)) (y ∷ ys))
        (filter (λ r. not (bytes_eq r.id s.id)) (y ∷ ys))) (same_itself s.id)
        ∙ filter_all (λ r. not (bytes_eq r.id s.id)) (y ∷ ys)
        (All-weaker (λ z. slice_cmp nat_cmp s.id z.id ≡ Less) (λ z. not (bytes_eq z.id s.id) ≡ true)
        (λ z less. ap not (behind_other z.id less)) (y ∷ ys) behind)
      where
        behind_other : (x : Id) → slice_cmp nat_cmp s.id x ≡ Less → bytes_eq x s.id ≡ false
        behind_other x less = sym (is_eq-slice_cmp x s.id) ∙ ap is_eq (Greater_turned nat_list_cmp_total s.id x less)

pub put_back : (xs ys zs : List Sysmod) (s t : Sysmod) (x : Id) → Rises (slice_cmp nat_cmp) (λ r. r.id) xs
    → found xs s.id ≡ None → t ≡ record s { holds = [] } → x ≡ s.id
    → ys ≡ (if is_some (found xs t.id) then xs else with_item (slice_cmp nat_cmp) (λ r. r.id) xs t)
    → zs ≡ filter (λ r. not (bytes_eq r.id x)) ys → zs ≡ xs
put_back xs ys zs s t x rises none t_is x_is ys_is zs_is =
    let now : Sysmod = record s { holds = [] } in
    let came : ys ≡ with_item (slice_cmp nat_cmp) (λ r. r.id) xs now =
    ys_is ∙ ap (λ r. if is_some (found xs r.id) then xs else with_item (slice_cmp nat_cmp) (λ r. r.id) xs r) t_is
    ∙ ap (λ o. if is_some o then xs else with_item (slice_cmp nat_cmp) (λ r. r.id) xs now) none in
    zs_is ∙ ap₂ (λ y rs. filter (λ r. not (bytes_eq r.id y)) rs) x_is came ∙ taken_out xs now rises none

-- the holds of a SYSMOD come in one after another
pub folded : (hs : List Hold) (g : Global) → fold hold g hs ≡ a_global g.sysmods (with_holds g.holds hs)
folded [] g = refl
folded (h ∷ hs) g = folded hs (hold g h)
