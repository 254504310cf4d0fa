-- A hold file after another one is the hold file of all items.
use Rattle.std.proofs.Common.{◌≡◌, ◌+◌, ℕ, false, List, [], ◌∷◌, ◌++◌, length, subst, sym, ap, ◌∙◌, refl}
use Rattle.std.proofs.Common.{append_assoc}
use Rattle.std.specs.Prelude.{flat_map, not}
use Rattle.std.proofs.lemmas.List.{map-append}
use Rattle.std.proofs.lemmas.List.Concat.{flat_map-append}
use Rattle.std.proofs.lemmas.List.Elements.{All-append, All-nil}
use Rattle.terms.specs.Types as terms
use Rattle.terms.specs.Types.{Lines}
use Rattle.terms.specs.Records.{IsRecord}
use Rattle.terms.specs.Groups.{Group, IsGroup, starts_outside}
use Rattle.terms.specs.HoldFile.{IsHoldFile, BeginsWithItems}
use Rattle.mcs.specs.HoldItems.{items, item_of}
use Rattle.mcs.specs.declared.hold_item.HoldItem.{HoldItem}

-- the same items, counted from another number
renumbered : (k n : ℕ) (records : Lines) (xs : List terms.HoldItem) (m : ℕ) (rest : Lines)
    → BeginsWithItems n records xs m rest → (m' : ℕ) × BeginsWithItems k records xs m' rest
renumbered k n records [] m rest b = (k, (refl, b.1))
renumbered k n records (x ∷ xs) m rest b =
    let g : Group = b.0 in
    let after = renumbered (k + length g.records) b.1 b.2 xs m rest b.5 in (
      after.0,
      (
        record { number = k; records = g.records },
        k + length g.records,
        b.2,
        record {
          records_are = b.3.records_are;
          number_is = refl;
          is_group = b.3.is_group;
          next_is = refl;
          rest_starts = b.3.rest_starts;
        },
        b.4,
        after.1,
      ),
    )

-- what follows the items
followed : (n : ℕ) (records more : Lines) (xs : List terms.HoldItem) (m : ℕ) → starts_outside more ≡ false
    → BeginsWithItems n records xs m [] → BeginsWithItems n (records ++ more) xs m more
followed n records more [] m starts b = (b.0, ap (λ r. r ++ more) b.1)
followed n records more (x ∷ xs) m starts b = (
  b.0,
  b.1,
  b.2 ++ more,
  record {
    records_are = ap (λ r. r ++ more) b.3.records_are ∙ append_assoc b.0.records b.2 more;
    number_is = b.3.number_is;
    is_group = b.3.is_group;
    next_is = b.3.next_is;
    rest_starts = later b.2 b.3.rest_starts;
  },
  b.4,
  followed b.1 b.2 more xs m starts b.5,
)
  where
    later : (rest : Lines) → starts_outside rest ≡ false → starts_outside (rest ++ more) ≡ false
    later [] e = starts
    later (r ∷ rs) e = e

-- items, and items after them
joined : (n : ℕ) (records middle : Lines) (xs ys : List terms.HoldItem) (k m : ℕ) (rest : Lines)
    → BeginsWithItems n records xs k middle → BeginsWithItems k middle ys m rest
    → BeginsWithItems n records (xs ++ ys) m rest
joined n records middle [] ys k m rest b c =
    subst (λ i. BeginsWithItems i records ys m rest) (sym b.0)
    (subst (λ r. BeginsWithItems k r ys m rest) (sym b.1) c)
joined n records middle (x ∷ xs) ys k m rest b c =
    (b.0, b.1, b.2, b.3, b.4, joined b.1 b.2 middle xs ys k m rest b.5 c)

group_starts : (records : Lines) (rest : Lines) → IsGroup records → starts_outside (records ++ rest) ≡ false
group_starts [] rest g = absurd g
group_starts (r ∷ rs) rest g = ap not g.0

-- a hold file begins with a statement, if it has any records
starts : (n : ℕ) (records : Lines) (xs : List terms.HoldItem) (m : ℕ) → BeginsWithItems n records xs m []
    → starts_outside records ≡ false
starts n records [] m b = subst (λ r. starts_outside r ≡ false) (sym b.1) refl
starts n records (x ∷ xs) m b =
    subst (λ r. starts_outside r ≡ false) (sym b.3.records_are) (group_starts b.0.records b.2 b.3.is_group)

pub no_items : IsHoldFile [] []
no_items = ([], 1, record { bytes_are = refl; each = All-nil IsRecord }, (refl, refl))

both_files : (one other : List ℕ) (xs ys : List terms.HoldItem) → IsHoldFile one xs → IsHoldFile other ys
    → IsHoldFile (one ++ other) (xs ++ ys)
both_files one other xs ys a b =
    let again = renumbered a.1 1 b.0 ys b.1 [] b.3 in (
      a.0 ++ b.0,
      again.0,
      record {
        bytes_are = ap (λ o. o ++ other) a.2.bytes_are ∙ ap (λ o. flat_map (λ r. r) a.0 ++ o) b.2.bytes_are
            ∙ sym (flat_map-append (λ r. r) a.0 b.0);
        each = All-append IsRecord a.0 b.0 a.2.each b.2.each;
      },
      joined 1 (a.0 ++ b.0) b.0 xs ys a.1 again.0 [] (followed 1 a.0 b.0 xs a.1 (starts 1 b.0 ys b.1 b.3) a.3) again.1,
    )

pub more_items : (bytes records all : List ℕ) (done first : List HoldItem) → IsHoldFile bytes (items done)
    → IsHoldFile records (items first) → all ≡ bytes ++ records → IsHoldFile all (items (done ++ first))
more_items bytes records all done first a b e =
    subst (λ o. IsHoldFile o (items (done ++ first))) (sym e)
    (subst (IsHoldFile (bytes ++ records)) (sym (map-append item_of done first))
    (both_files bytes records (items done) (items first) a b))
