-- Items, one by one.
use Rattle.std.proofs.Common.{◌≡◌, ℕ, List, [], ◌∷◌, ◌++◌, refl, sym, ap, subst, inr}
use Rattle.std.proofs.Common.{inl}
use Rattle.std.specs.Prelude.{All}
use Rattle.terms.specs.declared.codes.StatementCode.{StatementCode}
use Rattle.terms.specs.Types as terms
use Rattle.terms.specs.Types.{Lines}
use Rattle.terms.specs.Records.{HasRecords, IsRecord}
use Rattle.terms.specs.Groups.{Group, TakesGroup}
use Rattle.terms.specs.HoldFile.{IsGoodItem, IsItemFault, BeginsWithItems, IsHoldFile}
use Rattle.terms.proofs.ExactHoldFile.{hold_file_fault_no_items}
use Rattle.terms.proofs.Each.{All_front, All_back}
use Rattle.mcs.specs.declared.fault.StatementError.{StatementError}
use Rattle.mcs.specs.declared.fault.StatementError.TheVariants as statement
use Rattle.mcs.specs.FileFaults.{error_at, IsFileError}
use Rattle.mcs.specs.declared.error.McsError.{McsError}
use Rattle.mcs.specs.declared.error.McsError.TheVariants.{Memory, Fault}
use Rattle.mcs.specs.declared.hold_item.HoldItem.{HoldItem}
use Rattle.mcs.specs.HoldItems.{item_of, items, IsHoldFileError, IsItemError, IsRestError}

begins_more : (n : ℕ) (records : Lines) (found : List terms.HoldItem) (m : ℕ) (rest : Lines) (g : Group) (next : ℕ)
    (later : Lines) (i : terms.HoldItem) → BeginsWithItems n records found m rest → TakesGroup m rest g next later
    → IsGoodItem g.records i → BeginsWithItems n records (found ++ i ∷ []) next later
begins_more n records [] m rest g next later i b t good =
    let takes = subst (λ k. TakesGroup k records g next later) (sym b.0)
    (subst (λ r. TakesGroup m r g next later) (sym b.1) t) in
    (g, next, later, takes, good, (refl, refl))
begins_more n records (j ∷ found) m rest g next later i b t good =
    (b.0, b.1, b.2, b.3, b.4, begins_more b.1 b.2 found m rest g next later i b.5 t good)

items_push : (xs : List HoldItem) (x : HoldItem) → items (xs ++ x ∷ []) ≡ items xs ++ item_of x ∷ []
items_push [] x = refl
items_push (y ∷ xs) x = ap (λ l. item_of y ∷ l) (items_push xs x)

pub items_more : (n : ℕ) (records : Lines) (found : List HoldItem) (m : ℕ) (rest : Lines) (g : Group) (next : ℕ)
    (later : Lines) (i : HoldItem) → BeginsWithItems n records (items found) m rest → TakesGroup m rest g next later
    → IsGoodItem g.records (item_of i) → BeginsWithItems n records (items (found ++ i ∷ [])) next later
items_more n records found m rest g next later i b t good =
    subst (λ l. BeginsWithItems n records l next later) (sym (items_push found i))
    (begins_more n records (items found) m rest g next later (item_of i) b t good)

-- the records that are left, and those of the next statement, are records
rest_records : (n : ℕ) (records : Lines) (found : List terms.HoldItem) (m : ℕ) (rest : Lines)
    → BeginsWithItems n records found m rest → All IsRecord records → All IsRecord rest
rest_records n records [] m rest b h = subst (All IsRecord) b.1 h
rest_records n records (j ∷ found) m rest b h =
    rest_records b.1 b.2 found m rest b.5 (All_back IsRecord b.0.records b.2 (subst (All IsRecord) b.3.records_are h))

pub group_records : (n : ℕ) (records : Lines) (found : List terms.HoldItem) (m : ℕ) (rest : Lines) (g : Group)
    (next : ℕ) (later : Lines) → BeginsWithItems n records found m rest → TakesGroup m rest g next later
    → All IsRecord records → All IsRecord g.records
group_records n records found m rest g next later b t h =
    All_front IsRecord g.records later (subst (All IsRecord) t.records_are (rest_records n records found m rest b h))

rest_fault : (n : ℕ) (records : Lines) (found : List terms.HoldItem) (m : ℕ) (rest : Lines) (g : Group) (next : ℕ)
    (later : Lines) (code : StatementCode) → BeginsWithItems n records found m rest → TakesGroup m rest g next later
    → IsItemFault g.records code → IsRestError n records (Fault g.number code)
rest_fault n records found m rest g next later code b t f = (found, m, rest, b, (g, next, later, t, refl, f))

pub rest_error : (n : ℕ) (records : Lines) (found : List terms.HoldItem) (m : ℕ) (rest : Lines) (g : Group) (next : ℕ)
    (later : Lines) (error : StatementError)
    → BeginsWithItems n records found m rest → TakesGroup m rest g next later → IsItemError g.records error
    → IsRestError n records (error_at g.number error)
rest_error n records found m rest g next later statement.Memory b t f = tt
rest_error n records found m rest g next later (statement.Fault code) b t f =
    rest_fault n records found m rest g next later code b t f

pub first_error : (bytes : List ℕ) (error : McsError) → IsFileError bytes error → IsHoldFileError bytes error
first_error bytes Memory f = tt
first_error bytes (Fault n code) f = inl f

pub file_error : (bytes : List ℕ) (records : Lines) (error : McsError) → HasRecords bytes records
    → IsRestError 1 records error → IsHoldFileError bytes error
file_error bytes records Memory h r = tt
file_error bytes records (Fault number code) h r = inr (records, r.0, r.1, r.2, h, r.3, r.4)

-- What is a hold file is not read only where memory is wanting.
pub error_is : (bytes : List ℕ) (error : McsError) (found : List terms.HoldItem) → IsHoldFileError bytes error
    → IsHoldFile bytes found → error ≡ Memory
error_is bytes Memory found e p = refl
error_is bytes (Fault number code) found e p = absurd (hold_file_fault_no_items bytes
    (record { number = number; code = code }) found e p)
