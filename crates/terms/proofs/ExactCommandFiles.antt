-- The commands of a file and its first fault are determined, and no file has both.
use Rattle.std.proofs.Common.{◌≡◌, ℕ, List, [], ◌∷◌, refl, sym, ◌∙◌, ap, subst, inl, inr}
use Rattle.terms.specs.Types.{Command}
use Rattle.terms.specs.Records.{rec_fault_record}
use Rattle.terms.specs.Statement.{Piece, joined, IsIdle}
use Rattle.terms.specs.CommandCuts.{TakesCommand}
use Rattle.terms.specs.CommandForms.{IsCommand}
use Rattle.terms.specs.Commands.{CntlFault, BeginsWithCommands, IsCommandFile, IsCommandFault, IsNextFault}
use Rattle.terms.specs.Commands.{IsCommandFileFault}
use Rattle.terms.proofs.ExactFiles.{records_only, rec_fault_no_records, rec_fault_only}
use Rattle.terms.proofs.ExactCommands.{command_only, cut_fault_only, cut_fault_no_command, begins_not_idle}
use Rattle.terms.proofs.ExactValues.{value_only, fault_no_value, fault_only}

-- the records hold nothing but gaps, so no command
no_command : (n : ℕ) (records rest after : List (List ℕ)) (pieces : List Piece) (number m : ℕ) → records ≡ rest
    → IsIdle (joined rest) → TakesCommand n records pieces number m after → ⊥
no_command n records rest after pieces number m is idle t = begins_not_idle n records t.gap number t.begins
    (subst (λ r. IsIdle (joined r)) (sym is) idle)

-- The commands of records are determined.
pub lines_only : (n : ℕ) (records : List (List ℕ)) (cs ds : List Command) (m m' : ℕ) (rest rest' : List (List ℕ))
    → BeginsWithCommands n records cs m rest → IsIdle (joined rest) → BeginsWithCommands n records ds m' rest'
    → IsIdle (joined rest') → cs ≡ ds
lines_only n records [] [] m m' rest rest' b idle b' idle' = refl
lines_only n records [] (d ∷ ds) m m' rest rest' b idle b' idle' =
    absurd (no_command n records rest b'.3 b'.0 b'.1 b'.2 b.1 idle b'.4)
lines_only n records (c ∷ cs) [] m m' rest rest' b idle b' idle' =
    absurd (no_command n records rest' b.3 b.0 b.1 b.2 b'.1 idle' b.4)
lines_only n records (c ∷ cs) (d ∷ ds) m m' rest rest' b idle b' idle' =
    let s = command_only n records b.0 b'.0 b.1 b'.1 b.2 b'.2 b.3 b'.3 b.4 b'.4 in
    let first = value_only b.0 c d b.5 (subst (λ p. IsCommand p d) (sym s.0) b'.5) in
    let later = subst (λ k. BeginsWithCommands k b.3 ds m' rest') (sym s.2)
    (subst (λ r. BeginsWithCommands b'.2 r ds m' rest') (sym s.3) b'.6) in
    let more = lines_only b.2 b.3 cs ds m m' rest rest' b.6 idle later idle' in
    ap (λ x. x ∷ cs) first ∙ ap (λ l. d ∷ l) more

-- A file is one list of commands at most.
pub file_only : (bytes : List ℕ) (cs ds : List Command) → IsCommandFile bytes cs → IsCommandFile bytes ds → cs ≡ ds
file_only bytes cs ds f g =
    let same = records_only bytes f.0 g.0 f.3 g.3 in
    lines_only 1 f.0 cs ds f.2 g.2 f.1 g.1 f.4 f.5 (subst (λ r. BeginsWithCommands 1 r ds g.2 g.1) (sym same) g.4) g.5

-- Where a good command begins, none at fault does.
next_no_command : (n : ℕ) (records : List (List ℕ)) (fault : CntlFault) (pieces : List Piece) (number m : ℕ)
    (rest : List (List ℕ)) (c : Command) → IsNextFault n records fault → TakesCommand n records pieces number m rest
    → IsCommand pieces c → ⊥
next_no_command n records fault pieces number m rest c (inl f) t k =
    cut_fault_no_command n records fault.number number f.1 pieces m rest f.2 t
next_no_command n records fault pieces number m rest c (inr f) t k =
    let s = command_only n records pieces f.0 number fault.number m f.1 rest f.2 t f.3 in
    fault_no_value pieces c fault.code k (subst (λ p. IsCommandFault p fault.code) (sym s.0) f.4)

-- nor in records of gaps alone
next_not_idle : (n : ℕ) (records : List (List ℕ)) (fault : CntlFault) → IsNextFault n records fault
    → IsIdle (joined records) → ⊥
next_not_idle n records fault (inl f) idle = begins_not_idle n records f.2.gap fault.number f.2.begins idle
next_not_idle n records fault (inr f) idle = begins_not_idle n records f.3.gap fault.number f.3.begins idle

next_here : (n m : ℕ) (records rest : List (List ℕ)) (fault : CntlFault) → (n ≡ m) × (records ≡ rest)
    → IsNextFault m rest fault → IsNextFault n records fault
next_here n m records rest fault b f = subst (λ k. IsNextFault k records fault) (sym b.0)
    (subst (λ r. IsNextFault m r fault) (sym b.1) f)

-- Records that are commands have no fault behind good ones.
lines_no_fault : (n : ℕ) (records : List (List ℕ)) (cs ds : List Command) (m m' : ℕ) (rest rest' : List (List ℕ))
    (fault : CntlFault) → BeginsWithCommands n records cs m rest → IsIdle (joined rest)
    → BeginsWithCommands n records ds m' rest' → IsNextFault m' rest' fault → ⊥
lines_no_fault n records [] [] m m' rest rest' fault b idle b' f =
    next_not_idle n records fault (next_here n m' records rest' fault b' f)
    (subst (λ r. IsIdle (joined r)) (sym b.1) idle)
lines_no_fault n records [] (d ∷ ds) m m' rest rest' fault b idle b' f =
    no_command n records rest b'.3 b'.0 b'.1 b'.2 b.1 idle b'.4
lines_no_fault n records (c ∷ cs) [] m m' rest rest' fault b idle b' f =
    next_no_command n records fault b.0 b.1 b.2 b.3 c (next_here n m' records rest' fault b' f) b.4 b.5
lines_no_fault n records (c ∷ cs) (d ∷ ds) m m' rest rest' fault b idle b' f =
    let s = command_only n records b.0 b'.0 b.1 b'.1 b.2 b'.2 b.3 b'.3 b.4 b'.4 in
    let later = subst (λ k. BeginsWithCommands k b.3 ds m' rest') (sym s.2)
    (subst (λ r. BeginsWithCommands b'.2 r ds m' rest') (sym s.3) b'.6) in
    lines_no_fault b.2 b.3 cs ds m m' rest rest' fault b.6 idle later f

-- No file has both commands and a fault.
pub fault_no_file : (bytes : List ℕ) (cs : List Command) (fault : CntlFault) → IsCommandFile bytes cs
    → IsCommandFileFault bytes fault → ⊥
fault_no_file bytes cs fault f (inl g) = rec_fault_no_records bytes g.1 f.0 g.2 f.3
fault_no_file bytes cs fault f (inr g) =
    let same = records_only bytes f.0 g.0 f.3 g.4 in
    lines_no_fault 1 f.0 cs g.2 f.2 g.3 f.1 g.1 fault f.4 f.5
    (subst (λ r. BeginsWithCommands 1 r g.2 g.3 g.1) (sym same) g.5) g.6

fault_same : (f g : CntlFault) → f.number ≡ g.number → f.code ≡ g.code → f ≡ g
fault_same f g number code = ap (λ x. record f { number = x }) number ∙ ap (λ x. record g { code = x }) code

next_fault_only : (n : ℕ) (records : List (List ℕ)) (f g : CntlFault) → IsNextFault n records f
    → IsNextFault n records g → f ≡ g
next_fault_only n records f g (inl x) (inl y) = fault_same f g
    (cut_fault_only n records f.number g.number x.1 y.1 x.2 y.2).0 (x.0 ∙ sym y.0)
next_fault_only n records f g (inl x) (inr y) = absurd (cut_fault_no_command n records f.number g.number x.1 y.0 y.1 y.2
    x.2 y.3)
next_fault_only n records f g (inr x) (inl y) = absurd (cut_fault_no_command n records g.number f.number y.1 x.0 x.1 x.2
    y.2 x.3)
next_fault_only n records f g (inr x) (inr y) =
    let s = command_only n records x.0 y.0 f.number g.number x.1 y.1 x.2 y.2 x.3 y.3 in
    fault_same f g s.1 (fault_only x.0 f.code g.code x.4 (subst (λ p. IsCommandFault p g.code) (sym s.0) y.4))

lines_fault_only : (n : ℕ) (records : List (List ℕ)) (cs ds : List Command) (m m' : ℕ) (rest rest' : List (List ℕ))
    (f g : CntlFault) → BeginsWithCommands n records cs m rest → IsNextFault m rest f
    → BeginsWithCommands n records ds m' rest' → IsNextFault m' rest' g → f ≡ g
lines_fault_only n records [] [] m m' rest rest' f g b x b' y =
    next_fault_only n records f g (next_here n m records rest f b x) (next_here n m' records rest' g b' y)
lines_fault_only n records [] (d ∷ ds) m m' rest rest' f g b x b' y =
    absurd (next_no_command n records f b'.0 b'.1 b'.2 b'.3 d (next_here n m records rest f b x) b'.4 b'.5)
lines_fault_only n records (c ∷ cs) [] m m' rest rest' f g b x b' y =
    absurd (next_no_command n records g b.0 b.1 b.2 b.3 c (next_here n m' records rest' g b' y) b.4 b.5)
lines_fault_only n records (c ∷ cs) (d ∷ ds) m m' rest rest' f g b x b' y =
    let s = command_only n records b.0 b'.0 b.1 b'.1 b.2 b'.2 b.3 b'.3 b.4 b'.4 in
    let later = subst (λ k. BeginsWithCommands k b.3 ds m' rest') (sym s.2)
    (subst (λ r. BeginsWithCommands b'.2 r ds m' rest') (sym s.3) b'.6) in
    lines_fault_only b.2 b.3 cs ds m m' rest rest' f g b.6 x later y

-- The first fault of a file is determined.
pub file_fault_only : (bytes : List ℕ) (f g : CntlFault) → IsCommandFileFault bytes f → IsCommandFileFault bytes g
    → f ≡ g
file_fault_only bytes f g (inl x) (inl y) = fault_same f g (x.3
    ∙ ap rec_fault_record (rec_fault_only bytes x.1 y.1 x.2 y.2) ∙ sym y.3) (x.0 ∙ sym y.0)
file_fault_only bytes f g (inl x) (inr y) = absurd (rec_fault_no_records bytes x.1 y.0 x.2 y.4)
file_fault_only bytes f g (inr x) (inl y) = absurd (rec_fault_no_records bytes y.1 x.0 y.2 x.4)
file_fault_only bytes f g (inr x) (inr y) =
    let same = records_only bytes x.0 y.0 x.4 y.4 in
    lines_fault_only 1 x.0 x.2 y.2 x.3 y.3 x.1 y.1 f g x.5 x.6
    (subst (λ r. BeginsWithCommands 1 r y.2 y.3 y.1) (sym same) y.5) y.6
