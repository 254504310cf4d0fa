use Rattle.std.proofs.Common.{◌≡◌, ◌<◌, ◌+◌, ◌∙◌, ◌++◌, ◌∷◌, [], ℕ, List, ap, sym, append-nil, length, take, get_or, arith}
use Rattle.std.proofs.lemmas.List.{length-append, take_all, take_more}
use Rattle.std.proofs.lemmas.List.Concat.{flat_map-append}
use Rattle.intake_read.specs.declared.items.WideFile.{WideFile}
use Rattle.intake_sysmod.specs.Users.{run_of}
use Rattle.intake_service.proofs.carried.count_stated.Goals as goal

one_more : (files : List WideFile) (i : ℕ) (file : WideFile) → i < length files → file ≡ get_or files i file
    → length (run_of (take (i + 1) files)) ≡ length (run_of (take i files)) + length file.sysmods.items
one_more files i file below at =
    ap (λ l. length (run_of l)) (take_more files i file below ∙ ap (λ f. take i files ++ f ∷ []) (sym at))
    ∙ ap length (flat_map-append (λ (f : WideFile). f.sysmods.items) (take i files) (file ∷ []))
    ∙ length-append (run_of (take i files)) (file.sysmods.items ++ [])
    ∙ ap (λ l. length (run_of (take i files)) + length l) (append-nil file.sysmods.items)

pub loop-file-preserved : goal.loop-file-preserved
loop-file-preserved c =
    let grown = one_more c.args.files.now c.loop-file.file-index c.file-item.result (omega arith) c.file-item.is in
    let was = c.loop-file.invariant in
    grind (arith, grown, was)

pub returns : goal.returns
returns c =
    c.loop-file.invariant ∙ ap (λ l. length (run_of l)) (take_all c.loop-file.file-index c.args.files.now (omega arith))
