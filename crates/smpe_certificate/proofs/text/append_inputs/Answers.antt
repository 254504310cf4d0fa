use Rattle.std.proofs.Common.{ℕ, List, [], ◌++◌, ◌∙◌, ap, sym, arith, take, take_all, get_or}
use Rattle.std.specs.List.{flat_map}
use Rattle.std.proofs.lemmas.List.Folds.{flat_map-map}
use Rattle.smpe_certificate.specs.Text.{input_line}
use Rattle.smpe_certificate.specs.Views.{digest_view}
use Rattle.std.proofs.lemmas.List.{append_assoc}
use Rattle.report.proofs.Texts.{flat_map_more}
use Rattle.smpe_certificate.specs.declared.digest.Digest.{Digest}
use Rattle.smpe_certificate.proofs.text.append_inputs.Goals as goal

pub loop-input-preserved : goal.loop-input-preserved
loop-input-preserved c =
    let none : Digest = record {
      name = record { ref_ptr = (0, 0); now = [] };
      suffix = record { ref_ptr = (0, 0); now = [] };
      sha256 = [];
    } in
    let f : Digest → List ℕ = λ d. input_line (digest_view d) in
    let inputs = c.args.inputs.now in
    let i = c.loop-input.input-index in
    let old = c.args.text.now.items in
    c.in_ok-append_input.ensures ∙ ap (λ t. t ++ f (get_or inputs i none)) c.loop-input.invariant
    ∙ append_assoc old (flat_map f (take i inputs)) (f (get_or inputs i none))
    ∙ ap (λ t. old ++ t) (flat_map_more f inputs i none c.loop-input-test.true)

pub returns : goal.returns
returns c =
    c.loop-input.invariant
    ∙ ap (λ l. c.args.text.now.items ++ flat_map (λ f. input_line (digest_view f)) l)
    (take_all c.loop-input.input-index c.args.inputs.now (omega arith))
    ∙ ap (λ l. c.args.text.now.items ++ l) (sym (flat_map-map input_line digest_view c.args.inputs.now))
