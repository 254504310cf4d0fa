use Rattle.std.proofs.Common.{◌≡◌, [], ◌∷◌, ◌++◌, ◌∙◌, ap, map}
use Rattle.std.specs.Prelude.{codes}
use Rattle.std.proofs.lemmas.List.{append_assoc}
use Rattle.machine.specs.Report.{words_line}
use Rattle.smpe_certificate.specs.Views.{certificate_view, digest_view}
use Rattle.smpe_certificate.specs.Text.{body_text, end_line, facts_text, inputs_text}
use Rattle.smpe_certificate.proofs.text.certificate_text.Goals as goal

pub returns : goal.returns
returns c =
    let inputs = map digest_view c.args.inputs.now in
    let facts = certificate_view c.args.certificate.now in
    let line = words_line (codes "CERTIFICATE" ∷ codes "1" ∷ []) in
    let first : c.append_words.new.text.items ≡ line =
    c.in_ok-append_words.ensures ∙ ap (λ t. t ++ line) c.new-text.ensures.items in
    let body : c.append_facts.new.text.items ≡ body_text inputs facts =
    c.in_ok-append_facts.ensures
    ∙ ap (λ t. t ++ facts_text facts) (c.in_ok-append_inputs.ensures ∙ ap (λ t. t ++ inputs_text inputs) first)
    ∙ append_assoc line (inputs_text inputs) (facts_text facts) in
    c.in_ok-append_end.ensures ∙ ap (λ t. t ++ end_line t) body
