use Rattle.std.proofs.Common.{◌∙◌, ◌++◌, ◌&&◌, [], not, cond, filter, ap, sym, append_assoc, append-nil}
use Rattle.std.specs.List.{flat_map}
use Rattle.std.specs.Str.{bytes_eq}
use Rattle.std.proofs.lemmas.Result.{IfOk-equal}
use Rattle.terms.specs.Types.{Id}
use Rattle.terms.specs.Lookups.{is_in, is_applied, is_function, applied_ids}
use Rattle.terms.specs.Over.{chain}
use Rattle.terms.specs.Deleted.{deletions}
use Rattle.zones.specs.Scopes.{global_of, choice_of}
use Rattle.terms.proofs.Searches.{filter_twice}
use Rattle.report.specs.Facts.{stated_by, conditions_of, others_applied}
use Rattle.judge_needs.proofs.Stating.{applied_left}
use Rattle.why_facts.specs.Asking.{setting_in, view_in, is_there}
use Rattle.why_facts.proofs.requisites.push_all_ifreqs.Goals as goal

pub returns-then-not-is_function : goal.returns-then-not-is_function
returns-then-not-is_function c =
    let a = c.args.asking.now in
    let ch = choice_of a.scope in
    let old = c.args.found.now.items in
    let own = conditions_of ch (is_there a) a.id in
    let others = flat_map (conditions_of ch (bytes_eq a.id)) (others_applied (setting_in a) a.id) in
    c.in_ok-push_own_ifreqs.ensures
    ∙ ap (λ ifs. old ++ flat_map (stated_by a.id) (filter (λ i. is_there a i.function) ifs)) c.ifs.ensures
    ∙ ap (λ l. old ++ l) (sym (append-nil own) ∙ ap (λ b. own ++ cond b others [])
    (c.if-not-is_function.ensures ∙ ap (λ g. is_function g a.id) c.global.ensures))

pub returns : goal.returns
returns c =
    let a = c.args.asking.now in
    let g = global_of a.scope in
    let ch = choice_of a.scope in
    let zone = a.scope.zone.now in
    let seen = deletions ch (filter (is_in a.scope.ids.now) (chain g ch a.id)) in
    let old = c.args.found.now.items in
    let own = conditions_of ch (is_there a) a.id in
    let stated = conditions_of ch (bytes_eq a.id) in
    let other = λ (y : Id). is_applied (view_in a) y && not (bytes_eq a.id y) in
    IfOk-equal c.push_ifreqs_of_others.result c.push_ifreqs_of_others.new.found.items _ _
    c.push_ifreqs_of_others.ensures
    (ap (λ l. l ++ flat_map stated (filter other a.applied.now)) (c.in_ok-push_own_ifreqs.ensures
    ∙ ap (λ ifs. old ++ flat_map (stated_by a.id) (filter (λ i. is_there a i.function) ifs)) c.ifs.ensures)
    ∙ append_assoc old own (flat_map stated (filter other a.applied.now))
    ∙ ap (λ ids. old ++ (own ++ flat_map stated ids))
    (ap (filter other) a.applied_is
    ∙ sym (filter_twice (is_applied (view_in a)) (λ y. not (bytes_eq a.id y)) (applied_ids zone))
    ∙ ap (filter (λ y. not (bytes_eq a.id y))) (sym (applied_left g ch seen zone a.zone_is)))
    ∙ ap (λ b. old ++ (own ++ cond b (flat_map stated (others_applied (setting_in a) a.id)) []))
    (c.if-not-is_function.ensures ∙ ap (λ g. is_function g a.id) c.global.ensures))
