use Rattle.std.proofs.Common.{rules, ◌≡◌, ◌∙◌, ap, ap₂, codes, true, Some}
use Rattle.std.proofs.lemmas.Result.{IfOk-weaker}
use Rattle.clap.specs.Walk.{rule_of}
use Rattle.clap.specs.Simple.{app_of, app_of_fields, new_app, new_rule, with_rule, on_top}
use Rattle.bench_words.proofs.reading.command.Goals as goal

pub returns : goal.returns
returns c =
    let job_is : rule_of c.required-job.result ≡ record (new_rule (codes "job")) { required = true } = search rules in
    let workers_is : rule_of c.long-workers.result ≡ record (new_rule (codes "workers")) { long = Some (codes "workers") } = search rules in
    let number_is : rule_of c.long-number.result ≡ record (new_rule (codes "number")) { long = Some (codes "number") } = search rules in
    let top_is : app_of c.disable_help_flag-top.result ≡ on_top (λ s. record s { no_binary_name = true; disable_help_flag = true }) (new_app (codes "jesd_bench")) = ap app_of_fields c.disable_help_flag-top.ensures
    ∙ ap (on_top (λ s. record s { disable_help_flag = true })) (ap app_of_fields c.no_binary_name.ensures ∙ ap (on_top (λ s. record s { no_binary_name = true })) c.new-4.ensures.app) in
    IfOk-weaker c.arg-3.result _ _ (λ m h. h.shape (search rules)
    ∙ ap₂ with_rule (c.in_ok-arg-2.ensures.shape (search rules) ∙ ap₂ with_rule (c.in_ok-arg.ensures.shape (search rules) ∙ ap₂ with_rule top_is job_is) workers_is) number_is) c.arg-3.ensures
