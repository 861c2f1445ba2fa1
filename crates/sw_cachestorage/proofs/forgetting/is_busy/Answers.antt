-- The first part that is busy makes the key busy.
use Rattle.std.proofs.Common.{◌≡◌, ◌∙◌, ◌&&◌, ap, arith, bytes_eq, is_none}
use Rattle.std.specs.List.{list_any}
use Rattle.sw_rules.specs.Rows.{is_unfinished}
use Rattle.sw_state.specs.Hosted.{Hosted, state_of}
use Rattle.sw_cachestorage.proofs.forgetting.is_busy.Goals as goal

pub returns-then-has_of-clause-busy : goal.returns-then-has_of-clause-busy
returns-then-has_of-clause-busy c =
    let client : c.has_of.result ≡ list_any (λ row. bytes_eq row.key c.args.key.now) (state_of c.args.host.now).clients =
    c.has_of.ensures ∙ ap (λ (h : Hosted). list_any (λ row. bytes_eq row.key c.args.key.now) (state_of h).clients) c.host.view_is in
    grind (arith, client, c.if-has_of.true)

pub returns-then-has_unfinished_of-clause-busy : goal.returns-then-has_unfinished_of-clause-busy
returns-then-has_unfinished_of-clause-busy c =
    let client : c.has_of.result ≡ list_any (λ row. bytes_eq row.key c.args.key.now) (state_of c.args.host.now).clients =
    c.has_of.ensures ∙ ap (λ (h : Hosted). list_any (λ row. bytes_eq row.key c.args.key.now) (state_of h).clients) c.host.view_is in
    let job : c.has_unfinished_of.result ≡ list_any (λ row. is_unfinished row && bytes_eq row.job.key c.args.key.now) (state_of c.args.host.now).jobs =
    c.has_unfinished_of.ensures ∙ ap (λ (h : Hosted). list_any (λ row. is_unfinished row && bytes_eq row.job.key c.args.key.now) (state_of h).jobs) c.host.view_is in
    grind (arith, client, c.if-has_of.false, job, c.if-has_unfinished_of.true)

pub returns-then-has_pending_of-clause-busy : goal.returns-then-has_pending_of-clause-busy
returns-then-has_pending_of-clause-busy c =
    let client : c.has_of.result ≡ list_any (λ row. bytes_eq row.key c.args.key.now) (state_of c.args.host.now).clients =
    c.has_of.ensures ∙ ap (λ (h : Hosted). list_any (λ row. bytes_eq row.key c.args.key.now) (state_of h).clients) c.host.view_is in
    let job : c.has_unfinished_of.result ≡ list_any (λ row. is_unfinished row && bytes_eq row.job.key c.args.key.now) (state_of c.args.host.now).jobs =
    c.has_unfinished_of.ensures ∙ ap (λ (h : Hosted). list_any (λ row. is_unfinished row && bytes_eq row.job.key c.args.key.now) (state_of h).jobs) c.host.view_is in
    grind (arith, client, c.if-has_of.false, job, c.if-has_unfinished_of.false, c.has_pending_of.ensures.either, c.if-has_pending_of.true)

pub returns-clause-busy : goal.returns-clause-busy
returns-clause-busy c =
    let client : c.has_of.result ≡ list_any (λ row. bytes_eq row.key c.args.key.now) (state_of c.args.host.now).clients =
    c.has_of.ensures ∙ ap (λ (h : Hosted). list_any (λ row. bytes_eq row.key c.args.key.now) (state_of h).clients) c.host.view_is in
    let job : c.has_unfinished_of.result ≡ list_any (λ row. is_unfinished row && bytes_eq row.job.key c.args.key.now) (state_of c.args.host.now).jobs =
    c.has_unfinished_of.ensures ∙ ap (λ (h : Hosted). list_any (λ row. is_unfinished row && bytes_eq row.job.key c.args.key.now) (state_of h).jobs) c.host.view_is in
    let task : c.has_unsettled_of.result ≡ list_any (λ row. is_none row.settled && bytes_eq row.key c.args.key.now) (state_of c.args.host.now).tasks =
    c.has_unsettled_of.ensures ∙ ap (λ (h : Hosted). list_any (λ row. is_none row.settled && bytes_eq row.key c.args.key.now) (state_of h).tasks) c.host.view_is in
    grind (arith, client, c.if-has_of.false, job, c.if-has_unfinished_of.false, c.has_pending_of.ensures.either, c.if-has_pending_of.false, task)
