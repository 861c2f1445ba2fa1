use Rattle.std.proofs.Common.{◌∙◌, sym}
use Rattle.sw_tables.proofs.OfClients.{used_shown}
use Rattle.sw_tables.proofs.found.used_registration.Goals as goal

pub returns : goal.returns
returns c = λ scopes of_workers of_registrations rest noted.
    c.registration.ensures ∙ sym (used_shown c.args.client scopes of_workers of_registrations c.args.clients.now rest noted)
