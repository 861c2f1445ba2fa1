-- What computing the steps on literals unfolds.
use Rattle.std.specs.Prelude.{⊤}
use Rattle.sw_data.proofs.OnLiterals.{data_on_literals}
use Rattle.sw_rules.specs.Activating.{become_activated, finish_activate, pay}
use Rattle.sw_rules.specs.Caching.{add_cache, add_task, carry_out, drop_cache, settle_task}
use Rattle.sw_rules.specs.Calls.{note_call}
use Rattle.sw_rules.specs.Clients.{add_client, add_event, claim_client, claim_clients, end_event, leave, remove_client, remove_event, skip_waiting, take_control}
use Rattle.sw_rules.specs.Durable.{checkpoint_changes, durable}
use Rattle.sw_rules.specs.Forgetting.{forget_key, forget_registrations}
use Rattle.sw_rules.specs.Installing.{become_waiting, begin_install, end_handler, fail_install, fetch_ended, finish_install, install, keep_script, make_worker, owe_try_activate, reject_and_drop, remember, tell_update, throw}
use Rattle.sw_rules.specs.Jobs.{finish, promise, resolve_and_finish, schedule, settle}
use Rattle.sw_rules.specs.Preloading.{set_preload}
use Rattle.sw_rules.specs.Registering.{fetch_script, rejected, run_allowed_register, run_register, run_unregister, run_update, scheduled_by, unregister_mapped}
use Rattle.sw_rules.specs.Registrations.{activate, become, clear, drop_registration, map_registration, recheck, release, retire, set_mode, start_handler, take_over, try_activate, try_clear, unload, unmap}
use Rattle.sw_rules.specs.Step.{step}
use Rattle.sw_rules.specs.Told.{followed, keep}

-- what an answer unfolds to compute steps on a literal
unfoldable pub steps_on_literals : ⊤
unfolding data_on_literals pay become_activated finish_activate add_cache drop_cache carry_out add_task settle_task forget_registrations forget_key note_call add_client remove_client leave skip_waiting take_control claim_client claim_clients add_event remove_event end_event durable checkpoint_changes reject_and_drop keep_script make_worker fetch_ended throw remember begin_install tell_update install end_handler fail_install owe_try_activate become_waiting finish_install schedule settle finish resolve_and_finish promise set_preload rejected scheduled_by fetch_script run_allowed_register run_register run_update unregister_mapped run_unregister map_registration unmap drop_registration set_mode become retire start_handler take_over activate try_activate clear try_clear recheck release unload step keep followed
steps_on_literals = tt
