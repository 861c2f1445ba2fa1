use Rattle.std.proofs.Common.{◌≡◌, Err, ℕ, List, length, sym, ◌∙◌, ap, subst, arith}
use Rattle.sw_data.specs.declared.storage.Kept.{Kept}
use Rattle.sw_disk.specs.DiskRule.{ForTold}
use Rattle.sw_journal.specs.Journal.{Since}
use Rattle.sw_kept.specs.Stored.{HasKept}
use Rattle.sw_store.proofs.Reopening.{opened_as}
use Rattle.sw_store.proofs.opening.resume.Goals as goal
use Rattle.sw_store.specs.declared.errors.OpenError.{OpenError}
use Rattle.sw_store.specs.declared.errors.OpenError.TheVariants as error
use Rattle.sw_store.specs.Opened.{HasNoRoom, IsOpened, kept_restarted}
use Rattle.sw_store.specs.Stores.{StoreState}
use Rattle.sw_twin.specs.Twin.{TwinState}

pub returns-in-Err-clause-known : goal.returns-in-Err-clause-known
returns-in-Err-clause-known g c =
    subst (λ (why : OpenError). IsOpened {T = StoreState} (Err why)) (sym c.unmade.ensures) (opened_as (Unit {0}) StoreState c.in-Err.error c.in-Err.ensures.known)

pub returns-in-Ok-clause-acknowledged : goal.returns-in-Ok-clause-acknowledged
returns-in-Ok-clause-acknowledged g c =
    let new = c.go_on.new.disk in
    subst (λ (k : Kept). ForTold (g.D.Disk.seen c.args.disk.now) (λ image. Since g.D.Disk new new (HasKept (kept_restarted k)))) c.in_ok-core.ensures.1 c.in-Ok.ensures.acknowledged

pub returns-in-Err-clause-full : goal.returns-in-Err-clause-full
returns-in-Err-clause-full g c from needed is =
    let told : c.unmade.result ≡ error.Full from needed = cc in
    subst (λ (t : TwinState). HasNoRoom g.D.Disk c.go_on.new.disk t.journal.limit from needed) c.in_ok-core.ensures.2
    (c.in-Err.ensures.full from needed (ap (λ (why : OpenError). Err why) (sym c.unmade.ensures ∙ told)))

pub invariant_of-result : goal.invariant_of-result
invariant_of-result g c =
    let none = c.new.ensures.payload in
    record {
      format = c.in-Ok.ensures.format;
      room = omega (arith, ap (λ (l : List ℕ). length l) none);
      fits = λ some. absurd (some none);
    }
