use Rattle.std.proofs.Common.{◌≡◌, ◌++◌, ◌∙◌, ℕ, List, Err, Some, ap, sym, subst}
use Rattle.sw_codec.specs.Spelling.{spelled_all}
use Rattle.sw_data.specs.declared.storage.Kept.{Kept}
use Rattle.sw_kept.specs.Keeping.{KeepsNow}
use Rattle.sw_rules.specs.Step.{changes_of}
use Rattle.sw_store.proofs.Reopening.{keeps_with_room}
use Rattle.sw_store.proofs.store.Store.apply.Given.{Over}
use Rattle.sw_store.proofs.store.Store.apply.Goals as goal
use Rattle.sw_store.proofs.store.Store.apply.Goals.{After-commit}
use Rattle.sw_store.specs.Groups.{IsTooLong}
use Rattle.sw_store.specs.Stores.{StoreState}
use Rattle.sw_twin.specs.Twin.{TwinState}
use Rattle.sw_state.specs.Hosted.{state_of}

-- the payload is the event's changes
payload_is : (g : Over) (c : After-commit g) → c.stage.new.self.payload ≡ c.in-Ok.ensures.staged.more
payload_is g c =
    let staged = c.in-Ok.ensures.staged in
    ap (λ (s : StoreState). s.payload) staged.rest ∙ ap (λ (l : List ℕ). l ++ staged.more) c.requires.payload

spelled_is : (g : Over) (c : After-commit g) → spelled_all (changes_of (state_of c.args.self.now.core) c.args.event) ≡ Some c.stage.new.self.payload
spelled_is g c = c.in-Ok.ensures.staged.spelled ∙ ap (λ (l : List ℕ). Some l) (sym (payload_is g c))

keeps_still : (g : Over) (c : After-commit g) (kept : Kept) → KeepsNow c.args.self.now.twin kept g.D.Disk c.args.disk.now → KeepsNow c.stage.new.self.twin kept g.D.Disk c.args.disk.now
keeps_still g c kept keeps =
    let now = c.args.disk.now in
    subst (λ (t : TwinState). KeepsNow t kept g.D.Disk now) (sym (ap (λ (s : StoreState). s.twin) c.in-Ok.ensures.staged.rest))
    (keeps_with_room g.D.Disk now c.args.self.now.twin c.stage.new.self.twin.journal.spare kept keeps)

pub unreachable-requires : goal.unreachable-requires
unreachable-requires g c =
    let broken = c.in-Err-Broken-commit in
    let since = (c.commit.ensures.broken broken.field-0-0).0 (broken.is ∙ ap (λ e. Err e) broken.field-0-is) in
    let was = sym (ap (λ (s : StoreState). s.since) c.in-Ok.ensures.staged.rest) ∙ since in
    let not_ok = (c.in-Ok.ensures.broken broken.field-0-0).1 was in
    cc

pub returns-in-Ok-commit-clause-keeps : goal.returns-in-Ok-commit-clause-keeps
returns-in-Ok-commit-clause-keeps g c kept keeps =
    let after = (goal.at.returns-in-Ok-commit-clause-keeps g c).After-commit in
    c.in-Ok-commit.ensures.keeps kept (changes_of (state_of c.args.self.now.core) c.args.event) (spelled_is g after) (keeps_still g after kept keeps)

pub returns-in-Ok-commit-clause-acknowledged : goal.returns-in-Ok-commit-clause-acknowledged
returns-in-Ok-commit-clause-acknowledged g c kept keeps =
    let after = (goal.at.returns-in-Ok-commit-clause-acknowledged g c).After-commit in
    c.in-Ok-commit.ensures.acknowledged kept (changes_of (state_of c.args.self.now.core) c.args.event) (spelled_is g after) (keeps_still g after kept keeps)

pub returns-in-Ok-commit-clause-broken : goal.returns-in-Ok-commit-clause-broken
returns-in-Ok-commit-clause-broken g c since = (λ is. absurd cc, λ was. let not_ok = (c.in-Ok.ensures.broken since).1 was in absurd cc)

pub returns-in-Err-DiskFault-clause-broken : goal.returns-in-Err-DiskFault-clause-broken
returns-in-Err-DiskFault-clause-broken g c since = (λ is. absurd cc, λ was. let not_ok = (c.in-Ok.ensures.broken since).1 was in absurd cc)

pub returns-in-Err-NoMemory-clause-broken : goal.returns-in-Err-NoMemory-clause-broken
returns-in-Err-NoMemory-clause-broken g c since =
    let arm = c.in-Err-NoMemory in
    (λ is. absurd cc, λ was. let other = (c.stage.ensures.broken since).1 was in let this = arm.is in let what = arm.field-0-is in absurd cc)

pub returns-in-Err-Full-clause-broken : goal.returns-in-Err-Full-clause-broken
returns-in-Err-Full-clause-broken g c since =
    let arm = c.in-Err-Full in
    (λ is. absurd cc, λ was. let other = (c.stage.ensures.broken since).1 was in let this = arm.is in let what = arm.field-0-is in absurd cc)

pub returns-in-Err-Full-clause-full : goal.returns-in-Err-Full-clause-full
returns-in-Err-Full-clause-full g c refused from needed is =
    let arm = c.in-Err-Full in
    let this = arm.is in
    let what = arm.field-0-is in
    let told = c.stage.ensures.full refused from needed cc in
    (told.0, told.2, subst (λ (payload : List ℕ). IsTooLong (changes_of (state_of c.args.self.now.core) c.args.event) payload c.args.self.now.twin needed) c.requires.payload told.3)

pub returns-in-Err-Broken-clause-broken : goal.returns-in-Err-Broken-clause-broken
returns-in-Err-Broken-clause-broken g c since =
    let arm = c.in-Err-Broken in
    let this = arm.is in
    let what = arm.field-0-is in
    (λ is. (c.stage.ensures.broken since).0 cc, λ was. let other = (c.stage.ensures.broken since).1 was in cc)
