use Rattle.std.proofs.Common.{◌≡◌, ◌+◌, sym, subst}
use Rattle.sw_rules.specs.Step.{changes_of}
use Rattle.sw_store.proofs.Happened.{full_is, no_room_is, too_long}
use Rattle.sw_store.proofs.staging.place.Goals as goal
use Rattle.sw_store.specs.declared.errors.StageError.TheVariants as error
use Rattle.sw_store.specs.Groups.{IsTooLong}
use Rattle.sw_state.specs.Hosted.{state_of}

pub returns-then-passes-clause-full : goal.returns-then-passes-clause-full
returns-then-passes-clause-full c refused from needed is =
    let twin = c.args.twin.now in
    let changes = changes_of (state_of c.args.core.now) c.args.event in
    let told : c.too_long.result ≡ error.Full refused from needed = cc in
    let p = full_is c.args.group.now.entries c.args.event (twin.journal.gate + 1) _ c.too_long.result c.too_long.ensures.full c.too_long.ensures.no_room refused from needed told in (
      p.0,
      p.1,
      p.2,
      subst (IsTooLong changes c.args.group.now.payload twin) (sym p.3)
          (too_long changes c.args.more.now c.payload.result.now c.args.group.now.payload twin c.requires.spelled c.requires.format c.is_empty.result c.is_empty.ensures c.if-not-is_empty.true c.payload.ensures
          (c.passes.ensures.long c.if-passes.true)),
    )

pub returns-then-passes-clause-no_room : goal.returns-then-passes-clause-no_room
returns-then-passes-clause-no_room c refused is =
    let twin = c.args.twin.now in
    let changes = changes_of (state_of c.args.core.now) c.args.event in
    let told : c.too_long.result ≡ error.NoRoom refused = cc in
    let p = no_room_is c.args.group.now.entries c.args.event (twin.journal.gate + 1) _ c.too_long.result c.too_long.ensures.full c.too_long.ensures.no_room refused told in (
      p.0,
      p.1,
      (
        _,
        too_long changes c.args.more.now c.payload.result.now c.args.group.now.payload twin c.requires.spelled c.requires.format c.is_empty.result c.is_empty.ensures c.if-not-is_empty.true c.payload.ensures
            (c.passes.ensures.long c.if-passes.true),
      ),
    )
