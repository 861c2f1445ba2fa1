-- What may cross threads: the value under the lock where its disk may, also with a publisher of its entries; a looker; and what a
-- closure captures.
use Rattle.std.proofs.Common.{ℕ, List, [], ◌∷◌}
use Rattle.std.proofs.Crossing.{crosses, send, sync}
use denote.Param.Send.{IsSend, IsSync, sendable, view_send}
use denote.Param.SendFields.{declared_send, declared_sync}
use denote.RattleType.{RattleType}
use denote.Struct.Tuple.{TupleAt}
use Rattle.left_right.proofs.reader.Reader.TheSendSync as reader
use Rattle.left_right.proofs.writer.Writer.TheSendSync as writer
use Rattle.logbook.proofs.word.Word.TheSendSync as word
use Rattle.sw_data.specs.declared.histories.Entry.{Entry}
use Rattle.sw_disk.specs.declared.disk.Disk.{Ghosts}
use Rattle.sw_lock.specs.declared.logged.Logged as logged
use Rattle.sw_pool.specs.contracts.yard.Yard as Yard
use Rattle.sw_pool.specs.contracts.yard.Yard.TheInside as Inside
use Rattle.sw_pool.specs.contracts.ends.Nothing as Nothing
use Rattle.sw_pool.specs.contracts.ends.Turned as Turned
use Rattle.sw_pool.specs.contracts.yard.YardLogged.TheImpl as of_logged
use Rattle.sw_pool.specs.contracts.yard.YardMapped.TheImpl as of_mapped
use Rattle.sw_scope.proofs.scope_map.ScopeMap.TheSendSync as scope_map
use Rattle.sw_turns.proofs.ends.DriveEnd.TheSendSync as drive_end
use Rattle.sw_turns.proofs.progress.Progress.TheSendSync as progress
use Rattle.sw_view.proofs.front.Front.TheSendSync as front
use Rattle.sw_view.proofs.shown.Step.TheSendSync as step
use Rattle.sw_view.specs.contracts.looker.Looker as Looker
use Rattle.sw_view.specs.contracts.looker.Looker.TheInside as LookerInside
use Rattle.sw_view.specs.contracts.publisher.Publisher as Publisher
use Rattle.sw_view.specs.contracts.publisher.Publisher.TheInside as PublisherInside
use Rattle.sw_view.specs.contracts.shown.Shown as Shown
use Rattle.sw_view.specs.contracts.watched.Watched as Watched
use Rattle.sw_view.specs.contracts.watched.Watched.TheInside as WatchedInside
use Rattle.sw_view.specs.declared.mapped.Mapped as mapped

pub captured_sync : (A B C : RattleType) → IsSync A → IsSync B → IsSync C → IsSync (TupleAt [] (A ∷ B ∷ C ∷ []))
captured_sync A B C a b c = search sendable depth 20

pub captured_send : (name : List ℕ) (A B C D : RattleType) → IsSend A → IsSend B → IsSend C → IsSend D → IsSend (TupleAt name (A ∷ B ∷ C ∷ D ∷ []))
captured_send name A B C D a b c d = search sendable depth 20

-- field by field: a search over all of them takes more steps than it may
inside_send : (D : RattleType) (disk : Ghosts D.Denot) → IsSend D → IsSend (Inside.the_row D disk)
inside_send D disk d =
    declared_send (Inside.the_type D disk) (
      search (send, sendable) depth 20,
      (
        search sendable,
        (
          search (progress.the_send, sendable) depth 20,
          (
            search (drive_end.the_send, sendable) depth 20,
            (search sendable, (search sendable depth 20, (search sendable depth 20, (search sendable depth 20, tt)))),
          ),
        ),
      ),
    )

pub yard_send : (D : RattleType) (disk : Ghosts D.Denot) → IsSend D → IsSend (Yard.the_row D disk)
yard_send D disk d = view_send (Inside.the_row D disk) _ _ _ _ (inside_send D disk d)

-- ---- a view

shown_sync : IsSync Shown.the_row
shown_sync = declared_sync Shown.the_type (sync, (scope_map.the_sync, (search crosses, (front.the_sync, (search (crosses, sendable) depth 20, (search sendable, tt))))))

shown_send : IsSend Shown.the_row
shown_send = declared_send Shown.the_type (send, (scope_map.the_send, (search crosses, (front.the_send, (search (crosses, sendable) depth 20, (search sendable, tt))))))

looker_inside : IsSend LookerInside.the_row
looker_inside = declared_send LookerInside.the_type (search (reader.the_send, shown_sync, send, sync, crosses, sendable) depth 20, (search sendable depth 20, (front.the_send, tt)))

pub looker_send : IsSend Looker.the_row
looker_send = view_send LookerInside.the_row _ _ _ _ looker_inside

publisher_inside : IsSend PublisherInside.the_row
publisher_inside = declared_send PublisherInside.the_type (
  search (writer.the_send, shown_sync, shown_send, step.the_send, send, sync, crosses, sendable) depth 20,
  (search (word.the_send, sendable) depth 20, (search crosses, (front.the_send, (search sendable, tt)))),
)

publisher_send : IsSend Publisher.the_row
publisher_send = view_send PublisherInside.the_row _ _ _ _ publisher_inside

pub watched_send : (T R G O : RattleType) (mapped : mapped.Ghosts T.Denot G.Denot O.Denot) (logged : logged.Ghosts T.Denot Entry G.Denot O.Denot) → IsSend T → IsSend R
    → IsSend (Watched.the_row T R G O mapped logged)
watched_send T R G O mapped logged t r =
    view_send (WatchedInside.the_row T R G O mapped logged) _ _ _ _ (declared_send (WatchedInside.the_type T R G O mapped logged) (search (t, sendable), (search (publisher_send, sendable), (search (r, sendable), tt))))

-- that of a run, whose disk may
pub watched_yard_send : (D W : RattleType) (disk : Ghosts D.Denot) (dict : _) → IsSend D → IsSend W
    → IsSend (Watched.the_row (Yard.the_row D disk) W Nothing.the_row Turned.the_row (of_mapped.ghosts D disk dict) (of_logged.ghosts D disk dict))
watched_yard_send D W disk dict d w =
    watched_send (Yard.the_row D disk) W Nothing.the_row Turned.the_row (of_mapped.ghosts D disk dict) (of_logged.ghosts D disk dict) (yard_send D disk d) w
