use Rattle.std.proofs.Common.{List, ℕ, ◌∙◌, ◌<◌, ◌++◌, ◌∷◌, [], ◌≡◌, Option, None, length, map, sym, ap, subst, if◌then◌else◌}
use Rattle.std.specs.Prelude.{◌&&◌, bytes_eq}
use Rattle.sw_data.specs.declared.rows.JobRow.{JobRow}
use Rattle.sw_rules.specs.Rows.{is_done, is_waiting}
use Rattle.sw_queue.specs.Kept.{number}
use Rattle.sw_queue.specs.Lines.{line_in}
use Rattle.sw_queue.specs.Ready.{may_start}
use Rattle.sw_queue.specs.Tables.{HasPlace, Table, joined_in}
use Rattle.sw_queue.proofs.Keeping.{kept_is, kept_joined, kept_queued}
use Rattle.sw_queue.proofs.Marking.{marked_more, starting_more}
use Rattle.sw_queue.proofs.Rooms.{spare_in}
use Rattle.sw_queue.proofs.Running.{joined_below}
use Rattle.sw_queue.proofs.Tallying.{tallied_more}
use Rattle.sw_queue.proofs.queues.Queues.schedule_put.Goals as goal
use Rattle.sw_queue.proofs.queues.Queues.schedule_put.Goals.{in-Some, in-None}

pub add-requires-in-None : goal.add-requires-in-None
add-requires-in-None c =
    let row = c.row.inside.row in
    let lines = c.self.inside.index in
    let place = subst (λ (r : JobRow). HasPlace c.args.self.now.room r.job r.leader) (sym c.row.view_is) c.requires.place in
    let own = subst (λ (t : Table). HasPlace t.room row.job None) (sym c.self.view_is)
    (subst (λ (l : Option ℕ). HasPlace c.args.self.now.room row.job l) c.in-None.is place) in
    subst (λ (key : List ℕ). 0 < (line_in lines key c.as_bytes-in-None.result.now).spare) (sym c.as_bytes.ensures)
    (subst (λ (scope : List ℕ). 0 < (line_in lines row.job.key scope).spare) (sym c.as_bytes-in-None.ensures)
    (subst (λ n. 0 < n) (spare_in lines row.job.key row.job.scope) own))

pub invariant_of-self : goal.invariant_of-self
invariant_of-self c =
    let rows = c.self.inside.rows.items in
    let lists = c.self.inside.followers.lists in
    let lines = c.self.inside.index in
    let row = c.row.inside.row in
    let kept = c.self.invariant.kept in
    let own = ap number c.row.view_is ∙ (c.requires.number ∙ ap (λ (t : Table). length t.rows) (sym c.self.view_is)) in
    let new_is = c.row.view_is ∙ c.requires.row in
    let after = c.match-row.self-inside.index in
    elim c.match-row.branch [
      | in-Some w ↦
          let leader = w.in-Some.leader in
          let joined = ap (λ (t : Table). joined_in t.rows c.args.row.job) c.self.view_is
          ∙ (sym (ap (λ (r : JobRow). r.leader) c.requires.row) ∙ (sym (ap (λ (r : JobRow). r.leader) c.row.view_is) ∙ w.in-Some.is)) in
          let below = joined_below rows kept.numbers c.args.row.job leader joined in
          let rows_are = c.push_reserved.ensures.items ∙ ap (λ inside. inside.rows.items ++ row ∷ []) w.self-inside-is in
          record {
            kept = kept_is _ _ _ _ _ _ rows_are
                (c.begin.ensures ∙ (ap (λ inside. inside.followers.lists ++ [] ∷ []) w.self-inside-is ∙ ap (λ (l : List (List ℕ)). l ++ [] ∷ []) w.add.ensures.lists))
                (ap (λ inside. inside.index) w.self-inside-is)
                (kept_joined rows lists lines lines row kept own leader w.in-Some.is below);
            marked = marked_more rows _ lines after c.self.inside.ready c.match-row.self-inside.ready _ row _ c.self.invariant.marked
                (ap (λ inside. map (may_start inside.index) rows) w.self-inside-is)
                (ap (λ (r : JobRow). is_waiting r.phase) new_is) c.may_start.ensures (ap (λ inside. inside.ready) w.self-inside-is) rows_are c.add-2.ensures;
            tallied = tallied_more rows _ c.self.inside.keys c.match-row.self-inside.keys c.count_key.new.keys row c.row.inside.key c.self.invariant.tallied
                (ap (λ (r : JobRow). is_done r.phase) new_is) c.row.invariant.1 (ap (λ inside. inside.keys) w.self-inside-is) c.count_key.ensures rows_are;
          }
      | in-None w ↦
          let done = ap (λ (r : JobRow). is_done r.phase) new_is in
          let rows_are = c.push_reserved.ensures.items ∙ ap (λ inside. inside.rows.items ++ row ∷ []) w.self-inside-is in
          let added : (key scope : List ℕ) → (line_in w.add-in-None.new.self key scope).numbers
          ≡ (if bytes_eq row.job.key key && bytes_eq row.job.scope scope then (line_in lines key scope).numbers ++ number row ∷ []
          else (line_in lines key scope).numbers) =
          λ key scope.
          w.add-in-None.ensures key scope
          ∙ (λ i. if bytes_eq (w.as_bytes.ensures i) key && bytes_eq (w.as_bytes-in-None.ensures i) scope
          then (line_in lines key scope).numbers ++ number row ∷ [] else (line_in lines key scope).numbers) in
          record {
            kept = kept_is _ _ _ _ _ _ rows_are
                (c.begin.ensures ∙ ap (λ inside. inside.followers.lists ++ [] ∷ []) w.self-inside-is)
                (ap (λ inside. inside.index) w.self-inside-is)
                (kept_queued rows lists lines w.add-in-None.new.self row kept own w.in-None.is done added);
            marked = marked_more rows _ lines after c.self.inside.ready c.match-row.self-inside.ready _ row _ c.self.invariant.marked
                (ap (λ inside. map (may_start inside.index) rows) w.self-inside-is
                ∙ starting_more rows lines w.add-in-None.new.self row kept.numbers own added)
                (ap (λ (r : JobRow). is_waiting r.phase) new_is) c.may_start.ensures (ap (λ inside. inside.ready) w.self-inside-is) rows_are c.add-2.ensures;
            tallied = tallied_more rows _ c.self.inside.keys c.match-row.self-inside.keys c.count_key.new.keys row c.row.inside.key c.self.invariant.tallied
                (ap (λ (r : JobRow). is_done r.phase) new_is) c.row.invariant.1 (ap (λ inside. inside.keys) w.self-inside-is) c.count_key.ensures rows_are;
          }
    ]
