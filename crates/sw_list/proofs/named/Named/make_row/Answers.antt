use Rattle.std.proofs.Common.{◌≡◌, ◌∙◌, subst}
use Rattle.sw_list.specs.Named.{HasLate, KeepsEarly, made_marks, marks_of}
use Rattle.sw_list.proofs.MarkLemmas.{early_found}
use Rattle.sw_list.proofs.named.Named.make_row.Goals as goal

pub invariant_of-self-in_err-put_ahead : goal.invariant_of-self-in_err-put_ahead
invariant_of-self-in_err-put_ahead g c =
    let was = c.self.inside in
    let keys = c.put_ahead.new.keys.entries in
    let next : c.next-next.result ≡ was.rows.next = c.next-next.ensures ∙ c.make_room.ensures.next in
    rw (c.make_room.ensures.rows, c.make_room.ensures.next) (
      early_found (marks_of was.rows.rows) was.keys.entries keys was.rows.next (subst (λ n. KeepsEarly n was.keys.entries keys) next c.put_ahead.ensures.early) c.self.invariant.0,
      c.self.invariant.1,
      c.self.invariant.2,
      subst (λ n. HasLate n (made_marks n c.put_ahead.new.ahead) keys) next c.put_ahead.ensures.late,
      c.put_ahead.ensures.bare c.self.invariant.4,
    )

pub invariant_of-self-2 : goal.invariant_of-self-2
invariant_of-self-2 g c =
    let was = c.self.inside in
    let keys = c.put_ahead.new.keys.entries in
    let next : c.next-next.result ≡ was.rows.next = c.next-next.ensures ∙ c.make_room.ensures.next in
    rw (c.make_room.ensures.rows, c.make_room.ensures.next) (
      early_found (marks_of was.rows.rows) was.keys.entries keys was.rows.next (subst (λ n. KeepsEarly n was.keys.entries keys) next c.put_ahead.ensures.early) c.self.invariant.0,
      c.self.invariant.1,
      c.self.invariant.2,
      subst (λ n. HasLate n (made_marks n c.put_ahead.new.ahead) keys) next c.put_ahead.ensures.late,
      c.put_ahead.ensures.bare c.self.invariant.4,
    )
