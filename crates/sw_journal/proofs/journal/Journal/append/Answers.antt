use Rattle.std.proofs.Common.{rules, arith, ◌≡◌, ◌+◌, ◌-◌, length, ◌∙◌, ap, vec_capacity, ℕ}
use Rattle.sw_journal.specs.Format.{format_2, needed_length}
use Rattle.sw_journal.specs.Journal.{JournalState}
use Rattle.sw_journal.specs.Version.{format_at}
use Rattle.sw_journal.proofs.Appends.{IsAppend, inside, put_record, added, acknowledged, any_moment, since_entry, since_start, stands_more}
use Rattle.sw_journal.proofs.journal.Journal.append.Given.{Over}
use Rattle.sw_journal.proofs.journal.Journal.append.Goals as goal
use Rattle.sw_journal.proofs.journal.Journal.append.Goals.{After-deref}

-- what is handed on is what the journal appends
spelled : (g : Over) (c : After-deref g) → IsAppend c.args.self.now c.args.payload.now c.self.inside.part c.self.inside.gate c.deref.result.now
spelled g c =
    let format_is : c.args.self.now.format ≡ format_2 = c.requires.format in
    let payload = c.args.payload.now in
    let count_is : c.self.inside.count ≡ c.args.self.now.count = ap (λ (j : JournalState). j.count) c.self.view_is in
    record {
      part_is = ap (λ (j : JournalState). j.part) c.self.view_is;
      gate_is = ap (λ (j : JournalState). j.gate) c.self.view_is;
      bytes_are = cc (c.deref.ensures.value, c.spell_record.ensures.spelled);
      second = format_is;
      few = omega (arith, c.self.invariant, count_is);
      short = search rules;
    }

pub add_record-requires-clause-inside : goal.add_record-requires-clause-inside
add_record-requires-clause-inside g c = inside (spelled g (goal.at.add_record-requires-clause-inside g c).After-deref) g.D.Disk c.args.disk.now c.args.disk.now c.requires.stands

pub returns-in-Ok-clause-bytes : goal.returns-in-Ok-clause-bytes
returns-in-Ok-clause-bytes g c = put_record (spelled g (goal.at.returns-in-Ok-clause-bytes g c).After-deref) g.D.Disk c.args.disk.now c.add_record.new.disk c.requires.stands c.in-Ok.ensures.opened

pub returns-in-Ok-clause-added : goal.returns-in-Ok-clause-added
returns-in-Ok-clause-added g c =
    added (spelled g (goal.at.returns-in-Ok-clause-added g c).After-deref) g.D.Disk c.args.disk.now c.add_record.new.disk c.requires.stands (returns-in-Ok-clause-bytes g c)

pub returns-in-Ok-clause-stands : goal.returns-in-Ok-clause-stands
returns-in-Ok-clause-stands g c =
    let i = c.self.inside in
    let journal = c.args.self.now in
    let needs : c.needed-needed.result ≡ needed_length (format_at i.version) (length c.args.payload.now) = search rules in
    let next : JournalState = record { part = i.part; format = format_at i.version; gate = i.gate + c.needed-needed.result; count = i.count + 1; limit = i.limit; spare = vec_capacity c.spell_record.new.buffer - 13 } in
    stands_more g.D.Disk c.args.disk.now c.add_record.new.disk journal next c.args.payload.now
    (ap (λ (j : JournalState). j.part) c.self.view_is) (ap (λ (j : JournalState). j.format) c.self.view_is)
    (ap (λ (n : ℕ). i.gate + n) needs ∙ ap (λ (j : JournalState). j.gate + needed_length j.format (length c.args.payload.now)) c.self.view_is) (ap (λ (j : JournalState). j.count + 1) c.self.view_is)
    (returns-in-Ok-clause-added g c) c.in-Ok.ensures.durable

pub returns-in-Ok-clause-acknowledged : goal.returns-in-Ok-clause-acknowledged
returns-in-Ok-clause-acknowledged g c =
    acknowledged (spelled g (goal.at.returns-in-Ok-clause-acknowledged g c).After-deref) g.D.Disk c.args.disk.now c.add_record.new.disk c.requires.stands
    (λ f going left. g.met.D.Disk.only_now c.add_record.new.disk f going left) (returns-in-Ok-clause-added g c) c.in-Ok.ensures.durable

pub returns-in-Ok-clause-any_moment : goal.returns-in-Ok-clause-any_moment
returns-in-Ok-clause-any_moment g c =
    any_moment (spelled g (goal.at.returns-in-Ok-clause-any_moment g c).After-deref) g.D.Disk c.args.disk.now c.add_record.new.disk c.requires.stands c.in-Ok.ensures.any_moment

pub returns-in-Err-clause-any_moment : goal.returns-in-Err-clause-any_moment
returns-in-Err-clause-any_moment g c =
    any_moment (spelled g (goal.at.returns-in-Err-clause-any_moment g c).After-deref) g.D.Disk c.args.disk.now c.add_record.new.disk c.requires.stands c.in-Err.ensures.any_moment

pub returns-in-Ok-clause-since_entry : goal.returns-in-Ok-clause-since_entry
returns-in-Ok-clause-since_entry g c =
    since_entry g.D.Disk c.args.self.now c.args.disk.now c.requires.stands c.args.payload.now (λ f going left. g.met.D.Disk.only_now c.args.disk.now f going left) c.add_record.new.disk (returns-in-Ok-clause-any_moment g c)

pub returns-in-Err-clause-since_entry : goal.returns-in-Err-clause-since_entry
returns-in-Err-clause-since_entry g c =
    since_entry g.D.Disk c.args.self.now c.args.disk.now c.requires.stands c.args.payload.now (λ f going left. g.met.D.Disk.only_now c.args.disk.now f going left) c.add_record.new.disk (returns-in-Err-clause-any_moment g c)

pub returns-then-is_past-clause-since_entry : goal.returns-then-is_past-clause-since_entry
returns-then-is_past-clause-since_entry g c = since_start g.D.Disk c.args.self.now c.args.disk.now c.requires.stands c.args.payload.now (λ f going left. g.met.D.Disk.only_now c.args.disk.now f going left)
