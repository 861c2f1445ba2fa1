-- What a journal of one part stands for.
use Rattle.std.specs.Prelude.{◌≡◌, ◌⊎◌, ◌+◌, ◌-◌, ◌^◌, ◌<◌, ℕ, List, [], ◌∷◌, ◌++◌, length}
use Rattle.sw_disk.specs.declared.part.Part.{Part}
use Rattle.sw_disk.specs.Image.{Image, get}
use Rattle.sw_disk.specs.declared.disk.Disk.{Ghosts}
use Rattle.sw_disk.specs.DiskRule.{ForTold}
use Rattle.sw_journal.specs.Format.{Format, needed_length, record_bytes}
use Rattle.sw_journal.specs.Content.{IsPart}

-- own: a journal: its part and the part's format, the offset of the first closed gate, the count of records before it, how
-- long the part may grow, and how long a payload may be without further memory
pub record JournalState : Type 0 where
  pub part : Part
  pub format : Format
  pub gate : ℕ
  pub count : ℕ
  pub limit : ℕ
  pub spare : ℕ

-- own: a journal stands for these bytes of its part: the header of its format is there, its gate is the first closed gate,
-- all records before it are whole, and the next record's number is their count
abbrev pub StandsIn : JournalState → List ℕ → Type 0
StandsIn journal bytes = (records : List (ℕ × List ℕ)) × (length records ≡ journal.count) × IsPart journal.format records journal.gate bytes

-- own: a journal stands for a disk: where the disk tells, for what reads give of its part, and for its part in every image
-- that a crash now may leave
abbrev pub StandsFor : {D : Type 0} → JournalState → Ghosts D → D → Type 0
StandsFor journal disk now =
    ForTold (disk.seen now) (λ image. StandsIn journal (get journal.part image) × ((c : Image) → disk.may_leave now c → StandsIn journal (get journal.part c)))

-- own: what an append writes from the closed gate on: the open gate, the record, and the next gate, which is closed
abbrev pub appended : JournalState → List ℕ → List ℕ
appended journal payload = 1 ∷ (record_bytes journal.format journal.count payload ++ 0 ∷ [])

-- own: the journal stands for the old bytes, and the new ones have the same records, and behind them this payload
pub record HasMore (journal : JournalState) (payload old new : List ℕ) : Type 0 where
  pub records : List (ℕ × List ℕ)
  pub count : length records ≡ journal.count
  pub was : IsPart journal.format records journal.gate old
  pub now : IsPart journal.format (records ++ (journal.gate, payload) ∷ []) (journal.gate + needed_length journal.format (length payload)) new

-- own: the journal stands for the old bytes, and the new ones have the same records, or these and behind them this payload
pub record HasSameOrMore (journal : JournalState) (payload old new : List ℕ) : Type 0 where
  pub records : List (ℕ × List ℕ)
  pub count : length records ≡ journal.count
  pub was : IsPart journal.format records journal.gate old
  pub now : IsPart journal.format records journal.gate new
      ⊎ IsPart journal.format (records ++ (journal.gate, payload) ∷ []) (journal.gate + needed_length journal.format (length payload)) new

-- own: where the clock still went at a moment, a crash since then leaves nothing but what has P
abbrev pub Since : {D : Type 0} → Ghosts D → (moment now : D) → (Image → Type 0) → Type 0
Since disk moment now P = disk.clock moment < 2 ^ 64 - 1 → (c : Image) → disk.left_since now (disk.clock moment) c → P c
