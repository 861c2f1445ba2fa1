-- What a journal over a Root and two parts stands for.
use Rattle.std.specs.Prelude.{◌≡◌, ◌⊎◌, ◌+◌, ◌<◌, ℕ, List, [], ◌∷◌, ◌++◌, length}
use Rattle.sw_disk.specs.declared.disk.Disk.{Ghosts}
use Rattle.sw_disk.specs.Image.{Image, get, put}
use Rattle.sw_disk.specs.DiskRule.{ForTold}
use Rattle.sw_journal.specs.Content.{Records, content}
use Rattle.sw_journal.specs.Journal.{JournalState}
use Rattle.sw_journal.specs.Journal as one
use Rattle.sw_twin.specs.Current.{leading_ones, part_at, content_of}

-- own: a twin: the journal of the current part, and how many ones Root begins with
pub record TwinState : Type 0 where
  pub journal : JournalState
  pub ones : ℕ

-- own: a twin stands for an image: Root begins with so many ones, and its journal is that of the current part and stands
-- for the bytes there
pub record StandsIn (twin : TwinState) (image : Image) : Type 0 where
  pub ones : leading_ones image.root ≡ twin.ones
  pub part : twin.journal.part ≡ part_at twin.ones
  pub journal : one.StandsIn twin.journal (get twin.journal.part image)

-- own: a twin stands for a disk: where the disk tells, for what reads give, and for every image that a crash now may leave
abbrev pub StandsFor : {D : Type 0} → TwinState → Ghosts D → D → Type 0
StandsFor twin disk now =
    ForTold (disk.seen now) (λ image. StandsIn twin image × ((c : Image) → disk.may_leave now c → StandsIn twin c))

-- own: by the clock, a call was made after the first one
abbrev pub IsPastFirst : {D : Type 0} → Ghosts D → (old new : D) → Type 0
IsPastFirst disk old new = disk.clock old + 1 < disk.clock new

-- own: the old image stands for as many records as the twin's journal has, and the new one for the same and behind them this
-- payload; Root and the other part are as they were
pub record HasMore (twin : TwinState) (payload : List ℕ) (old new : Image) : Type 0 where
  pub records : List (ℕ × List ℕ)
  pub count : length records ≡ twin.journal.count
  pub was : content_of old ≡ Records records
  pub now : content_of new ≡ Records (records ++ (twin.journal.gate, payload) ∷ [])
  pub elsewhere : new ≡ put twin.journal.part (get twin.journal.part new) old

-- own: the same, but the new image may stand for the same records
pub record HasSameOrMore (twin : TwinState) (payload : List ℕ) (old new : Image) : Type 0 where
  pub records : List (ℕ × List ℕ)
  pub count : length records ≡ twin.journal.count
  pub was : content_of old ≡ Records records
  pub now : (content_of new ≡ Records records) ⊎ (content_of new ≡ Records (records ++ (twin.journal.gate, payload) ∷ []))
  pub elsewhere : new ≡ put twin.journal.part (get twin.journal.part new) old

-- own: an image stands for what this one did, or for what these bytes do
abbrev pub KeepsOrHas : List ℕ → Image → Image → Type 0
KeepsOrHas contents old new = (content_of new ≡ content_of old) ⊎ (content_of new ≡ content contents)
