-- What worked parts stand for, computed.
use Rattle.std.proofs.Common.{◌≡◌, ℕ, List, [], ◌∷◌, ◌++◌, take, refl}
use Rattle.std.specs.Prelude.{codes}
use Rattle.sw_journal.specs.Format.{format_of}
use Rattle.sw_journal.specs.Content.{NotFormatted, BadAt, Records, content, reading, reading_from, reading_within, payload_length}

-- the change that makes an empty cache: the tag 6, the key and the name
abbrev cache_new : List ℕ
cache_new = (6 ∷ 0 ∷ 0 ∷ 0 ∷ 14 ∷ []) ++ codes "https://a.test" ++ (0 ∷ 0 ∷ 0 ∷ 1 ∷ []) ++ codes "v"

abbrev part_1 : ℕ → List ℕ
part_1 gate = codes "SWHOST-JOURNAL-1" ++ (gate ∷ 0 ∷ 0 ∷ 0 ∷ 24 ∷ []) ++ cache_new ++ 0 ∷ []

abbrev record_2 : ℕ → List ℕ
record_2 number = (1 ∷ 0 ∷ 0 ∷ 0 ∷ 24 ∷ 0 ∷ 0 ∷ 0 ∷ 0 ∷ 0 ∷ 0 ∷ 0 ∷ number ∷ []) ++ cache_new

open_gate : content (part_1 1) ≡ Records ((16, cache_new) ∷ [])
unfolding content format_of reading reading_from reading_within payload_length
open_gate = refl

torn_gate : content (part_1 7) ≡ Records []
unfolding content format_of reading reading_from reading_within payload_length
torn_gate = refl

cut_in_the_header : content (take 15 (part_1 1)) ≡ NotFormatted
unfolding content format_of reading reading_from reading_within payload_length
cut_in_the_header = refl

no_gate : content (take 16 (part_1 7)) ≡ BadAt 16 []
unfolding content format_of reading reading_from reading_within payload_length
no_gate = refl

cut_in_the_length : content (take 20 (part_1 1)) ≡ BadAt 16 []
unfolding content format_of reading reading_from reading_within payload_length
cut_in_the_length = refl

cut_before_the_next_gate : content (take 45 (part_1 1)) ≡ BadAt 16 []
unfolding content format_of reading reading_from reading_within payload_length
cut_before_the_next_gate = refl

one_numbered : content (codes "SWHOST-JOURNAL-2" ++ record_2 0 ++ 0 ∷ []) ≡ Records ((16, cache_new) ∷ [])
unfolding content format_of reading reading_from reading_within payload_length
one_numbered = refl

two_numbered : content (codes "SWHOST-JOURNAL-2" ++ record_2 0 ++ record_2 1 ++ 0 ∷ []) ≡ Records ((16, cache_new) ∷ (53, cache_new) ∷ [])
unfolding content format_of reading reading_from reading_within payload_length
two_numbered = refl

lost_record : content (codes "SWHOST-JOURNAL-2" ++ record_2 0 ++ record_2 2 ++ 0 ∷ []) ≡ BadAt 53 ((16, cache_new) ∷ [])
unfolding content format_of reading reading_from reading_within payload_length
lost_record = refl
