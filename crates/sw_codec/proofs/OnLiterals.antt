-- Spelling and reading, computed on worked bytes.
use Rattle.std.proofs.Common.{◌≡◌, ℕ, List, [], ◌∷◌, ◌++◌, take, true, false, Some, Ok, Err, refl}
use Rattle.std.specs.Prelude.{⊤, codes}
use Rattle.std.specs.Str.{is_utf8, chars}
use Rattle.sw_data.specs.declared.exchange.Op.TheVariants as op
use Rattle.sw_data.specs.declared.storage.Change.{Change}
use Rattle.sw_data.specs.declared.storage.Change.TheVariants as change
use Rattle.sw_codec.specs.Spelling.{bytes_spelling, request_spelling, is_request, response_spelling, is_response, op_spelling, is_op, change_spelling, has_spelling, spelled}
use Rattle.sw_codec.specs.Reading.{items_at, bytes_at, text_at, counted_at, mode_at, kind_at, flag_at, options_at, header_at, request_at, response_at, op_at, waiting_at, active_at, activated_at, update_mode_at, gone_at, cache_new_at, cache_drop_at, cache_ops_at, forgot_at, preload_at, change_at, changes_within, read_changes}

-- what an answer unfolds to compute spelling and reading on a literal
unfoldable pub codec_on_literals : ⊤
unfolding lib.Utf8.encode is_utf8 chars bytes_spelling request_spelling is_request response_spelling is_response op_spelling is_op change_spelling has_spelling items_at bytes_at text_at counted_at mode_at kind_at flag_at options_at header_at request_at response_at op_at waiting_at active_at activated_at update_mode_at gone_at cache_new_at cache_drop_at cache_ops_at forgot_at preload_at change_at changes_within read_changes
codec_on_literals = tt

cache_new : Change
cache_new = change.CacheNew (codes "https://a.test") (codes "v")

cache_new_bytes : List ℕ
cache_new_bytes = 6 ∷ 0 ∷ 0 ∷ 0 ∷ 14 ∷ codes "https://a.test" ++ 0 ∷ 0 ∷ 0 ∷ 1 ∷ codes "v"

spells_cache_new : spelled cache_new ≡ Some cache_new_bytes
unfolding codec_on_literals cache_new cache_new_bytes
spells_cache_new = refl

reads_cache_new : read_changes cache_new_bytes ≡ Ok (cache_new ∷ [])
unfolding codec_on_literals cache_new cache_new_bytes
reads_cache_new = refl

reads_restarted : read_changes (10 ∷ []) ≡ Ok (change.Restarted ∷ [])
unfolding codec_on_literals
reads_restarted = refl

-- no byte, a tag without its fields, an unknown tag, a change that is cut
no_byte_is_bad : read_changes [] ≡ Err 0
unfolding codec_on_literals
no_byte_is_bad = refl

lone_tag_is_bad : read_changes (11 ∷ []) ≡ Err 0
unfolding codec_on_literals
lone_tag_is_bad = refl

unknown_tag_is_bad : read_changes (12 ∷ []) ≡ Err 0
unfolding codec_on_literals
unknown_tag_is_bad = refl

cut_is_bad : read_changes (take 23 cache_new_bytes) ≡ Err 0
unfolding codec_on_literals cache_new_bytes
cut_is_bad = refl

-- what follows a change is bad at its own offset
second_is_bad : read_changes (10 ∷ 12 ∷ []) ≡ Err 1
unfolding codec_on_literals
second_is_bad = refl

-- a batch of this one operation on a cache with an empty key and an empty name
batch_bytes : List ℕ → List ℕ
batch_bytes operation = 8 ∷ 0 ∷ 0 ∷ 0 ∷ 0 ∷ 0 ∷ 0 ∷ 0 ∷ 0 ∷ 0 ∷ 0 ∷ 0 ∷ 1 ∷ operation

-- a delete of an empty request with this byte of options
delete_bytes : ℕ → List ℕ
delete_bytes options = 1 ∷ 0 ∷ 0 ∷ 0 ∷ 0 ∷ 0 ∷ 0 ∷ 0 ∷ 0 ∷ 0 ∷ 0 ∷ 0 ∷ 0 ∷ options ∷ []

reads_options :
    read_changes (batch_bytes (delete_bytes 5))
    ≡ Ok (change.CacheOps [] [] (op.Delete (record { method = []; url = []; headers = [] }) (record { ignore_search = true; ignore_method = false; ignore_vary = true }) ∷ []) ∷ [])
unfolding codec_on_literals batch_bytes delete_bytes
reads_options = refl

eight_is_no_option : read_changes (batch_bytes (delete_bytes 8)) ≡ Err 0
unfolding codec_on_literals batch_bytes delete_bytes
eight_is_no_option = refl
