-- The words of lane lines and calls.
use Rattle.std.specs.Prelude.{ℕ, List, codes, bytes_eq, Option, Some, None, option_and_then, if◌then◌else◌}
use Rattle.serde_json.specs.Data.{Data}
use Rattle.serde_json.specs.Find.{as_str, get}
use Rattle.sw_forms.specs.declared.word.Word.{Word}
use Rattle.sw_forms.specs.declared.word.Word.TheVariants as word

-- the word that a text is
unfoldable pub word_of : List ℕ → Option Word
word_of text =
    if bytes_eq text (codes "open") then Some word.Open
    else if bytes_eq text (codes "close") then Some word.Close
    else if bytes_eq text (codes "register") then Some word.Register
    else if bytes_eq text (codes "update") then Some word.Update
    else if bytes_eq text (codes "softUpdate") then Some word.SoftUpdate
    else if bytes_eq text (codes "unregister") then Some word.Unregister
    else if bytes_eq text (codes "await") then Some word.Await
    else if bytes_eq text (codes "ready") then Some word.Ready
    else if bytes_eq text (codes "registration") then Some word.Registration
    else if bytes_eq text (codes "registrations") then Some word.Registrations
    else if bytes_eq text (codes "skipWaiting") then Some word.SkipWaiting
    else if bytes_eq text (codes "claim") then Some word.Claim
    else if bytes_eq text (codes "begin") then Some word.Begin
    else if bytes_eq text (codes "end") then Some word.End
    else if bytes_eq text (codes "cacheOpen") then Some word.CacheOpen
    else if bytes_eq text (codes "cacheHas") then Some word.CacheHas
    else if bytes_eq text (codes "cacheDelete") then Some word.CacheDelete
    else if bytes_eq text (codes "cacheKeys") then Some word.CacheKeys
    else if bytes_eq text (codes "forget") then Some word.Forget
    else if bytes_eq text (codes "match") then Some word.Match
    else if bytes_eq text (codes "matchAll") then Some word.MatchAll
    else if bytes_eq text (codes "keys") then Some word.Keys
    else if bytes_eq text (codes "put") then Some word.Put
    else if bytes_eq text (codes "delete") then Some word.Delete
    else if bytes_eq text (codes "batch") then Some word.Batch
    else if bytes_eq text (codes "addAll") then Some word.AddAll
    else if bytes_eq text (codes "preloadEnable") then Some word.PreloadEnable
    else if bytes_eq text (codes "preloadDisable") then Some word.PreloadDisable
    else if bytes_eq text (codes "preloadValue") then Some word.PreloadValue
    else if bytes_eq text (codes "preloadState") then Some word.PreloadState
    else None

-- what a line or a call does
unfoldable pub word_member : Data → Option Word
word_member value = option_and_then word_of (option_and_then as_str (get (codes "do") value))
