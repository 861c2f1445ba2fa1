-- Requests, responses and the options of a query, as plain data.
use Rattle.std.specs.Prelude.{false}
use Rattle.sw_data.specs.declared.exchange.Options.{Options}

-- no option is set (Service Workers, "CacheQueryOptions")
abbrev pub no_options : Options
no_options = record { ignore_search = false; ignore_method = false; ignore_vary = false }
