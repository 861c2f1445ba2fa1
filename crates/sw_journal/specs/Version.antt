-- The formats of a part, as the code names them.
use Rattle.sw_journal.specs.Format.{Format, format_1, format_2}
use Rattle.sw_journal.specs.declared.version.Version.{Version}
use Rattle.sw_journal.specs.declared.version.Version.TheVariants.{One, Two}

-- own: the format of a version
abbrev pub format_at : Version → Format
format_at One = format_1
format_at Two = format_2
