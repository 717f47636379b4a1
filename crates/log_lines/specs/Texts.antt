-- The parts of Prometheus's text format.
use Rattle.std.specs.Prelude.{ℕ, ◌/◌, ◌%◌, ℤ, List, ◌++◌, [], ◌∷◌, codes, int_lt, pos, unsigned_abs, string_bytes, if◌then◌else◌}
use Rattle.std.specs.Fmt.{decimal}
use Rattle.log_lines.specs.declared.exposition.Kind.{Kind}
use Rattle.log_lines.specs.declared.exposition.Kind.TheVariants.{Counter, Gauge, Histogram}
use Rattle.log_lines.specs.declared.exposition.Family.{Family}

-- the size of a time in milliseconds, written in seconds
abbrev pub size_text : ℕ → List ℕ
size_text size = decimal (size / 1000) ++ codes "." ++ decimal (size / 100 % 10) ++ decimal (size / 10 % 10) ++ decimal (size % 10)

-- a time in milliseconds, written in seconds
abbrev pub seconds_text : ℤ → List ℕ
seconds_text millis = (if int_lt millis (pos 0) then codes "-" else []) ++ size_text (unsigned_abs millis)

abbrev pub kind_word : Kind → List ℕ
kind_word Counter = codes "counter"
kind_word Gauge = codes "gauge"
kind_word Histogram = codes "histogram"

-- the lines of a family before its samples
abbrev pub family_text : Family → List ℕ
family_text family =
    codes "# HELP " ++ family.name.now ++ codes " " ++ family.help.now ++ codes "\n# TYPE " ++ family.name.now ++ codes " " ++ kind_word family.kind ++ codes "\n"
