-- A gauge in Prometheus's text format.
use Rattle.std.specs.Prelude.{ℕ, List, ◌++◌, codes}
use Rattle.std.specs.Fmt.{decimal}

-- the comment lines of a gauge
abbrev pub comment_text : List ℕ → List ℕ → List ℕ
comment_text name help = codes "# HELP " ++ name ++ codes " " ++ help ++ codes "\n# TYPE " ++ name ++ codes " gauge\n"

-- a gauge's line: its name and its value
abbrev pub value_text : List ℕ → ℕ → List ℕ
value_text name size = name ++ codes " " ++ decimal size ++ codes "\n"

-- a gauge, with its comment lines before it
abbrev pub gauge_text : List ℕ → List ℕ → ℕ → List ℕ
gauge_text name help size = comment_text name help ++ value_text name size
