-- The text of windows. A line feed ends each line.
use Rattle.std.specs.Prelude.{ℕ, ◌+◌, List, [], ◌∷◌, ◌++◌, codes}
use Rattle.std.specs.Fmt.{decimal}
use Rattle.late_cert.specs.declared.report.Report.{Report}
use Rattle.dispatch_reports.specs.declared.lines.ServerLine.{ServerLine}
use Rattle.log_texts.specs.Reports.{reports_text}
use Rattle.log_texts.specs.Traces.{health_word, name_of}

-- the line of a window with this number, and optionally its time after that, and the lines of its
-- reports, with the servers' names
abbrev pub window_text : List (List ℕ) → ℕ → List ℕ → List Report → List ℕ
window_text names number span reports = codes "window " ++ decimal number ++ span ++ codes "\n" ++ reports_text names reports

-- the line of a server with this name
abbrev pub server_text : List ℕ → ServerLine → List ℕ
server_text name line =
    codes "server " ++ name ++ codes " " ++ health_word line.up ++ codes " direct " ++ decimal line.direct ++
    codes " granted " ++ decimal line.granted ++ codes "\n"

-- the lines of servers in file order, the first of which has this number
unfoldable pub servers_text : List (List ℕ) → ℕ → List ServerLine → List ℕ
servers_text names number [] = []
servers_text names number (line ∷ lines) = server_text (name_of names number) line ++ servers_text names (1 + number) lines
