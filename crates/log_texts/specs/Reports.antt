-- The text of reports. A line feed ends each line.
use Rattle.std.specs.Prelude.{ℕ, List, ◌++◌, codes}
use Rattle.std.specs.List.{flat_map}
use Rattle.std.specs.Fmt.{decimal, signed_decimal}
use Rattle.late_cert.specs.declared.report.Report.{Report}
use Rattle.log_reading.specs.declared.grant.Stay.{Stay}
use Rattle.log_texts.specs.Traces.{queue_name}

-- the ticket of a stay, after a space
abbrev pub ticket_text : Stay → List ℕ
ticket_text stay = codes " " ++ decimal stay.ticket

-- the tickets of stays, in order
abbrev pub tickets_text : List Stay → List ℕ
tickets_text stays = flat_map ticket_text stays

-- the subject of a report, with the servers' names: the number of requests, their queue and their class
abbrev pub group_text : List (List ℕ) → Report → List ℕ
group_text names report = codes "queue " ++ queue_name names report.queue ++ codes " class " ++ signed_decimal report.class ++ codes " granted " ++ decimal
    report.granted

-- the greatest lateness, the due date of the worst stay, the cut, and the position of the worst stay's slot
abbrev pub worst_text : Report → List ℕ
worst_text report = codes " worst " ++ signed_decimal report.worst ++ codes " due " ++ signed_decimal report.due ++ codes " after " ++ decimal report.after ++
    codes " to " ++ decimal report.to

-- the line of a report, with the tickets of its critical stays
abbrev pub report_text : List (List ℕ) → Report → List ℕ
report_text names report = group_text names report ++ worst_text report ++ codes " critical" ++ tickets_text report.critical ++ codes "\n"

abbrev pub reports_text : List (List ℕ) → List Report → List ℕ
reports_text names reports = flat_map (report_text names) reports

-- the line of a roll, and the lines of the reports on the window that it ends
abbrev pub roll_text : List (List ℕ) → List Report → List ℕ
roll_text names reports = codes "roll\n" ++ reports_text names reports
