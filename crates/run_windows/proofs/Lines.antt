-- The lines of servers, one after the other.
use Rattle.std.proofs.Common.{◌≡◌, ◌++◌, ◌+◌, ◌<◌, ◌≤◌, ◌∙◌, suc, ap, sym, arith, ℕ, List, [], ◌∷◌, length, take, get_or}
use Rattle.std.proofs.Math.Seq.{take-suc}
use Rattle.std.proofs.lemmas.List.{append-nil, append_assoc, length-take-le}
use Rattle.dispatch_reports.specs.declared.lines.ServerLine.{ServerLine}
use Rattle.log_texts.specs.Traces.{name_of}
use Rattle.run_windows.specs.Texts.{server_text, servers_text}

one_server_more : (names : List (List ℕ)) (number : ℕ) (lines : List ServerLine) (line : ServerLine)
    → servers_text names number (lines ++ line ∷ []) ≡ servers_text names number lines ++ server_text (name_of names (number + length lines)) line
unfolding servers_text
one_server_more names number [] line =
    let at : number ≡ number + 0 = omega arith in
    append-nil (server_text (name_of names number) line) ∙ ap (λ n. server_text (name_of names n) line) at
one_server_more names number (first ∷ lines) line =
    let at : 1 + number + length lines ≡ number + suc (length lines) = omega arith in
    let front = server_text (name_of names number) first in
    let others = servers_text names (1 + number) lines in
    ap (λ text. front ++ text) (one_server_more names (1 + number) lines line ∙ ap (λ n. others ++ server_text (name_of names n) line) at)
    ∙ sym (append_assoc front others (server_text (name_of names (number + suc (length lines))) line))

-- behind the lines of i servers stands that of the next
pub one_line_more : (names : List (List ℕ)) (lines : List ServerLine) (i : ℕ) (d : ServerLine) (start text longer : List ℕ) → i < length lines
    → text ≡ start ++ servers_text names 0 (take i lines) → longer ≡ text ++ server_text (name_of names i) (get_or lines i d)
    → longer ≡ start ++ servers_text names 0 (take (i + 1) lines)
one_line_more names lines i d start text longer more so_far pushed =
    let line = get_or lines i d in
    let next : suc i ≡ i + 1 = omega arith in
    let within : i ≤ length lines = omega (arith, more) in
    let at : i ≡ 0 + length (take i lines) = omega (arith, length-take-le i lines within) in
    pushed ∙ ap (λ it. it ++ server_text (name_of names i) line) so_far
    ∙ append_assoc start (servers_text names 0 (take i lines)) (server_text (name_of names i) line)
    ∙ ap (λ it. start ++ it)
    (ap (λ n. servers_text names 0 (take i lines) ++ server_text (name_of names n) line) at ∙ sym (one_server_more names 0 (take i lines) line)
    ∙ ap (servers_text names 0) (sym (take-suc lines i d more)) ∙ ap (λ n. servers_text names 0 (take n lines)) next)
