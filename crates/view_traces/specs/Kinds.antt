-- The difference between traces and scripts, and scripts with several windows.
use Rattle.std.specs.Prelude.{ℕ, Bool, true, false, List, [], ◌∷◌, Option, Some, None, codes, filter_map, slice_get, if◌then◌else◌}
use Rattle.std.specs.List.{list_any}
use Rattle.std.specs.Option.{unwrap_or}
use Rattle.std.specs.Str.{bytes_eq}
use Rattle.std.specs.Str.Lines.{lines}
use Rattle.proxy_words.specs.Text.{words}

-- the first words of a script's header lines
abbrev pub header_words : List (List ℕ)
header_words = codes "places" ∷ codes "log" ∷ codes "retries" ∷ codes "redispatch" ∷ codes "queue-timeout" ∷ codes "server" ∷ []

-- the first words of a trace's lines of decisions, refusals and reports
abbrev pub trace_words : List (List ℕ)
trace_words =
    codes "direct" ∷ codes "join" ∷ codes "grant" ∷ codes "move" ∷ codes "free" ∷ codes "retry" ∷ codes "left" ∷ codes "health" ∷ codes "end"
    ∷ codes "refused" ∷ codes "queue" ∷ []

abbrev pub is_of_header : List ℕ → Bool
is_of_header word = list_any (bytes_eq word) header_words

abbrev pub is_of_trace : List ℕ → Bool
is_of_trace word = list_any (bytes_eq word) trace_words

-- by the words after `arrive`: a class and an offset belong to a script, and a ticket, a class, a
-- due date and a name to a trace; three words may belong to either
abbrev pub of_arrival : List (List ℕ) → Option Bool
of_arrival (class ∷ offset ∷ []) = Some false
of_arrival (ticket ∷ class ∷ due ∷ name ∷ others) = Some true
of_arrival others = None

-- by the words after a moment
abbrev pub of_event : List (List ℕ) → Option Bool
of_event [] = None
of_event (name ∷ others) = if bytes_eq name (codes "arrive") then of_arrival others else None

-- a line of these words belongs to a trace alone, or to a script alone
abbrev pub tells : List (List ℕ) → Option Bool
tells [] = None
tells (first ∷ others) = if is_of_header first then Some false else if is_of_trace first then Some true else of_event others

-- a text is a trace if its first line that belongs to one kind alone is one of a trace
abbrev pub is_trace : List ℕ → Bool
is_trace text = unwrap_or (slice_get (filter_map (λ line. tells (words line)) (lines text)) 0) false

-- the first word of a line begins a window
abbrev pub begins_window : List (List ℕ) → Bool
begins_window [] = false
begins_window (first ∷ others) = bytes_eq first (codes "roll")

-- a script has a line whose first word begins a window
abbrev pub has_roll : List ℕ → Bool
has_roll script = list_any (λ line. begins_window (words line)) (lines script)
