-- Answers in bytes: an empty line ends one.
use Rattle.std.specs.Prelude.{ℕ, ◌+◌, Bool, true, false, ◌&&◌, if◌then◌else◌, List, [], ◌∷◌}
use Rattle.run_control.specs.Inboxes.{is_line_feed}

-- the number of bytes before the empty line, or of all where there is none; the flag says whether
-- the first byte begins a line
unfoldable pub length_before_end : Bool → List ℕ → ℕ
length_before_end start [] = 0
length_before_end start (byte ∷ bytes) = if is_line_feed byte && start then 0 else length_before_end (is_line_feed byte) bytes + 1

-- the bytes contain an empty line
unfoldable pub has_end : Bool → List ℕ → Bool
has_end start [] = false
has_end start (byte ∷ bytes) = if is_line_feed byte && start then true else has_end (is_line_feed byte) bytes

-- the byte after these begins a line
unfoldable pub starts_line : Bool → List ℕ → Bool
starts_line start [] = start
starts_line start (byte ∷ bytes) = if is_line_feed byte && start then start else starts_line (is_line_feed byte) bytes
