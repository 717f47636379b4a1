-- The status of the answer that is sent over a connection.
use Rattle.std.specs.Prelude.{ℕ, Bool, false, ◌&&◌, ◌||◌, not, cond, ◌+◌, ◌-◌, ◌*◌, List, [], ◌∷◌, ◌++◌, Option, None, Some, nat_eq, nat_lt, min, zero, suc}
use Rattle.exchange_driver.specs.declared.meter.Meter.{Meter}
use Rattle.exchange_driver.specs.declared.meter.Scan.{Scan}
use Rattle.exchange_driver.specs.declared.meter.Scan.TheVariants.{Line, Interim, Found}

-- the value of a digit; any other byte counts as a 9
abbrev pub digit_of : ℕ → ℕ
digit_of byte = cond (nat_lt byte 48 || nat_lt 57 byte) 9 (byte - 48)

-- the number of three digits
abbrev pub number_of : ℕ → ℕ → ℕ → ℕ
number_of a b c = (digit_of a * 10 + digit_of b) * 10 + digit_of c

-- an answer with this status comes before the one that a client waits for: all below 200 but 101
abbrev pub is_interim : ℕ → Bool
is_interim status = nat_lt status 200 && not (nat_eq status 101)

-- an empty line stands first in these bytes, behind the line before: CR LF CR LF
abbrev pub begins_with_end : List ℕ → Bool
begins_with_end (a ∷ b ∷ c ∷ d ∷ _) = nat_eq a 13 && nat_eq b 10 && nat_eq c 13 && nat_eq d 10
begins_with_end _ = false

abbrev mutual
  -- The status of the answer in these bytes, in the head whose status stands at this place: its
  -- three digits. Where that is interim, it is the status of the answer behind that head.
  pub status_at : ℕ → List ℕ → Option ℕ
  status_at zero (a ∷ b ∷ c ∷ rest) = cond (is_interim (number_of a b c)) (status_behind rest) (Some (number_of a b c))
  status_at zero _ = None
  status_at (suc n) [] = None
  status_at (suc n) (_ ∷ rest) = status_at n rest

  -- The status of the answer behind the first empty line in these bytes. (Where that begins, three
  -- of its bytes are left, and then nine before the digits.)
  pub status_behind : List ℕ → Option ℕ
  status_behind [] = None
  status_behind (byte ∷ rest) = cond (begins_with_end (byte ∷ rest)) (status_at (3 + 9) rest) (status_behind rest)

-- The status of the answer in these bytes: it stands behind `HTTP/1.1 ` in the first line.
abbrev pub answer_status : List ℕ → Option ℕ
answer_status bytes = status_at 9 bytes

-- The state of a search for a status stands for what it tells of any bytes that follow. The rest of
-- this file says which; what `Meter::new`, `note_sent` and `status` promise ties it to `answer_status`.

-- a status to which one more digit is added
abbrev pub appended : ℕ → ℕ → ℕ
appended status byte = min (min (status * 10) 65535 + digit_of byte) 65535

-- the status is whole, and these bytes follow
abbrev pub settles : ℕ → List ℕ → Option ℕ
settles status more = cond (is_interim status) (status_behind more) (Some status)

-- this number of bytes of the line were sent, with this status so far, and these bytes follow
abbrev pub line_then : ℕ → ℕ → List ℕ → Option ℕ
line_then at status [] = None
line_then at status (byte ∷ more) =
    cond (nat_lt at 9) (line_then (suc at) status more)
    (cond (nat_lt (suc at) 12) (line_then (suc at) (appended status byte) more) (settles (appended status byte) more))

-- the first bytes of CR LF CR LF
abbrev pub begun : ℕ → List ℕ
begun (suc zero) = 13 ∷ []
begun (suc (suc zero)) = 13 ∷ 10 ∷ []
begun (suc (suc (suc zero))) = 13 ∷ 10 ∷ 13 ∷ []
begun _ = []

-- what a search tells, once these bytes follow
abbrev pub scan_tells : Scan → List ℕ → Option ℕ
scan_tells (Line at status) more = line_then at status more
scan_tells (Interim ended) more = status_behind (begun ended ++ more)
scan_tells (Found status) more = Some status

-- the status that is told, once these bytes are sent too
abbrev pub tells : Meter → List ℕ → Option ℕ
tells meter more = scan_tells meter.scan more
