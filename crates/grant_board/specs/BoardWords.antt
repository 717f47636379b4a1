-- The encoding of a place's word as a number. Bits 0 and 1 are its kind, bits 2 to 8 the verdict,
-- bit 9 is set in the word of a failed ending, and the ticket begins at bit 10.
use Rattle.std.specs.Prelude.{◌≢◌, ℕ, ◌+◌, ◌*◌, ◌^◌, ◌<◌, ◌==◌, if◌then◌else◌}
use Rattle.base_verdict.specs.declared.cause.Cause.TheVariants.{Aborted, Timeout, Retries, NoServer}
use Rattle.base_verdict.specs.declared.Verdict.{Verdict}
use Rattle.base_verdict.specs.declared.Verdict.TheVariants.{Serve, Told}
use Rattle.base_verdict.specs.declared.Ending.{Ending}
use Rattle.base_verdict.specs.declared.Ending.TheVariants.{Done, Failed}
use Rattle.grant_board.specs.declared.laws.Word.{Word}
use Rattle.grant_board.specs.declared.laws.Word.TheVariants.{Empty, Offered, Taken, Posted}

-- a server's verdict is encoded as the server's number, and the causes follow the 64 servers
abbrev pub code_of : Verdict → ℕ
code_of (Serve server) = server
code_of (Told Aborted) = 64
code_of (Told Timeout) = 65
code_of (Told Retries) = 66
code_of (Told NoServer) = 67

-- the number of a word
abbrev pub encode_of : Word → ℕ
encode_of Empty = 0
encode_of (Offered ticket verdict) = 1024 * ticket + 4 * code_of verdict + 1
encode_of (Taken ticket verdict) = 1024 * ticket + 4 * code_of verdict + 2
encode_of (Posted ticket verdict Done) = 1024 * ticket + 4 * code_of verdict + 3
encode_of (Posted ticket verdict Failed) = 1024 * ticket + 512 + 4 * code_of verdict + 3

-- the server of a verdict is one of this many
abbrev pub IsAmong : ℕ → Verdict → Type 0
IsAmong servers (Serve server) = server < servers
IsAmong servers (Told cause) = Unit {0}

-- there are at most 64 servers
abbrev pub IsVerdict : Verdict → Type 0
IsVerdict verdict = IsAmong 64 verdict

-- only an exchange with a server can fail
abbrev pub MayEnd : Verdict → Ending → Type 0
MayEnd (Told cause) Failed = ⊥
MayEnd _ _ = Unit {0}

-- a word that has an encoding: its ticket is below 2^40, its server below 64, and Failed stands
-- only with a server's verdict
abbrev pub IsWord : Word → Type 0
IsWord Empty = Unit {0}
IsWord (Offered ticket verdict) = (ticket < 2 ^ 40) × IsVerdict verdict
IsWord (Taken ticket verdict) = (ticket < 2 ^ 40) × IsVerdict verdict
IsWord (Posted ticket verdict ending) = (ticket < 2 ^ 40) × IsVerdict verdict × MayEnd verdict ending

-- a word whose server, where it names one, is one of this many
abbrev pub IsWordAmong : ℕ → Word → Type 0
IsWordAmong servers Empty = Unit {0}
IsWordAmong servers (Offered ticket verdict) = IsAmong servers verdict
IsWordAmong servers (Taken ticket verdict) = IsAmong servers verdict
IsWordAmong servers (Posted ticket verdict ending) = IsAmong servers verdict

-- the number doesn't encode a posted word
abbrev pub IsUnposted : ℕ → Type 0
IsUnposted number = (ticket : ℕ) (verdict : Verdict) (ending : Ending) → IsWord (Posted ticket verdict ending)
    → number ≢ encode_of (Posted ticket verdict ending)

-- the number doesn't encode a word that offers this ticket
abbrev pub OffersNot : ℕ → ℕ → Type 0
OffersNot ticket number = (verdict : Verdict) → IsWord (Offered ticket verdict) → number ≢ encode_of (Offered ticket verdict)

-- 1 for a number other than 0
abbrev pub nonzero : ℕ → ℕ
nonzero number = if number == 0 then 0 else 1
