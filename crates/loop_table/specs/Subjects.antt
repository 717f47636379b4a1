-- The numbers by which a poll identifies its subjects.
use Rattle.std.specs.Prelude.{◌≡◌, ◌≢◌, ◌<◌, ◌≤◌, ◌⊎◌, ℕ, ◌+◌, ◌*◌, ◌^◌}
use Rattle.loop_table.specs.declared.token.Token.{Token}
use Rattle.loop_table.specs.declared.subject.Subject.{Subject}
use Rattle.loop_table.specs.declared.subject.Subject.TheVariants.{Listener, Mailbox, Client, Server, Waiting, Outside}

abbrev pub token_number : Token → ℕ
token_number token = token.generation * 1048576 + token.index

abbrev pub subject_number : Subject → ℕ
subject_number Listener = 0
subject_number Mailbox = 1
subject_number (Client token) = 8 * token_number token + 2
subject_number (Server token) = 8 * token_number token + 3
subject_number (Waiting place ticket) = 8 * (4096 * ticket + place) + 4
subject_number (Outside token) = 8 * token_number token + 5

-- its place or its ticket is too large for a number
abbrev pub IsTooLarge : Subject → Type 0
IsTooLarge (Waiting place ticket) = (4096 ≤ place) ⊎ (2 ^ 40 ≤ ticket)
IsTooLarge _ = ⊥

-- where it is a request that waits, its place is one of the 4096
abbrev pub IsPlaced : Subject → Type 0
IsPlaced (Waiting place ticket) = place < 4096
IsPlaced _ = Unit {0}

-- no subject has the number that this kind has above this one
abbrev pub NamesNone : ℕ → ℕ → Type 0
NamesNone kind above = (kind < 2 → 0 < above) × (kind ≡ 2 → 2 ^ 60 ≤ above) × (kind ≡ 3 → 2 ^ 60 ≤ above) × (kind ≢ 4) × (kind ≡ 5 → 2 ^ 60 ≤ above)

-- the two are the same
abbrev pub AreSame : Subject → Subject → Type 0
AreSame Listener Listener = Unit {0}
AreSame Mailbox Mailbox = Unit {0}
AreSame (Client a) (Client b) = (a.index ≡ b.index) × (a.generation ≡ b.generation)
AreSame (Server a) (Server b) = (a.index ≡ b.index) × (a.generation ≡ b.generation)
AreSame (Waiting p t) (Waiting q u) = p < 4096 → q < 4096 → (p ≡ q) × (t ≡ u)
AreSame (Outside a) (Outside b) = (a.index ≡ b.index) × (a.generation ≡ b.generation)
AreSame _ _ = ⊥
