-- Heads of answers at the front of the bytes that have come so far.
use Rattle.std.specs.Prelude.{◌≡◌, ℕ, ◌<◌, ◌≤◌, List, ◌++◌, length}
use Rattle.httparse.specs.Grammar.{ResponseHead, print_response, ReadsResponse, MayBecomeResponse}
use Rattle.req_view.specs.Answer.{Answer, answer_of}
use Rattle.req_view.specs.declared.refusal.HeadRefusal.TheVariants.{HeadFault, NoMemory}
use Rattle.req_view.specs.declared.viewing.Viewed.{Viewed}
use Rattle.req_view.specs.declared.viewing.Viewed.TheVariants.{Whole, More, Refused}

-- the bytes are the head h, no larger than the proxy accepts, and then rest
pub record HasAnswer (bytes : List ℕ) (h : ResponseHead) (rest : List ℕ) : Type 0 where
  pub reads : ReadsResponse bytes h rest
  pub few_bytes : length (print_response h) ≤ 16384
  pub few_fields : length h.fields ≤ 64

-- no prefix of the bytes is such a head
abbrev pub HasNoAnswer : List ℕ → Type 0
HasNoAnswer bytes = (h : ResponseHead) (rest : List ℕ) → ¬ (HasAnswer bytes h rest)

-- none will be, whatever bytes follow
abbrev pub NeverHasAnswer : List ℕ → Type 0
NeverHasAnswer bytes = (more : List ℕ) → HasNoAnswer (bytes ++ more)

-- a prefix of the bytes is a head with these parts, and has `count` bytes
pub record SaysAnswer (bytes : List ℕ) (a : Answer) (count : ℕ) : Type 0 where
  pub head : ResponseHead
  pub rest : List ℕ
  pub stands : HasAnswer bytes head rest
  pub answer : a ≡ answer_of head
  pub len : count ≡ length (print_response head)

-- there is no whole head yet, its bytes may still come, and there is room for them
pub record WaitsForAnswer (bytes : List ℕ) : Type 0 where
  pub none : HasNoAnswer bytes
  pub room : length bytes < 16384
  pub open_end : MayBecomeResponse bytes

-- what an answer of the reader says of the bytes, except for want of memory
abbrev pub TellsAnswer : List ℕ → Viewed Answer → Type 0
TellsAnswer bytes (Whole a len) = SaysAnswer bytes a len
TellsAnswer bytes More = WaitsForAnswer bytes
TellsAnswer bytes (Refused HeadFault) = NeverHasAnswer bytes
TellsAnswer bytes (Refused NoMemory) = Unit {0}
