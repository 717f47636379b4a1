-- Heads at the front of the bytes that have come so far.
use Rattle.std.specs.Prelude.{◌≡◌, ℕ, ◌<◌, ◌≤◌, List, ◌++◌, length}
use Rattle.httparse.specs.Grammar.{RequestHead, print_request, ReadsRequest, MayBecomeRequest, HasNoRequest}
use Rattle.req_view.specs.Request.{Request, request_of, IsWelcome}
use Rattle.req_view.specs.declared.refusal.HeadRefusal.TheVariants.{HeadFault, NoMemory}
use Rattle.req_view.specs.declared.viewing.Viewed.{Viewed}
use Rattle.req_view.specs.declared.viewing.Viewed.TheVariants.{Whole, More, Refused}

-- the bytes are the head h, no larger than the proxy accepts, and then rest
pub record Fits (bytes : List ℕ) (h : RequestHead) (rest : List ℕ) : Type 0 where
  pub reads : ReadsRequest bytes h rest
  pub few_bytes : length (print_request h) ≤ 16384
  pub few_fields : length h.fields ≤ 64

-- the bytes are a head that the proxy accepts, and then rest
abbrev pub HasHead : List ℕ → RequestHead → List ℕ → Type 0
HasHead bytes h rest = Fits bytes h rest × IsWelcome (request_of h)

-- no prefix of the bytes is such a head
abbrev pub HasNoHead : List ℕ → Type 0
HasNoHead bytes = (h : RequestHead) (rest : List ℕ) → ¬ (HasHead bytes h rest)

-- none will be, whatever bytes follow
abbrev pub NeverHasHead : List ℕ → Type 0
NeverHasHead bytes = (more : List ℕ) → HasNoHead (bytes ++ more)

-- a prefix of the bytes is a head with these parts, and has `count` bytes
pub record BeginsWith (bytes : List ℕ) (r : Request) (count : ℕ) : Type 0 where
  pub head : RequestHead
  pub rest : List ℕ
  pub stands : HasHead bytes head rest
  pub request : r ≡ request_of head
  pub len : count ≡ length (print_request head)

-- there is no whole head yet, its bytes may still come, and there is room for them
pub record Waits (bytes : List ℕ) : Type 0 where
  pub none : HasNoHead bytes
  pub unended : HasNoRequest bytes
  pub room : length bytes < 16384
  pub open_end : MayBecomeRequest bytes

-- what an answer of the reader says of the bytes, except for want of memory
abbrev pub Tells : List ℕ → Viewed Request → Type 0
Tells bytes (Whole r len) = BeginsWith bytes r len
Tells bytes More = Waits bytes
Tells bytes (Refused HeadFault) = NeverHasHead bytes
Tells bytes (Refused NoMemory) = Unit {0}
