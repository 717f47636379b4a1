-- What a guest's exchange is told by its task, and which task it gets.
use Rattle.std.specs.Prelude.{⊤, ◌≡◌, ◌&&◌, Bool, true, false, Option, None, Some, MatchOption}
use Rattle.exchange_events.specs.declared.exchange.Exchange.{Exchange}
use Rattle.exchange_seated.specs.declared.notice.Notice.{Notice}
use Rattle.exchange_seated.specs.declared.notice.Notice.TheVariants.{Unserved, Connected, Unreachable, ClientEnd, ClientFailed, TimeOver}
use Rattle.exchange_seated.specs.Seats.{has_asked}
use Rattle.exchange_seated.specs.declared.seated.Stage.{Stage}
use Rattle.exchange_seated.specs.declared.seated.Stage.TheVariants as stages
use Rattle.loop_events.specs.declared.guest.Task.{Task}
use Rattle.loop_events.specs.declared.guest.Task.TheVariants.{Serve, Arrive, Dial, Refuse, GiveUp, Leave, Fail}

-- the event that a task tells; none where it tells none, or first finds out which
abbrev pub notice_of : Task → Option Notice
notice_of Serve = None
notice_of Arrive = None
notice_of Dial = None
notice_of Refuse = Some Unserved
notice_of GiveUp = Some Unreachable
notice_of Leave = Some ClientEnd
notice_of Fail = Some ClientFailed

-- an event of which no task tells: a connection is there, or a time is over
abbrev pub IsOfNoTask : Notice → Type 0
IsOfNoTask Unserved = ⊥
IsOfNoTask (Connected terms) = ⊤
IsOfNoTask Unreachable = ⊥
IsOfNoTask ClientEnd = ⊥
IsOfNoTask ClientFailed = ⊥
IsOfNoTask (TimeOver clock) = ⊤

-- a task's event is told for this task alone, and for it no other is
abbrev pub MayTell : Task → Notice → Type 0
MayTell task notice = MatchOption (notice_of task) (IsOfNoTask notice) (λ its. notice ≡ its)

-- a client sends no more and, under `option abortonclose`, waits for no answer
abbrev pub has_left : Bool → Bool → Exchange → Bool
has_left ended aborts exchange = ended && aborts && has_asked exchange

-- what is to be done for a guest, where the poll told that its client's connection broke, or where its client has left
abbrev pub task_heard : Bool → Bool → Task → Task
task_heard true left task = Fail
task_heard false true task = Leave
task_heard false false task = task

-- what is to be done next for a guest whose client has left, or which is in this stage; none where it stays in its cell or ends
abbrev pub task_after : Bool → Stage → Option Task
task_after true stage = Some Leave
task_after false stages.Asking = None
task_after false stages.Waiting = Some Arrive
task_after false stages.Dialing = Some Dial
task_after false stages.Forwarding = None
task_after false stages.Telling = None
task_after false stages.Over = None
