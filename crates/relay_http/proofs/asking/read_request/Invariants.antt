use Rattle.std.proofs.Common.{◌≡◌, ◌⊎◌, []}
use Rattle.base_streams.specs.Streams.{Stream}
use Rattle.http_bodies.specs.Steps.{ends, Moves}
use Rattle.exchange_machine.specs.Requests.{MayCome}
use Rattle.req_view.specs.Heads.{HasNoHead, Waits}
use Rattle.relay_http.specs.Askings.{HasAsked}
use Rattle.relay_http.proofs.asking.read_request.Given as goal

abbrev pub invariant-reading : goal.invariant-reading
invariant-reading g l = ((w : Stream)
    → Moves (ends l.initial.pipe (g.S.Source.stream l.initial.source) w) (ends l.pipe (g.S.Source.stream l.source) w) [] [])
    × (l.pipe.outbox ≡ l.initial.pipe.outbox) × HasAsked l.asking l.pipe.inbox
    × ((HasNoHead l.initial.pipe.inbox × MayCome Waits l.initial.pipe.inbox)
    ⊎ ((g.S.Source.stream l.source ≡ g.S.Source.stream l.initial.source) × (l.pipe.inbox ≡ l.initial.pipe.inbox)))

abbrev pub decreases-reading : goal.decreases-reading
decreases-reading g l = l.pipe.turns
