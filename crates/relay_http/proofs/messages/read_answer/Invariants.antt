use Rattle.std.proofs.Common.{◌≡◌, ◌+◌, ◌-◌, ◌≤◌, List, [], length}
use Rattle.std.specs.List.{AllByRecursion}
use Rattle.httparse.specs.Grammar.{ResponseHead}
use Rattle.http_bodies.specs.Steps.{ends, Moves}
use Rattle.http_texts.specs.Messages.{IsInterim, print_heads, interims_text}
use Rattle.http_texts.specs.Texts.{framed_for}
use Rattle.relay_http.proofs.messages.read_answer.Given as goal

abbrev pub invariant-heads : goal.invariant-heads
invariant-heads g l = (hs : List ResponseHead) × AllByRecursion (IsInterim l.view.method) hs × (length hs ≡ l.count) × (l.count ≤ 8)
    × Moves (ends l.initial.pipe (g.S.Source.stream l.initial.source) (g.K.Sink.stream l.initial.sink)) (ends l.pipe (g.S.Source.stream l.source)
    (g.K.Sink.stream l.sink)) (print_heads hs) (interims_text (framed_for l.view.version) hs)
    × (l.initial.pipe.outbox ≡ [] → l.pipe.outbox ≡ [])

-- each step takes a head or a turn
abbrev pub decreases-heads : goal.decreases-heads
decreases-heads g l = (8 - l.count) + l.pipe.turns
