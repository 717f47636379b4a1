-- A server's connection, step by step.
use Rattle.std.proofs.Common.{◌≡◌, ◌≢◌, ◌∙◌, ℕ, List, [], ◌∷◌, ◌++◌, refl, sym, ap, append_assoc, append-nil}
use Rattle.std.specs.Prelude.{zero, suc}
use Rattle.std.specs.List.{flat_map, AllByRecursion}
use Rattle.grant_board.specs.Views.{Grant}
use Rattle.base_lists.proofs.Members.{all_append}
use Rattle.http_texts.specs.declared.additions.Additions.{Additions}
use Rattle.exchange_machine.specs.Histories.{ExchangeHistory}
use Rattle.exchange_machine.specs.Stages.{IsUnsent}
use Rattle.exchange_machine.specs.Wholes.{Whole, IsWhole, EndsClean, forwarded_of, answer_of_server}
use Rattle.exchange_events.specs.Steps.{IsAtItsStage, history_after, heard, came_pass, connected_with}
use Rattle.exchange_events.specs.declared.event.Event.{Event}
use Rattle.exchange_events.specs.declared.event.Event.TheVariants as Events
use Rattle.exchange_events.specs.declared.exchange.Exchange.{Exchange}
use Rattle.exchange_events.specs.declared.exchange.Outcome.{Outcome}
use Rattle.exchange_events.specs.declared.exchange.Outcome.TheVariants as Outcomes
use Rattle.exchange_events.proofs.StepLemmas.{at_sound}
use Rattle.exchange_seated.specs.Connections.{IsOpenToServer, SentInOrder}
use Rattle.exchange_laws.specs.ServerConnections.{ServerConnection, bytes_sent, bytes_come}
use Rattle.exchange_laws.specs.ServerConnections.ServerConnection.{opens, goes_on, handed_on}
use Rattle.exchange_seated.proofs.Connecting.{ended_sent, ended_came, handed}

pass_sent : (used : ℕ) (pass : Grant) (h : ExchangeHistory) → (came_pass used pass h).to_server ≡ h.to_server ++ []
pass_sent zero pass h = sym (append-nil h.to_server)
pass_sent (suc n) pass h = sym (append-nil h.to_server)

pass_came : (used : ℕ) (pass : Grant) (h : ExchangeHistory) → (came_pass used pass h).server_in ≡ h.server_in ++ []
pass_came zero pass h = sym (append-nil h.server_in)
pass_came (suc n) pass h = sym (append-nil h.server_in)

terms_sent : (used : ℕ) (adds : Additions) (h : ExchangeHistory) → (connected_with used adds h).to_server ≡ h.to_server ++ []
terms_sent zero adds h = sym (append-nil h.to_server)
terms_sent (suc n) adds h = sym (append-nil h.to_server)

terms_came : (used : ℕ) (adds : Additions) (h : ExchangeHistory) → (connected_with used adds h).server_in ≡ h.server_in ++ []
terms_came zero adds h = sym (append-nil h.server_in)
terms_came (suc n) adds h = sym (append-nil h.server_in)

heard_sent : (x : Exchange) (event : Event) (used : ℕ) (h : ExchangeHistory) → (heard x event used h).to_server ≡ h.to_server ++ bytes_sent x event
heard_sent x (Events.ClientBytes input) used h = sym (append-nil h.to_server)
heard_sent x (Events.ServerBytes input) used h = sym (append-nil h.to_server)
heard_sent x (Events.ClientTook count) used h = sym (append-nil h.to_server)
heard_sent x (Events.ServerTook count) used h = refl
heard_sent x (Events.Granted pass) used h = pass_sent used pass h
heard_sent x Events.Unserved used h = sym (append-nil h.to_server)
heard_sent x (Events.Connected terms) used h = terms_sent used terms.adds h
heard_sent x Events.Unreachable used h = sym (append-nil h.to_server)
heard_sent x Events.ClientEnd used h = sym (append-nil h.to_server)
heard_sent x Events.ClientFailed used h = sym (append-nil h.to_server)
heard_sent x Events.ServerEnd used h = sym (append-nil h.to_server)
heard_sent x Events.ServerFailed used h = sym (append-nil h.to_server)
heard_sent x Events.ServerDeaf used h = sym (append-nil h.to_server)
heard_sent x (Events.TimeOver clock) used h = sym (append-nil h.to_server)

heard_came : (x : Exchange) (event : Event) (used : ℕ) (h : ExchangeHistory) → (heard x event used h).server_in ≡ h.server_in ++ bytes_come event used
heard_came x (Events.ClientBytes input) used h = sym (append-nil h.server_in)
heard_came x (Events.ServerBytes input) used h = refl
heard_came x (Events.ClientTook count) used h = sym (append-nil h.server_in)
heard_came x (Events.ServerTook count) used h = sym (append-nil h.server_in)
heard_came x (Events.Granted pass) used h = pass_came used pass h
heard_came x Events.Unserved used h = sym (append-nil h.server_in)
heard_came x (Events.Connected terms) used h = terms_came used terms.adds h
heard_came x Events.Unreachable used h = sym (append-nil h.server_in)
heard_came x Events.ClientEnd used h = sym (append-nil h.server_in)
heard_came x Events.ClientFailed used h = sym (append-nil h.server_in)
heard_came x Events.ServerEnd used h = sym (append-nil h.server_in)
heard_came x Events.ServerFailed used h = sym (append-nil h.server_in)
heard_came x Events.ServerDeaf used h = sym (append-nil h.server_in)
heard_came x (Events.TimeOver clock) used h = sym (append-nil h.server_in)

-- the two ways of a server's connection, behind exchanges that are whole
record Ways (before : List Whole) (x : Exchange) (h : ExchangeHistory) (sent came : List ℕ) : Type 0 where
  each : AllByRecursion IsWhole before
  stays : AllByRecursion IsOpenToServer before
  went : sent ≡ flat_map forwarded_of before ++ h.to_server
  got : came ≡ flat_map answer_of_server before ++ h.server_in
  at : IsAtItsStage x h

opened : (x : Exchange) (h : ExchangeHistory) → IsAtItsStage x h → IsUnsent h → Ways [] x h [] []
opened x h at none = record { each = tt; stays = tt; went = sym none.server; got = sym none.answer; at = at }

step_ways : (before : List Whole) (x y : Exchange) (h : ExchangeHistory) (sent came : List ℕ) (event : Event) (used : ℕ) (outcome : Outcome)
    → Ways before x h sent came → outcome ≢ Outcomes.Retries → IsAtItsStage y (history_after x event used outcome h)
    → Ways before y (history_after x event used outcome h) (sent ++ bytes_sent x event) (came ++ bytes_come event used)
step_ways before x y h sent came event used outcome s stays at = record {
  each = s.each;
  stays = s.stays;
  went =
      ap (λ l. l ++ bytes_sent x event) s.went ∙ append_assoc (flat_map forwarded_of before) h.to_server (bytes_sent x event)
      ∙ ap (λ l. flat_map forwarded_of before ++ l) (sym (heard_sent x event used h) ∙ sym (ended_sent outcome (heard x event used h) stays));
  got =
      ap (λ l. l ++ bytes_come event used) s.got ∙ append_assoc (flat_map answer_of_server before) h.server_in (bytes_come event used)
      ∙ ap (λ l. flat_map answer_of_server before ++ l) (sym (heard_came x event used h) ∙ sym (ended_came outcome (heard x event used h) stays));
  at = at;
}

-- a text that was sent whole, and then nothing more yet, is one more
handed_on_to : (f : Whole → List ℕ) (before : List Whole) (w : Whole) (all now next : List ℕ) → all ≡ flat_map f before ++ now → f w ≡ now → next ≡ []
    → all ≡ flat_map f (before ++ w ∷ []) ++ next
handed_on_to f before w all now next is whole none =
    handed f before w all now is whole ∙ sym (append-nil (flat_map f (before ++ w ∷ []))) ∙ ap (λ l. flat_map f (before ++ w ∷ []) ++ l) (sym none)

next_ways : (before : List Whole) (x y : Exchange) (h next : ExchangeHistory) (sent came out : List ℕ) → Ways before x h sent came → (clean : EndsClean h out)
    → IsAtItsStage y next → IsUnsent next → Ways (before ++ clean.whole ∷ []) y next sent came
next_ways before x y h next sent came out s clean at none =
    let w = clean.whole in
    let e = clean.ends in
    record {
      each = all_append IsWhole before (w ∷ []) s.each (e.is, tt);
      stays = all_append IsOpenToServer before (w ∷ []) s.stays (record { asks = clean.asks; kept = clean.keeps }, tt);
      went = handed_on_to forwarded_of before w sent h.to_server next.to_server s.went (e.sends ∙ append-nil h.to_server) none.server;
      got = handed_on_to answer_of_server before w came h.server_in next.server_in s.got (sym (append-nil w.answer) ∙ sym e.answers) none.answer;
      at = at;
    }

ways : (before : List Whole) (x : Exchange) (h : ExchangeHistory) (sent came : List ℕ) → ServerConnection before x h sent came → Ways before x h sent came
ways all z g i o (opens x h at none) = opened x h at none
ways all z g i o (goes_on before x y h sent came event used outcome c stays at) =
    step_ways before x y h sent came event used outcome (ways before x h sent came c) stays at
ways all z g i o (handed_on before x y h next sent came out c clean at none) =
    next_ways before x y h next sent came out (ways before x h sent came c) clean at none

pub in_order : (before : List Whole) (x : Exchange) (h : ExchangeHistory) (sent came : List ℕ) → ServerConnection before x h sent came
    → SentInOrder before h sent came
in_order before x h sent came c =
    let s = ways before x h sent came c in
    record { each = s.each; stays = s.stays; sent_is = s.went; came_is = s.got; last = (at_sound x h s.at).server }
