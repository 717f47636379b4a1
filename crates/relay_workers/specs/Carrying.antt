-- What is read from a client and its server, and written to them, and in which order.
use Rattle.std.specs.Prelude.{◌≡◌, ℕ, List, true, Option, None, Some}
use Rattle.std.specs.Io.KnownBytes.{Appends}
use Rattle.base_verdict.specs.declared.Verdict.{Verdict}
use Rattle.base_verdict.specs.declared.Verdict.TheVariants.{Serve, Told}
use Rattle.grant_board.specs.Views.{Grant}
use Rattle.http_texts.specs.Replies.{leave_text, refusal_text}
use Rattle.relay_http.specs.Calls.{Forwards, FailsToForward, Answers, FailsToAnswer}
use Rattle.relay_http.specs.Failures.{WrotePrefix}
use Rattle.relay_http.specs.declared.closing.Closing.{Closing}
use Rattle.relay_http.specs.declared.closing.Closing.TheVariants.{Reading, Leaving, Forwarding, Answering, Breaking}
use Rattle.relay_http.specs.declared.exchange.Exchange.{Exchange}
use Rattle.relay_workers.specs.Gates.{Notice, noted}
use Rattle.relay_workers.specs.Gates.Notice.{Connected, Disconnected}
use Rattle.relay_workers.specs.declared.outcome.Outcome.{Outcome}
use Rattle.relay_workers.specs.declared.outcome.Outcome.TheVariants.{Answered, Refused, Cut}
use Rattle.req_view.specs.Request.{Request}

-- C is the type of a client, S that of its server's connection; of each, what is left to read and
-- what was written to it, where they are known.
module _ {C : Type 0} (told : C → Option (List ℕ)) where
  -- the client was told a refusal, whole or, where its write failed, a front of it; else it is as it was
  abbrev pub IsToldOutcome : Exchange → Outcome → C → C → Type 0
  IsToldOutcome exchange (Refused code) client client_then =
      WrotePrefix (told client) (told client_then) (refusal_text code)
      × (exchange.reached ≡ true → Appends (told client) (told client_then) (refusal_text code))
  IsToldOutcome exchange Answered client client_then = client_then ≡ client
  IsToldOutcome exchange Cut client client_then = client_then ≡ client

module _ {C : Type 0} (left told : C → Option (List ℕ)) where
  -- nothing was read from it or written to it
  pub record IsUntouched (client client_then : C) : Type 0 where
    pub left_is : left client_then ≡ left client
    pub told_is : told client_then ≡ told client

module _ {C S : Type 0} (left told : C → Option (List ℕ)) (left_there told_there : S → Option (List ℕ)) where
  -- the `100` was sent to the client, where it waits for it, and then its request to the server, with
  -- the body that was held or is left
  pub record IsAsked (view : Request) (held : List ℕ) (client client_then : C) (server server_then : S) : Type 0 where
    pub waiting : C
    pub leave : Appends (told client) (told waiting) (leave_text view)
    pub rest : List ℕ
    pub forwards : Forwards view held rest (left waiting) (left client_then) (told_there server) (told_there server_then)

  -- all that was read and written between them, by the fault that closed the exchange, where one did
  abbrev pub IsRelayed : Option Closing → Request → List ℕ → C → C → S → S → Type 0
  IsRelayed None view held client client_then server server_then =
      (asking : C) × (asked : S) × IsAsked view held client asking server asked
      × ((rest : List ℕ) × Answers view rest (left_there asked) (left_there server_then) (told asking) (told client_then))
  IsRelayed (Some (Reading fault)) view held client client_then server server_then = ⊥
  IsRelayed (Some (Leaving fault)) view held client client_then server server_then =
      WrotePrefix (told client) (told client_then) (leave_text view) × (server_then ≡ server)
  IsRelayed (Some (Forwarding fault)) view held client client_then server server_then =
      (waiting : C) × Appends (told client) (told waiting) (leave_text view)
      × FailsToForward view held (left waiting) (left client_then) (told_there server) (told_there server_then) fault
  IsRelayed (Some (Answering fault)) view held client client_then server server_then =
      (asking : C) × (asked : S) × IsAsked view held client asking server asked
      × FailsToAnswer view (left_there asked) (left_there server_then) (told asking) (told client_then) fault
  IsRelayed (Some (Breaking fault)) view held client client_then server server_then =
      (asking : C) × (asked : S) × IsAsked view held client asking server asked
      × FailsToAnswer view (left_there asked) (left_there server_then) (told asking) (told client_then) fault

  -- it was relayed between the client and the server, and then the client was told the refusal that the outcome is
  abbrev pub IsHandedOn : Exchange → Outcome → Request → List ℕ → C → C → S → S → Type 0
  IsHandedOn exchange outcome view held client client_then server server_then =
      (ended : C) × IsRelayed exchange.closing view held client ended server server_then × IsToldOutcome told exchange outcome ended client_then

  -- A request was served under a pass: the gate gave a connection for the pass, the request was handed
  -- on to it, and the gate took the connection back; or the client was told why it has no slot.
  abbrev pub IsServed : Verdict → Grant → Exchange → Outcome → Request → List ℕ → C → C → Option (List (Notice C S)) → Option (List (Notice C S)) → Type 0
  IsServed (Serve server) pass exchange outcome view held client client_then before after =
      (there : S) × (there_then : S) × IsHandedOn exchange outcome view held client client_then there there_then
      × (after ≡ noted (Disconnected there_then) (noted (Connected pass there) before))
  IsServed (Told cause) pass exchange outcome view held client client_then before after =
      IsToldOutcome told exchange outcome client client_then × (after ≡ before)
