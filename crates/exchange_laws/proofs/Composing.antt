-- A client's connection, step by step.
use Rattle.std.proofs.Common.{◌≡◌, ◌∙◌, ℕ, inl, inr, List, [], ◌∷◌, ◌++◌, refl, sym, ap, append_assoc, append-nil}
use Rattle.std.specs.Prelude.{zero, suc}
use Rattle.std.specs.List.{flat_map, AllByRecursion}
use Rattle.grant_board.specs.Views.{Grant}
use Rattle.base_lists.proofs.Members.{all_append}
use Rattle.http_texts.specs.declared.additions.Additions.{Additions}
use Rattle.exchange_machine.specs.Histories.{ExchangeHistory}
use Rattle.exchange_machine.specs.Wholes.{Whole, IsWhole, asked, told}
use Rattle.exchange_events.specs.Chains.{IsBegun, IsNext}
use Rattle.exchange_events.specs.Steps.{IsAtItsStage, history_after, heard, ended, came_pass, connected_with}
use Rattle.exchange_events.specs.declared.event.Event.{Event}
use Rattle.exchange_events.specs.declared.event.Event.TheVariants as Events
use Rattle.exchange_events.specs.declared.exchange.Exchange.{Exchange}
use Rattle.exchange_events.specs.declared.exchange.Outcome.{Outcome}
use Rattle.exchange_events.specs.declared.exchange.Outcome.TheVariants as Outcomes
use Rattle.exchange_events.proofs.StepLemmas.{at_sound}
use Rattle.exchange_laws.specs.Connections.{Connection, bytes_in, bytes_out}
use Rattle.exchange_laws.specs.Connections.Connection.{begins, goes_on, asks_again}
use Rattle.exchange_laws.specs.Orders.{AnsweredInOrder, IsOpenToClient}
use Rattle.exchange_laws.proofs.Counting.{one_more}

-- what is given away is neither a byte of the client's nor one for it
ended_in : (outcome : Outcome) (h : ExchangeHistory) → (ended outcome h).client_in ≡ h.client_in
ended_in Outcomes.Quiet h = refl
ended_in (Outcomes.Posts pass ending) h = refl
ended_in Outcomes.Starved h = refl
ended_in (Outcomes.StarvedPosts pass ending) h = refl
ended_in Outcomes.Retries h = refl
ended_in (Outcomes.Returns pass) h = refl

ended_out : (outcome : Outcome) (h : ExchangeHistory) → (ended outcome h).to_client ≡ h.to_client
ended_out Outcomes.Quiet h = refl
ended_out (Outcomes.Posts pass ending) h = refl
ended_out Outcomes.Starved h = refl
ended_out (Outcomes.StarvedPosts pass ending) h = refl
ended_out Outcomes.Retries h = refl
ended_out (Outcomes.Returns pass) h = refl

pass_in : (used : ℕ) (pass : Grant) (h : ExchangeHistory) → (came_pass used pass h).client_in ≡ h.client_in ++ []
pass_in zero pass h = sym (append-nil h.client_in)
pass_in (suc n) pass h = sym (append-nil h.client_in)

pass_out : (used : ℕ) (pass : Grant) (h : ExchangeHistory) → (came_pass used pass h).to_client ≡ h.to_client ++ []
pass_out zero pass h = sym (append-nil h.to_client)
pass_out (suc n) pass h = sym (append-nil h.to_client)

terms_in : (used : ℕ) (adds : Additions) (h : ExchangeHistory) → (connected_with used adds h).client_in ≡ h.client_in ++ []
terms_in zero adds h = sym (append-nil h.client_in)
terms_in (suc n) adds h = sym (append-nil h.client_in)

terms_out : (used : ℕ) (adds : Additions) (h : ExchangeHistory) → (connected_with used adds h).to_client ≡ h.to_client ++ []
terms_out zero adds h = sym (append-nil h.to_client)
terms_out (suc n) adds h = sym (append-nil h.to_client)

heard_in : (x : Exchange) (event : Event) (used : ℕ) (h : ExchangeHistory) → (heard x event used h).client_in ≡ h.client_in ++ bytes_in event used
heard_in x (Events.ClientBytes input) used h = refl
heard_in x (Events.ServerBytes input) used h = sym (append-nil h.client_in)
heard_in x (Events.ClientTook count) used h = sym (append-nil h.client_in)
heard_in x (Events.ServerTook count) used h = sym (append-nil h.client_in)
heard_in x (Events.Granted pass) used h = pass_in used pass h
heard_in x Events.Unserved used h = sym (append-nil h.client_in)
heard_in x (Events.Connected terms) used h = terms_in used terms.adds h
heard_in x Events.Unreachable used h = sym (append-nil h.client_in)
heard_in x Events.ClientEnd used h = sym (append-nil h.client_in)
heard_in x Events.ClientFailed used h = sym (append-nil h.client_in)
heard_in x Events.ServerEnd used h = sym (append-nil h.client_in)
heard_in x Events.ServerFailed used h = sym (append-nil h.client_in)
heard_in x Events.ServerDeaf used h = sym (append-nil h.client_in)
heard_in x (Events.TimeOver clock) used h = sym (append-nil h.client_in)

heard_out : (x : Exchange) (event : Event) (used : ℕ) (h : ExchangeHistory) → (heard x event used h).to_client ≡ h.to_client ++ bytes_out x event
heard_out x (Events.ClientBytes input) used h = sym (append-nil h.to_client)
heard_out x (Events.ServerBytes input) used h = sym (append-nil h.to_client)
heard_out x (Events.ClientTook count) used h = refl
heard_out x (Events.ServerTook count) used h = sym (append-nil h.to_client)
heard_out x (Events.Granted pass) used h = pass_out used pass h
heard_out x Events.Unserved used h = sym (append-nil h.to_client)
heard_out x (Events.Connected terms) used h = terms_out used terms.adds h
heard_out x Events.Unreachable used h = sym (append-nil h.to_client)
heard_out x Events.ClientEnd used h = sym (append-nil h.to_client)
heard_out x Events.ClientFailed used h = sym (append-nil h.to_client)
heard_out x Events.ServerEnd used h = sym (append-nil h.to_client)
heard_out x Events.ServerFailed used h = sym (append-nil h.to_client)
heard_out x Events.ServerDeaf used h = sym (append-nil h.to_client)
heard_out x (Events.TimeOver clock) used h = sym (append-nil h.to_client)

-- the two sides of a connection, behind exchanges that are whole
record Sides (before : List Whole) (x : Exchange) (h : ExchangeHistory) (input output : List ℕ) : Type 0 where
  each : AllByRecursion IsWhole before
  stays : AllByRecursion IsOpenToClient before
  came : input ≡ flat_map asked before ++ h.client_in
  went : output ≡ flat_map told before ++ h.to_client
  at : IsAtItsStage x h

begun_in : (x : Exchange) (bytes : List ℕ) → (is : IsBegun x bytes) → is.now.client_in ≡ bytes
begun_in x bytes is = elim is.is [ inl e ↦ ap (λ (h : ExchangeHistory). h.client_in) e | inr e ↦ ap (λ (h : ExchangeHistory). h.client_in) e ]

begun_out : (x : Exchange) (bytes : List ℕ) → (is : IsBegun x bytes) → is.now.to_client ≡ []
begun_out x bytes is = elim is.is [ inl e ↦ ap (λ (h : ExchangeHistory). h.to_client) e | inr e ↦ ap (λ (h : ExchangeHistory). h.to_client) e ]

step_sides : (before : List Whole) (x y : Exchange) (h : ExchangeHistory) (input output : List ℕ) (event : Event) (used : ℕ) (outcome : Outcome)
    → Sides before x h input output → IsAtItsStage y (history_after x event used outcome h)
    → Sides before y (history_after x event used outcome h) (input ++ bytes_in event used) (output ++ bytes_out x event)
step_sides before x y h input output event used outcome s at = record {
  each = s.each;
  stays = s.stays;
  came =
      ap (λ l. l ++ bytes_in event used) s.came ∙ append_assoc (flat_map asked before) h.client_in (bytes_in event used)
      ∙ ap (λ l. flat_map asked before ++ l) (sym (heard_in x event used h) ∙ sym (ended_in outcome (heard x event used h)));
  went =
      ap (λ l. l ++ bytes_out x event) s.went ∙ append_assoc (flat_map told before) h.to_client (bytes_out x event)
      ∙ ap (λ l. flat_map told before ++ l) (sym (heard_out x event used h) ∙ sym (ended_out outcome (heard x event used h)));
  at = at;
}

next_sides : (before : List Whole) (x y : Exchange) (h : ExchangeHistory) (input output : List ℕ) → Sides before x h input output → (next : IsNext h y)
    → Sides (before ++ next.whole ∷ []) y next.begins.now input output
next_sides before x y h input output s next =
    let w = next.whole in
    let e = next.ends in
    let now = next.begins.now in
    record {
      each = all_append IsWhole before (w ∷ []) s.each (e.is, tt);
      stays = all_append IsOpenToClient before (w ∷ []) s.stays (next.left_open, tt);
      came =
          s.came ∙ ap (λ l. flat_map asked before ++ l) e.came ∙ sym (one_more asked before w next.behind)
          ∙ ap (λ l. flat_map asked (before ++ w ∷ []) ++ l) (sym (begun_in y next.behind next.begins));
      went =
          s.went ∙ ap (λ l. flat_map told before ++ l) (sym (append-nil h.to_client) ∙ sym e.tells ∙ sym (append-nil (told w)))
          ∙ sym (one_more told before w []) ∙ ap (λ l. flat_map told (before ++ w ∷ []) ++ l) (sym (begun_out y next.behind next.begins));
      at = next.begins.at;
    }

sides : (before : List Whole) (x : Exchange) (h : ExchangeHistory) (input output : List ℕ) → Connection before x h input output → Sides before x h input output
sides all z g i o (begins x at) = record { each = tt; stays = tt; came = refl; went = refl; at = at }
sides all z g i o (goes_on before x y h input output event used outcome c at) =
    step_sides before x y h input output event used outcome (sides before x h input output c) at
sides all z g i o (asks_again before x y h input output c next) = next_sides before x y h input output (sides before x h input output c) next

pub in_order : (before : List Whole) (x : Exchange) (h : ExchangeHistory) (input output : List ℕ) → Connection before x h input output
    → AnsweredInOrder before h input output
in_order before x h input output c =
    let s = sides before x h input output c in
    let sound = at_sound x h s.at in
    record {
      each = s.each;
      stays = s.stays;
      input_is = s.came;
      output_is = s.went;
      text = sound.client.text;
      last = sound.client.is;
      front = sound.client.front;
    }
