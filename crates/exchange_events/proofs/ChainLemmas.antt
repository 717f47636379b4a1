-- An exchange that makes way for the next.
use Rattle.std.proofs.Common.{◌≡◌, ◌∙◌, ℕ, true, true≢false, List, [], ◌∷◌, ◌++◌, refl, sym, subst, inl, inr}
use Rattle.exchange_machine.specs.Answerings.{TellsAnswer}
use Rattle.exchange_machine.specs.Histories.{ExchangeHistory, signed}
use Rattle.exchange_machine.specs.Settlings.{IsSettling}
use Rattle.exchange_machine.specs.Wants.{is_none}
use Rattle.exchange_machine.specs.Wholes.{Ends, EndsClean, begun}
use Rattle.exchange_machine.specs.declared.settling.Settling.{Settling as Settled}
use Rattle.exchange_machine.specs.declared.signs.Sign.TheVariants as Signs
use Rattle.exchange_machine.proofs.Answering.{settling_tells}
use Rattle.exchange_events.specs.Chains.{IsBegun, IsNext, is_answered, is_clean, is_silent}
use Rattle.exchange_events.specs.Steps.{IsAtItsStage, to_client}
use Rattle.exchange_events.specs.declared.exchange.Exchange.{Exchange}
use Rattle.exchange_events.specs.declared.exchange.Exchange.TheVariants.{Asking, Waiting, Dialing, Forwarding, Settling, Leaving, Telling, Over}

text_as : (h : ExchangeHistory) (one other : List ℕ) → one ≡ other → TellsAnswer h.signs h.client_in h.server_in one
    → TellsAnswer h.signs h.client_in h.server_in other
text_as h one other e is = subst (λ (l : List ℕ). TellsAnswer h.signs h.client_in h.server_in l) e is

pub answered_whole : (x : Exchange) (h : ExchangeHistory) → is_answered x ≡ true → IsAtItsStage x h → TellsAnswer h.signs h.client_in h.server_in (h.to_client ++ to_client x)
answered_whole (Asking a) h on is = absurd (true≢false (sym on))
answered_whole (Waiting w) h on is = absurd (true≢false (sym on))
answered_whole (Dialing d) h on is = absurd (true≢false (sym on))
answered_whole (Forwarding p) h on is = absurd (true≢false (sym on))
answered_whole (Settling s) h on is = text_as h _ (h.to_client ++ s.out.out) is.ends.tells (settling_tells s h is)
answered_whole (Leaving l) h on is = text_as h is.text (h.to_client ++ l.out.out) is.told (is.whole on)
answered_whole (Telling t) h on is = absurd (true≢false (sym on))
answered_whole Over h on is = absurd (true≢false (sym on))

-- whose client may ask again
settled_clean : (s : Settled) (h : ExchangeHistory) → s.clean ≡ true → IsSettling s h → EndsClean h s.out.out
settled_clean s h on is =
    let all = is.clean on in
    record {
      whole = is.whole;
      behind = s.behind.items;
      ends = subst (λ (l : List ℕ). Ends h is.whole s.behind.items s.out.out l []) all.0
          (subst (λ (l : List ℕ). Ends h is.whole s.behind.items s.out.out is.unsent l) all.1 is.ends);
      asks = all.2;
      keeps = all.3;
      bare = all.4;
    }

pub clean_ends : (x : Exchange) (h : ExchangeHistory) → is_clean x ≡ true → IsAtItsStage x h → EndsClean h (to_client x)
clean_ends (Asking a) h on is = absurd (true≢false (sym on))
clean_ends (Waiting w) h on is = absurd (true≢false (sym on))
clean_ends (Dialing d) h on is = absurd (true≢false (sym on))
clean_ends (Forwarding p) h on is = absurd (true≢false (sym on))
clean_ends (Settling s) h on is = settled_clean s h on is
clean_ends (Leaving l) h on is = is.clean on
clean_ends (Telling t) h on is = absurd (true≢false (sym on))
clean_ends Over h on is = absurd (true≢false (sym on))

none_is : (bytes : List ℕ) → is_none bytes ≡ true → bytes ≡ []
none_is [] is = refl
none_is (b ∷ bytes) is = absurd (true≢false (sym is))

pub silent_none : (x : Exchange) (h : ExchangeHistory) → is_silent x ≡ true → IsAtItsStage x h → (h.client_in ≡ []) × (h.to_client ≡ []) × (h.grants ≡ [])
silent_none (Asking a) h on is = (is.held ∙ none_is a.held.items on, is.fresh.silent, is.fresh.grants)
silent_none (Waiting w) h on is = absurd (true≢false (sym on))
silent_none (Dialing d) h on is = absurd (true≢false (sym on))
silent_none (Forwarding p) h on is = absurd (true≢false (sym on))
silent_none (Settling s) h on is = absurd (true≢false (sym on))
silent_none (Leaving l) h on is = absurd (true≢false (sym on))
silent_none (Telling t) h on is = absurd (true≢false (sym on))
silent_none Over h on is = absurd (true≢false (sym on))

-- what was settled, once all was told
pub settled_next : (s : Settled) (h : ExchangeHistory) (next : Exchange) → s.out.out ≡ [] → IsBegun next s.behind.items → IsSettling s h → IsNext h next
settled_next s h next none begins is = record {
  whole = is.whole;
  behind = s.behind.items;
  unsent = is.unsent;
  extra = is.extra;
  ends = subst (λ (l : List ℕ). Ends h is.whole s.behind.items l is.unsent is.extra) none is.ends;
  left_open = is.left_open;
  begins = begins;
}

-- a new exchange has a history
pub begun_at : (x : Exchange) (bytes : List ℕ) → IsBegun x bytes → (h : ExchangeHistory) × IsAtItsStage x h
begun_at x bytes is = (is.now, is.at)

pub at_once : (x : Exchange) (bytes : List ℕ) → IsAtItsStage x (begun bytes) → IsBegun x bytes
at_once x bytes at = record { now = begun bytes; is = inl refl; at = at }

pub without_memory : (x : Exchange) (bytes : List ℕ) → IsAtItsStage x (signed (begun bytes) Signs.NoMemory) → IsBegun x bytes
without_memory x bytes at = record { now = signed (begun bytes) Signs.NoMemory; is = inr refl; at = at }
