-- What the machine makes of a request's head that a pipe holds.
use Rattle.std.proofs.Common.{◌≡◌, ◌∙◌, ℕ, ◌+◌, ◌-◌, ◌≤◌, List, [], ◌++◌, length, take, drop, Some, refl, sym, ap, arith, append_assoc, length-append, subst}
use Rattle.std.specs.Prelude.{IsSome, Option}
use Rattle.std.proofs.lemmas.List.{take-append-drop, take_rest, take_all, length-take-le}
use Rattle.httparse.specs.Grammar.{print_request}
use Rattle.base_lists.proofs.Fronts.{behind}
use Rattle.http_bodies.specs.declared.framing.Framing.{Framing}
use Rattle.http_texts.specs.Framings.{request_framing}
use Rattle.http_texts.specs.Heads.{LacksRequest}
use Rattle.http_texts.specs.declared.fault.Fault.{Fault}
use Rattle.http_texts.specs.declared.fault.Fault.TheVariants as Faulty
use Rattle.http_bodies.specs.Steps.{Ends, Moves}
use Rattle.std.specs.Io.KnownBytes.{IsAtEnd}
use Rattle.exchange_machine.specs.Requests.{LacksHead, MayCome}
use Rattle.exchange_machine.specs.Stages.{IsAsking}
use Rattle.exchange_machine.specs.Wholes.{begun}
use Rattle.exchange_machine.specs.declared.asking.Asking.{Asking}
use Rattle.relay_http.specs.Failures.{Fails}
use Rattle.relay_http.proofs.Failing.{fails_head, fails_framing, fails_memory, fails_end}
use Rattle.req_view.specs.Heads.{HasNoHead, Waits}
use Rattle.req_view.specs.Request.{Request}

-- the machine's history of the bytes that it has
pub asking_of : (a : Asking) → HasNoHead a.held.items → MayCome Waits a.held.items → IsAsking a (begun a.held.items)
asking_of a none may = record {
  fresh = record { unsent = record { server = refl; answer = refl }; silent = refl; grants = refl; posts = refl; untried = refl };
  held = refl;
  none = none;
  may = may;
}

-- what is told now
pub input_is : (held inbox front rest : List ℕ) (before : ℕ) → held ≡ inbox → inbox ≡ front ++ rest → before ≡ length front
    → take (length held - before) (drop before held) ≡ rest
input_is held inbox front rest before same all len = take_rest held before ∙ behind held front rest before (same ∙ all) len

-- all of it
pub all_told : (front input rest inbox : List ℕ) (used : ℕ) → input ≡ rest → inbox ≡ front ++ rest → used ≡ length input → front ++ take used input ≡ inbox
all_told front input rest inbox used same all whole =
    ap (λ l. front ++ l) (take_all used input (omega (arith, whole)) ∙ same) ∙ sym all

-- or a part
pub part_told : (front input rest inbox : List ℕ) (used : ℕ) → input ≡ rest → inbox ≡ front ++ rest → inbox ≡ (front ++ take used input) ++ drop used input
part_told front input rest inbox used same all =
    all ∙ ap (λ l. front ++ l) (sym same ∙ sym (take-append-drop used input)) ∙ sym (append_assoc front (take used input) (drop used input))

-- what lacks a head goes on to do so
pub lacks_more : (why : Fault) (l more : List ℕ) → LacksHead why l → LacksHead why (l ++ more)
lacks_more Faulty.Head l more never = λ m. subst (λ (k : List ℕ). HasNoHead k) (sym (append_assoc l more m)) (never (more ++ m))
lacks_more Faulty.Framing l more bad = record {
  head = bad.head;
  rest = bad.rest ++ more;
  is = bad.is;
  input_is = ap (λ k. k ++ more) bad.input_is ∙ append_assoc (print_request bad.head) bad.rest more;
  no_framing = bad.no_framing;
}
lacks_more Faulty.NoMemory l more lacks = tt
lacks_more Faulty.Read l more lacks = absurd lacks
lacks_more Faulty.Write l more lacks = absurd lacks
lacks_more Faulty.Turns l more lacks = absurd lacks
lacks_more Faulty.Closed l more lacks = absurd lacks

-- how many bytes a head has that stands in what was told
pub told_count : (front input head rest : List ℕ) (used : ℕ) → used ≤ length input → front ++ take used input ≡ head ++ rest
    → length front + used ≡ length head + length rest
told_count front input head rest used within is =
    omega (
      arith,
      length-append front (take used input),
      length-take-le used input within,
      length-append head rest,
      ap (length {A = ℕ}) is,
    )

pub is_some : (r s : Request) (framing : Framing) → s ≡ r → request_framing r ≡ Some framing → IsSome (request_framing s)
is_some r s framing same is = subst (λ (o : Option Framing). IsSome o) (sym (ap request_framing same ∙ is)) refl

-- a head is wanting
pub fails_lacking : {a b : Ends} (fault : Fault) → Moves a b [] [] → LacksHead fault b.pipe.inbox → Fails a b [] [] LacksRequest HasNoHead fault
fails_lacking Faulty.Head so_far why = fails_head LacksRequest HasNoHead so_far why
fails_lacking Faulty.Framing so_far why = fails_framing LacksRequest HasNoHead so_far why
fails_lacking Faulty.NoMemory so_far why = fails_memory LacksRequest HasNoHead so_far tt
fails_lacking Faulty.Read so_far why = absurd why
fails_lacking Faulty.Write so_far why = absurd why
fails_lacking Faulty.Turns so_far why = absurd why
fails_lacking Faulty.Closed so_far why = absurd why

-- at the input's end
pub fails_ended : {a b : Ends} (fault : Fault) → Moves a b [] [] → IsAtEnd b.source.bytes → LacksRequest fault b.pipe.inbox
    → b.pipe.outbox ≡ a.pipe.outbox
    → Fails a b [] [] LacksRequest HasNoHead fault
fails_ended Faulty.Head so_far end why waits = fails_head LacksRequest HasNoHead so_far why
fails_ended Faulty.Framing so_far end why waits = fails_framing LacksRequest HasNoHead so_far why
fails_ended Faulty.NoMemory so_far end why waits = fails_memory LacksRequest HasNoHead so_far tt
fails_ended Faulty.Read so_far end why waits = fails_end LacksRequest HasNoHead so_far end why why (λ none. waits ∙ none)
fails_ended Faulty.Write so_far end why waits = absurd why
fails_ended Faulty.Turns so_far end why waits = absurd why
fails_ended Faulty.Closed so_far end why waits = absurd why
