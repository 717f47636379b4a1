-- Heads without what follows them.
use Rattle.std.proofs.Common.{ℕ, List, sym, append-nil}
use Rattle.httparse.specs.Grammar.{RequestHead, ResponseHead, print_request, print_response}
use Rattle.http_texts.specs.Heads.{IsRequest, IsAnswer}
use Rattle.req_view.specs.AnswerHeads.{HasAnswer}
use Rattle.req_view.specs.Heads.{HasHead}

pub request_alone : {bytes rest : List ℕ} (h : RequestHead) → HasHead bytes h rest → IsRequest h
request_alone h has = (
  record { reads = (has.0.reads.0, sym (append-nil (print_request h))); few_bytes = has.0.few_bytes; few_fields = has.0.few_fields },
  has.1,
)

pub answer_alone : {bytes rest : List ℕ} (h : ResponseHead) → HasAnswer bytes h rest → IsAnswer h
answer_alone h has = record { reads = (has.reads.0, sym (append-nil (print_response h))); few_bytes = has.few_bytes; few_fields = has.few_fields }
