-- The status of an answer, at worked examples: what must hold, and what must not.
use Rattle.std.proofs.Common.{◌≡◌, [], ◌∷◌, ◌++◌, None, Some, refl}
use Rattle.std.specs.Prelude.{codes}
use Rattle.exchange_driver.specs.Meters.{answer_status}

an_answer : answer_status (codes "HTTP/1.1 200 OK") ≡ Some 200
an_answer = refl

a_line_so_far : answer_status (codes "HTTP/1.1 20") ≡ None
a_line_so_far = refl

behind_a_hint : answer_status (codes "HTTP/1.1 103 Early Hints" ++ (13 ∷ 10 ∷ codes "Link: </a>" ++ (13 ∷ 10 ∷ 13 ∷ 10 ∷ codes "HTTP/1.1 404 Not Found"))) ≡ Some 404
behind_a_hint = refl

a_hint_alone : answer_status (codes "HTTP/1.1 100 Continue" ++ (13 ∷ 10 ∷ 13 ∷ 10 ∷ [])) ≡ None
a_hint_alone = refl

another_protocol : answer_status (codes "HTTP/1.1 101 Switching Protocols") ≡ Some 101
another_protocol = refl

isnt_the_hint : answer_status (codes "HTTP/1.1 103 Early Hints") ≡ Some 103 → ⊥
isnt_the_hint is = cc
