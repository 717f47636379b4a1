-- Answers at worked examples: what must hold, and what must not.
use Rattle.std.proofs.Common.{◌≡◌, ◌∙◌, ℕ, ◌+◌, ◌≤◌, true, false, List, [], ◌∷◌, ◌++◌}
use Rattle.std.proofs.Common.{Some, None, codes, length, refl, sym, ap, subst, arith, append-nil, append_assoc}
use Rattle.std.specs.Char.{is_ascii_digit}
use Rattle.std.specs.Fmt.{digits}
use Rattle.std.specs.List.{All, AllByRecursion, list_all}
use Rattle.std.proofs.lemmas.List.Elements.{All-nil, All-cons}
use Rattle.std.proofs.lemmas.List.Sums.{AllPass-from_list_all}
use Rattle.httparse.specs.Grammar.{Field, IsField, ResponseHead, crlf, print_blank, print_end}
use Rattle.httparse.specs.Grammar.{print_reason, print_response, print_section, is_token_byte, is_value_byte, trim_ows}
use Rattle.httparse.proofs.GrammarLemmas.{print_response-append}
use Rattle.http_bodies.specs.Framings.{IsBody, LacksBody}
use Rattle.http_bodies.specs.declared.framing.Framing.{Framing}
use Rattle.http_bodies.specs.declared.framing.Framing.TheVariants.{Length}
use Rattle.http_texts.specs.Framings.{answer_plan}
use Rattle.http_texts.specs.Heads.{IsAnswer}
use Rattle.http_texts.specs.Messages.{IsInterim, IsFinal, AreInterims, print_heads, IsAnswered, PartOfAnswered, EndsEarly, LacksAnswer}
use Rattle.http_texts.specs.Messages.PartOfAnswered.{some_heads, head_and_body}
use Rattle.http_texts.specs.Messages.EndsEarly.{no_head, no_body}
use Rattle.http_texts.specs.Messages.BadlyFramed.{no_plan, ninth}
use Rattle.http_texts.specs.declared.fault.Fault.TheVariants as Faulty
use Rattle.http_texts.specs.declared.plans.Plan.{Plan}
use Rattle.http_texts.proofs.Agreeing.{same_head}
use Rattle.base_lists.proofs.Fronts.{some_behind}
use Rattle.req_view.specs.Answer.{answer_of}
use Rattle.http_texts.specs.declared.persistence.Persistence.TheVariants.{Close}
use Rattle.req_view.specs.AnswerHeads.{HasNoAnswer}

head : List ℕ → List ℕ → List Field → ResponseHead
head status reason fields = record {
  blank = [];
  minor = 1;
  digits = status;
  reason = Some reason;
  line_end = crlf;
  fields = fields;
  last = crlf;
}

is_head : (status reason : List ℕ) (fields : List Field) → length status ≡ 3 → list_all is_ascii_digit status ≡ true → list_all is_value_byte reason ≡ true
    → All IsField fields → length (print_response (head status reason fields)) ≤ 16384 → length fields ≤ 64 → IsAnswer (head status reason fields)
unfolding head
is_head status reason fields three are_digits is_reason are_fields small few = record {
  reads = (
    record {
      minor = omega arith;
      digits = (three, AllPass-from_list_all is_ascii_digit status are_digits);
      reason = AllPass-from_list_all is_value_byte reason is_reason;
      fields = are_fields;
    },
    sym (append-nil (print_response (head status reason fields))),
  );
  few_bytes = small;
  few_fields = few;
}

two_bytes : Field
two_bytes = record { name = codes "Content-Length"; raw = codes " 2"; end = crlf }

is_two_bytes : IsField two_bytes
unfolding two_bytes is_token_byte
is_two_bytes = record {
  name = (omega arith, AllPass-from_list_all is_token_byte (codes "Content-Length") refl);
  raw = AllPass-from_list_all is_value_byte (codes " 2") refl;
}

-- `HTTP/1.1 200 OK` with a length of 2
ok : ResponseHead
ok = head (codes "200") (codes "OK") (two_bytes ∷ [])

ok_bytes : print_response ok ≡ codes "HTTP/1.1 200 OK\r\nContent-Length: 2\r\n\r\n"
unfolding ok head two_bytes print_response
ok_bytes = refl

ok_length : length (print_response ok) ≡ 38
unfolding ok head two_bytes print_response
ok_length = refl

ok_is_answer : IsAnswer ok
unfolding ok
ok_is_answer =
    let one_field = All-cons IsField two_bytes [] is_two_bytes (All-nil IsField) in
    is_head (codes "200") (codes "OK") (two_bytes ∷ []) refl refl refl one_field (omega (arith, ok_length)) (omega arith)

ok_is_final : IsFinal (codes "GET") ok (record { body = Length 2; stated = Length 2 })
unfolding ok head two_bytes trim_ows
ok_is_final = record { head = ok_is_answer; planned = refl; final = refl }

-- it is no head before an answer
ok_not_interim : ¬ (IsInterim (codes "GET") ok)
unfolding ok head
ok_not_interim is = let wrong : false ≡ true = is.interim in cc

-- `HTTP/1.1 100 Continue`, and `HTTP/1.1 103 X`
leave : ResponseHead
leave = head (codes "100") (codes "Continue") []

hints : ResponseHead
hints = head (codes "103") (codes "X") []

leave_is_interim : IsInterim (codes "GET") leave
unfolding leave head print_response
leave_is_interim = record {
  head = is_head (codes "100") (codes "Continue") [] refl refl refl (All-nil IsField) (omega arith) (omega arith);
  planned = refl;
  interim = refl;
}

hints_length : length (print_response hints) ≡ 18
unfolding hints head print_response
hints_length = refl

hints_is_interim : IsInterim (codes "GET") hints
unfolding hints head
hints_is_interim = record {
  head = is_head (codes "103") (codes "X") [] refl refl refl (All-nil IsField) (omega (arith, hints_length)) (omega arith);
  planned = refl;
  interim = refl;
}

two_interims : AreInterims (codes "GET") (leave ∷ hints ∷ [])
two_interims = record { each = (leave_is_interim, (hints_is_interim, tt)); few = omega arith }

-- the leave stays with the proxy, the hints go to the client, and no byte past the body is used
answered_used : print_heads (leave ∷ hints ∷ []) ++ (print_response ok ++ codes "ab")
    ≡ codes "HTTP/1.1 100 Continue\r\n\r\nHTTP/1.1 103 X\r\n\r\nHTTP/1.1 200 OK\r\nContent-Length: 2\r\n\r\nab"
unfolding ok leave hints head two_bytes print_response
answered_used = refl

answered : IsAnswered Close (codes "GET") true
    (codes "HTTP/1.1 100 Continue\r\n\r\nHTTP/1.1 103 X\r\n\r\nHTTP/1.1 200 OK\r\nContent-Length: 2\r\n\r\nab")
    (codes "HTTP/1.1 103 X\r\n\r\nHTTP/1.1 200 OK\r\nContent-Length: 2\r\nConnection: close\r\n\r\nab")
unfolding ok leave hints head two_bytes trim_ows digits
answered = record {
  interims = leave ∷ hints ∷ [];
  are = two_interims;
  head = ok;
  plan = record { body = Length 2; stated = Length 2 };
  final = ok_is_final;
  body = codes "ab";
  sent_on = codes "ab";
  passes = (refl, refl);
  used_is = sym answered_used;
  text_is = refl;
}

-- a client of version 1.0 gets no hints
answered_to_old : IsAnswered Close (codes "GET") false
    (codes "HTTP/1.1 100 Continue\r\n\r\nHTTP/1.1 103 X\r\n\r\nHTTP/1.1 200 OK\r\nContent-Length: 2\r\n\r\nab")
    (codes "HTTP/1.1 200 OK\r\nContent-Length: 2\r\nConnection: close\r\n\r\nab")
unfolding ok leave hints head two_bytes trim_ows digits
answered_to_old = record {
  interims = leave ∷ hints ∷ [];
  are = two_interims;
  head = ok;
  plan = record { body = Length 2; stated = Length 2 };
  final = ok_is_final;
  body = codes "ab";
  sent_on = codes "ab";
  passes = (refl, refl);
  used_is = sym answered_used;
  text_is = refl;
}

-- the answer without its last byte is no answer, whatever it becomes
two_wanted : (h : ResponseHead) (plan : Plan) (body text : List ℕ) → h ≡ ok → codes "a" ≡ body → IsFinal (codes "GET") h plan
    → IsBody plan.body true body text → ⊥
two_wanted h plan body text same is final passes =
    let plans : Some plan ≡ Some (record { body = Length 2; stated = Length 2 }) =
    sym final.planned ∙ ap (λ (k : ResponseHead). answer_plan (codes "GET") (answer_of k)) same ∙ ok_is_final.planned in
    let bodies : plan.body ≡ Length 2 = cc in
    let length_is = (subst (λ (f : Framing). IsBody f true body text) bodies passes).0 in
    omega (arith, length_is, ap length is)

first_is_ok : (hs : List ResponseHead) (h : ResponseHead) (plan : Plan) (body text : List ℕ) → AllByRecursion (IsInterim (codes "GET")) hs
    → IsFinal (codes "GET") h plan
    → IsBody plan.body true body text
    → print_response ok ++ codes "a" ≡ print_heads hs ++ (print_response h ++ body) → ⊥
first_is_ok [] h plan body text each final passes e =
    let same = same_head ok h (codes "a") body ok_is_answer final.head e in two_wanted h plan body text (sym same.0) same.1 final passes
first_is_ok (k ∷ ks) h plan body text each final passes e =
    let same = same_head ok k (codes "a") (print_heads ks ++ (print_response h ++ body)) ok_is_answer each.0.head
    (e ∙ append_assoc (print_response k) (print_heads ks) (print_response h ++ body)) in
    ok_not_interim (subst (λ (j : ResponseHead). IsInterim (codes "GET") j) (sym same.0) each.0)

not_yet_answered : (text : List ℕ) → ¬ (IsAnswered Close (codes "GET") true (print_response ok ++ codes "a") text)
not_yet_answered text w = first_is_ok w.interims w.head w.plan w.body w.sent_on w.are.each w.final w.passes w.used_is

-- but it is a part of one
part_answered : PartOfAnswered Close (codes "GET") true (codes "HTTP/1.1 200 OK\r\nContent-Length: 2\r\n\r\na")
    (codes "HTTP/1.1 200 OK\r\nContent-Length: 2\r\nConnection: close\r\n\r\na")
unfolding ok head two_bytes trim_ows digits print_response
part_answered =
    let none : AreInterims (codes "GET") [] = record { each = tt; few = omega arith } in
    head_and_body [] ok (record { body = Length 2; stated = Length 2 }) (codes "a") (codes "a") none ok_is_final (omega arith, refl)

-- and so are the heads before it alone
heads_alone : PartOfAnswered Close (codes "GET") true (codes "HTTP/1.1 100 Continue\r\n\r\nHTTP/1.1 103 X\r\n\r\n") (codes "HTTP/1.1 103 X\r\n\r\n")
unfolding leave hints head print_response
heads_alone = some_heads (leave ∷ hints ∷ []) two_interims

-- no head stands in nothing
behind_first : ResponseHead → List ℕ → List ℕ
behind_first h rest =
    codes "TTP/1." ++ ((48 + h.minor) ∷ (32 ∷ (h.digits ++ (print_reason h.reason ++ (print_end h.line_end ++ (print_section h.fields h.last ++ rest))))))

first_letter : (h : ResponseHead) (rest : List ℕ) → print_response h ++ rest ≡ print_blank h.blank ++ (72 ∷ behind_first h rest)
unfolding behind_first
first_letter h rest = print_response-append h rest

nothing_has_none : HasNoAnswer []
nothing_has_none h rest has =
    omega (arith, some_behind (print_blank h.blank) (behind_first h rest) 72, ap (length {A = ℕ}) (has.reads.1 ∙ first_letter h rest))

-- behind those heads the input ends too early
ends_behind_heads : LacksAnswer (codes "GET") Faulty.Read (codes "HTTP/1.1 100 Continue\r\n\r\nHTTP/1.1 103 X\r\n\r\n")
unfolding leave hints head print_response
ends_behind_heads = record {
  interims = leave ∷ hints ∷ [];
  are = two_interims;
  rest = [];
  input_is = refl;
  then = no_head [] nothing_has_none;
}

-- and inside a body
ends_in_body : EndsEarly (codes "GET") (print_response ok ++ codes "a")
ends_in_body = no_body ok (record { body = Length 2; stated = Length 2 }) (codes "a") ok_is_final (omega arith)

-- a whole answer doesn't end too early
ends : (input : List ℕ) → input ≡ print_response ok ++ codes "ab" → EndsEarly (codes "GET") input → ⊥
ends input is (no_head rest none) =
    none ok (codes "ab")
    (record { reads = (ok_is_answer.reads.0, is); few_bytes = ok_is_answer.few_bytes; few_fields = ok_is_answer.few_fields })
ends input is (no_body h plan rest final lacks) =
    let same = same_head ok h (codes "ab") rest ok_is_answer final.head (sym is) in
    let plans : Some plan ≡ Some (record { body = Length 2; stated = Length 2 }) =
    sym final.planned ∙ ap (λ (k : ResponseHead). answer_plan (codes "GET") (answer_of k)) (sym same.0) ∙ ok_is_final.planned in
    let bodies : plan.body ≡ Length 2 = cc in
    omega (arith, subst (λ (f : Framing). LacksBody f rest) bodies lacks, ap length same.1)

whole_ends_not_early : ¬ (EndsEarly (codes "GET") (print_response ok ++ codes "ab"))
whole_ends_not_early = ends (print_response ok ++ codes "ab") refl

-- a change of protocols is no head that is taken, before an answer or as one
switch : ResponseHead
switch = head (codes "101") (codes "X") []

switch_not_final : (plan : Plan) → ¬ (IsFinal (codes "GET") switch plan)
unfolding switch head
switch_not_final plan is = let wrong : None ≡ Some plan = is.planned in cc

switch_not_interim : ¬ (IsInterim (codes "GET") switch)
unfolding switch head
switch_not_interim is = let wrong : false ≡ true = is.planned in cc

switch_is_badly_framed : LacksAnswer (codes "GET") Faulty.Framing (codes "HTTP/1.1 101 X\r\n\r\n")
unfolding switch head print_response
switch_is_badly_framed = record {
  interims = [];
  are = record { each = tt; few = omega arith };
  rest = codes "HTTP/1.1 101 X\r\n\r\n";
  input_is = refl;
  then = no_plan 0 switch [] (is_head (codes "101") (codes "X") [] refl refl refl (All-nil IsField) (omega arith) (omega arith)) refl;
}

-- eight heads come before an answer at most
eight : List ResponseHead
eight = hints ∷ hints ∷ hints ∷ hints ∷ hints ∷ hints ∷ hints ∷ hints ∷ []

eight_interims : AreInterims (codes "GET") eight
unfolding eight
eight_interims = let i = hints_is_interim in record { each = (i, (i, (i, (i, (i, (i, (i, (i, tt)))))))); few = omega arith }

nine_interims : ¬ (AreInterims (codes "GET") (hints ∷ eight))
unfolding eight
nine_interims are = omega (arith, are.few)

ninth_is_badly_framed : LacksAnswer (codes "GET") Faulty.Framing (print_heads eight ++ print_response hints)
unfolding eight
ninth_is_badly_framed = record {
  interims = eight;
  are = eight_interims;
  rest = print_response hints ++ [];
  input_is = ap (λ l. print_heads eight ++ l) (sym (append-nil (print_response hints)));
  then = ninth hints [] hints_is_interim;
}
