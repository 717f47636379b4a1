-- What was told before, and what is told now.
use Rattle.std.proofs.Common.{◌≡◌, ◌∙◌, ℕ, ◌-◌, List, ◌++◌, length, take, drop, refl, sym, ap, arith, append_assoc, subst}
use Rattle.httparse.specs.Grammar.{print_request}
use Rattle.base_lists.proofs.Fronts.{behind}
use Rattle.exchange_machine.specs.Histories.{client_came}
use Rattle.exchange_machine.specs.Requests.{LacksHead, MayCome}
use Rattle.exchange_machine.specs.Stages.{HeadSays, IsMore, IsTurn}
use Rattle.exchange_machine.specs.Wholes.{begun}
use Rattle.exchange_machine.specs.declared.asking.Turn.{Turn}
use Rattle.relay_http.proofs.Telling.{asking_of, input_is, all_told, part_told, lacks_more, told_count, is_some}
use Rattle.req_view.specs.Heads.{HasNoHead, Waits}
use Rattle.relay_http.proofs.asking.ask.Goals as goal

pub returns-in-More : goal.returns-in-More
returns-in-More c =
    let front = c.args.asking.held.items in
    let held = c.held.result.now in
    let before = c.count-before.result in
    let inbox = c.args.pipe.now.inbox in
    let input = take (length held - before) (drop before held) in
    let used = c.head_bytes-used.result.0 in
    let turn = c.head_bytes-used.result.1 in
    let same = input_is held inbox front c.requires.rest before c.held.ensures.value c.requires.all c.count-before.ensures in
    let all = c.head_bytes-used.ensures.more (subst (λ (t : Turn). IsMore t) (sym c.in-More.is) tt) in
    let told : front ++ take used input ≡ inbox = all_told front input c.requires.rest inbox used same c.requires.all all in
    let says = subst (λ (t : Turn). HeadSays t (front ++ take used input)) c.in-More.is c.head_bytes-used.ensures.says in
    let asking =
    subst (λ (t : Turn). IsTurn t (client_came (begun front) (take used input))) c.in-More.is
    (c.head_bytes-used.ensures.turn (begun front) (asking_of c.args.asking c.requires.none c.requires.may)) in (
      refl,
      says.0 ∙ told,
      subst (λ (l : List ℕ). HasNoHead l) told asking.none,
      omega (arith, says.1, ap (length {A = ℕ}) told),
      subst (λ (l : List ℕ). MayCome Waits l) told asking.may,
    )

pub returns-in-Refused : goal.returns-in-Refused
returns-in-Refused c =
    let front = c.args.asking.held.items in
    let held = c.held.result.now in
    let before = c.count-before.result in
    let inbox = c.args.pipe.now.inbox in
    let input = take (length held - before) (drop before held) in
    let used = c.head_bytes-used.result.0 in
    let same = input_is held inbox front c.requires.rest before c.held.ensures.value c.requires.all c.count-before.ensures in
    let told = part_told front input c.requires.rest inbox used same c.requires.all in
    let says = subst (λ (t : Turn). HeadSays t (front ++ take used input)) c.in-Refused.is c.head_bytes-used.ensures.says in
    (refl, subst (λ (l : List ℕ). LacksHead c.in-Refused.fault l) (sym told) (lacks_more c.in-Refused.fault (front ++ take used input) (drop used input) says))

pub overflow_sub-before : goal.overflow_sub-before
overflow_sub-before c =
    let front = c.args.asking.held.items in
    let held = c.held.result.now in
    let before = c.count-before.result in
    let input = take (length held - before) (drop before held) in
    let used = c.head_bytes-used.result.0 in
    let waiting =
    subst (λ (t : Turn). IsTurn t (client_came (begun front) (take used input))) c.in-Whole.is
    (c.head_bytes-used.ensures.turn (begun front) (asking_of c.args.asking c.requires.none c.requires.may)) in
    let asked = waiting.asked.asked in
    let count = told_count front input (print_request asked.head) c.in-Whole.waiting.asked.held.items used c.head_bytes-used.ensures.within asked.input_is in
    omega (arith, count, c.count-before.ensures, c.len.ensures, ap (length {A = ℕ}) c.parts-view.ensures.behind)

pub returns-in-Whole : goal.returns-in-Whole
returns-in-Whole c =
    let front = c.args.asking.held.items in
    let held = c.held.result.now in
    let before = c.count-before.result in
    let inbox = c.args.pipe.now.inbox in
    let input = take (length held - before) (drop before held) in
    let used = c.head_bytes-used.result.0 in
    let same = input_is held inbox front c.requires.rest before c.held.ensures.value c.requires.all c.count-before.ensures in
    let waiting =
    subst (λ (t : Turn). IsTurn t (client_came (begun front) (take used input))) c.in-Whole.is
    (c.head_bytes-used.ensures.turn (begun front) (asking_of c.args.asking c.requires.none c.requires.may)) in
    let asked = waiting.asked.asked in
    let head = print_request asked.head in
    let rest = c.in-Whole.waiting.asked.held.items in
    let count = told_count front input head rest used c.head_bytes-used.ensures.within asked.input_is in
    let whole : inbox ≡ head ++ (rest ++ drop used input) =
    part_told front input c.requires.rest inbox used same c.requires.all ∙ ap (λ l. l ++ drop used input) asked.input_is
    ∙ append_assoc head rest (drop used input) in
    let left : c.consume.new.self.inbox ≡ rest ++ drop used input =
    c.consume.ensures.inbox ∙ behind inbox head (rest ++ drop used input) _ whole
    (omega (arith, count, c.count-before.ensures, c.len.ensures, ap (length {A = ℕ}) c.parts-view.ensures.behind)) in (
      asked.head,
      asked.is,
      c.parts-view.ensures.view ∙ asked.request_is,
      is_some c.in-Whole.waiting.asked.view c.parts-view.result.0 c.in-Whole.waiting.asked.framing c.parts-view.ensures.view waiting.asked.framed,
      whole ∙ ap (λ l. head ++ l) (sym left),
      c.consume.ensures.outbox,
      c.consume.ensures.turns,
    )
