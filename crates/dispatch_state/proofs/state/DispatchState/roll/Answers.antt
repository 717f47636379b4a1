use Rattle.std.proofs.Common.{◌≡◌, map, length, ap, sym, ◌∙◌, subst, []}
use Rattle.std.proofs.lemmas.List.{length-map}
use Rattle.log_entries.specs.Histories.{History, state_of, next_window}
use Rattle.log_entries.specs.Health.{shortened_all}
use Rattle.log_entries.specs.Legal.{IsLegal}
use Rattle.log_entries.specs.Logs.{Recorded}
use Rattle.log_entries.specs.States.{State}
use Rattle.log_entries.proofs.Windows.{shortened_length}
use Rattle.log_reading.specs.Bases.{results_by}
use Rattle.queue_waits.specs.Waitlists.{list_of}
use Rattle.dispatch_state.proofs.Rolling.{rows_long, kept_places, kept_limits, window_base, window_is}
use Rattle.dispatch_state.proofs.state.DispatchState.roll.Goals as goal

pub save_rows-requires : goal.save_rows-requires
save_rows-requires g c =
    c.requires.rows ∙ ap (λ (h : History). h.setup.places) (sym c.self.view_is)
    ∙ sym (kept_places _ _ c.self.invariant (subst IsLegal (sym c.self.view_is) c.requires.legal))

pub set_healths-requires : goal.set_healths-requires
set_healths-requires g c =
    ap (λ (s : State). length s.results) c.save_rows.ensures ∙ c.requires.results
    ∙ sym (sym (length-map c.args.healths.now results_by) ∙ ap length c.requires.healths
    ∙ shortened_length c.args.self.now.setup.servers (state_of c.args.self.now).results)

pub set_limits-requires : goal.set_limits-requires
set_limits-requires g c =
    ap (λ (s : State). length s.limits) c.set_healths.ensures ∙ ap (λ (s : State). length s.limits) c.save_rows.ensures ∙ c.requires.limits
    ∙ ap (λ (h : History). length h.setup.servers) (sym c.self.view_is)
    ∙ sym (kept_limits _ _ c.self.invariant (subst IsLegal (sym c.self.view_is) c.requires.legal)) ∙ ap length (sym c.limits.ensures)

pub begin-requires : goal.begin-requires
begin-requires g c =
    ap (λ (s : State). length s.rows) c.set_position.ensures ∙ ap (λ (s : State). length s.rows) c.set_limits.ensures
    ∙ ap (λ (s : State). length s.rows) c.set_healths.ensures ∙ ap (λ (s : State). length s.rows) c.save_rows.ensures
    ∙ rows_long c.self.inside.ledger.cells ∙ kept_places _ _ c.self.invariant (subst IsLegal (sym c.self.view_is) c.requires.legal)
    ∙ sym c.self.invariant.judged.begins.places

pub invariant_of-self : goal.invariant_of-self
invariant_of-self g c =
    let legal = subst IsLegal (sym c.self.view_is) c.requires.legal in
    let results = subst (λ (h : History). map results_by c.args.healths.now ≡ shortened_all h.setup.servers (state_of h).results) (sym c.self.view_is)
    c.requires.healths in
    let saved = c.set_position.ensures
    ∙ ap (λ (s : State). record s { moment = c.self.inside.position.last; ticket = c.self.inside.position.ticket; cursor = c.server.result })
    (c.set_limits.ensures ∙ ap (λ (s : State). record s { limits = c.limits.result.now })
    (c.set_healths.ensures ∙ ap (λ (s : State). record s { results = map results_by c.args.healths.now }) c.save_rows.ensures)) in
    let based = window_base _ _ c.self.invariant legal c.set_position.new.self
    (map results_by c.args.healths.now) c.limits.result.now c.server.result saved results
    c.limits.ensures c.server.ensures in
    window_is _ _ c.self.invariant legal c.begin.new.self (list_of c.begin_window.new.self)
    (c.begin.ensures.window ∙ ap (λ (s : State). record { base = s; entries = []; room = c.self.inside.log.room }) based) c.begin_window.ensures.window

pub returns-clause-window : goal.returns-clause-window
returns-clause-window g c =
    let legal = subst IsLegal (sym c.self.view_is) c.requires.legal in
    let results = subst (λ (h : History). map results_by c.args.healths.now ≡ shortened_all h.setup.servers (state_of h).results) (sym c.self.view_is)
    c.requires.healths in
    let saved = c.set_position.ensures
    ∙ ap (λ (s : State). record s { moment = c.self.inside.position.last; ticket = c.self.inside.position.ticket; cursor = c.server.result })
    (c.set_limits.ensures ∙ ap (λ (s : State). record s { limits = c.limits.result.now })
    (c.set_healths.ensures ∙ ap (λ (s : State). record s { results = map results_by c.args.healths.now }) c.save_rows.ensures)) in
    let based = window_base _ _ c.self.invariant legal c.set_position.new.self
    (map results_by c.args.healths.now) c.limits.result.now c.server.result saved results
    c.limits.ensures c.server.ensures in
    ap (λ (l : Recorded). record { setup = c.self.inside.ledger.setup; base = l.base; log = l.entries })
    (c.begin.ensures.window ∙ ap (λ (s : State). record { base = s; entries = []; room = c.self.inside.log.room }) based)
    ∙ ap next_window c.self.view_is

pub returns-clause-spare : goal.returns-clause-spare
returns-clause-spare g c = c.begin.ensures.back ∙ ap (λ (h : History). h.base) c.self.view_is

pub returns-clause-sound : goal.returns-clause-sound
returns-clause-sound g c = c.self.invariant.sound
