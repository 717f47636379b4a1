-- What comes in of passes goes out.
use Rattle.std.proofs.Common.{◌≡◌, ◌∙◌, ℕ, List, [], ◌++◌, refl, sym, ap, append_assoc, append-nil}
use Rattle.std.specs.Prelude.{zero, suc}
use Rattle.std.proofs.lemmas.List.{append_cancel_left, map-append}
use Rattle.grant_board.specs.Views.{Grant}
use Rattle.http_texts.specs.declared.additions.Additions.{Additions}
use Rattle.exchange_machine.specs.Histories.{ExchangeHistory, Post, passes_of}
use Rattle.exchange_events.specs.Passes.{held_by, if_taken, came_with, gone_with}
use Rattle.exchange_events.specs.Steps.{IsAtItsStage, heard, ended, history_after, came_pass, connected_with, FailsInTurn, TellsInTurn, IsOwn, IsOwnOf}
use Rattle.exchange_events.specs.declared.event.Event.{Event}
use Rattle.exchange_events.specs.declared.event.Event.TheVariants as Events
use Rattle.exchange_events.specs.declared.exchange.Exchange.{Exchange}
use Rattle.exchange_events.specs.declared.exchange.Exchange.TheVariants.{Asking, Waiting, Dialing, Forwarding, Settling, Leaving, Telling, Over}
use Rattle.exchange_events.specs.declared.exchange.Outcome.{Outcome}
use Rattle.exchange_events.specs.declared.exchange.Outcome.TheVariants as Outcomes

all_posted : (grants passes : List Grant) → grants ≡ passes → grants ≡ passes ++ []
all_posted grants passes is = is ∙ sym (append-nil passes)

-- what came and wasn't posted is held
at_held : (x : Exchange) (h : ExchangeHistory) → IsAtItsStage x h → h.grants ≡ passes_of h.posts ++ held_by x
at_held (Asking a) h is = all_posted h.grants (passes_of h.posts) (is.fresh.grants ∙ sym (ap passes_of is.fresh.posts))
at_held (Waiting w) h is = all_posted h.grants (passes_of h.posts) is.grants
at_held (Dialing d) h is = is.grants
at_held (Forwarding p) h is = is.grants
at_held (Settling s) h is = all_posted h.grants (passes_of h.posts) is.grants
at_held (Leaving l) h is = all_posted h.grants (passes_of h.posts) is.grants
at_held (Telling t) h is = all_posted h.grants (passes_of h.posts) is.grants
at_held Over h is = all_posted h.grants (passes_of h.posts) is.grants

taken_grants : (used : ℕ) (pass : Grant) (h : ExchangeHistory) → (came_pass used pass h).grants ≡ h.grants ++ if_taken used pass
taken_grants zero pass h = sym (append-nil h.grants)
taken_grants (suc n) pass h = refl

taken_posts : (used : ℕ) (pass : Grant) (h : ExchangeHistory) → (came_pass used pass h).posts ≡ h.posts
taken_posts zero pass h = refl
taken_posts (suc n) pass h = refl

told_grants : (used : ℕ) (adds : Additions) (h : ExchangeHistory) → (connected_with used adds h).grants ≡ h.grants ++ []
told_grants zero adds h = sym (append-nil h.grants)
told_grants (suc n) adds h = sym (append-nil h.grants)

told_posts : (used : ℕ) (adds : Additions) (h : ExchangeHistory) → (connected_with used adds h).posts ≡ h.posts
told_posts zero adds h = refl
told_posts (suc n) adds h = refl

heard_grants : (x : Exchange) (event : Event) (used : ℕ) (h : ExchangeHistory) → (heard x event used h).grants ≡ h.grants ++ came_with event used
heard_grants x (Events.ClientBytes input) used h = sym (append-nil h.grants)
heard_grants x (Events.ServerBytes input) used h = sym (append-nil h.grants)
heard_grants x (Events.ClientTook count) used h = sym (append-nil h.grants)
heard_grants x (Events.ServerTook count) used h = sym (append-nil h.grants)
heard_grants x (Events.Granted pass) used h = taken_grants used pass h
heard_grants x Events.Unserved used h = sym (append-nil h.grants)
heard_grants x (Events.Connected terms) used h = told_grants used terms.adds h
heard_grants x Events.Unreachable used h = sym (append-nil h.grants)
heard_grants x Events.ClientEnd used h = sym (append-nil h.grants)
heard_grants x Events.ClientFailed used h = sym (append-nil h.grants)
heard_grants x Events.ServerEnd used h = sym (append-nil h.grants)
heard_grants x Events.ServerFailed used h = sym (append-nil h.grants)
heard_grants x Events.ServerDeaf used h = sym (append-nil h.grants)
heard_grants x (Events.TimeOver clock) used h = sym (append-nil h.grants)

heard_posts : (x : Exchange) (event : Event) (used : ℕ) (h : ExchangeHistory) → (heard x event used h).posts ≡ h.posts
heard_posts x (Events.ClientBytes input) used h = refl
heard_posts x (Events.ServerBytes input) used h = refl
heard_posts x (Events.ClientTook count) used h = refl
heard_posts x (Events.ServerTook count) used h = refl
heard_posts x (Events.Granted pass) used h = taken_posts used pass h
heard_posts x Events.Unserved used h = refl
heard_posts x (Events.Connected terms) used h = told_posts used terms.adds h
heard_posts x Events.Unreachable used h = refl
heard_posts x Events.ClientEnd used h = refl
heard_posts x Events.ClientFailed used h = refl
heard_posts x Events.ServerEnd used h = refl
heard_posts x Events.ServerFailed used h = refl
heard_posts x Events.ServerDeaf used h = refl
heard_posts x (Events.TimeOver clock) used h = refl

ended_grants : (outcome : Outcome) (h : ExchangeHistory) → (ended outcome h).grants ≡ h.grants
ended_grants Outcomes.Quiet h = refl
ended_grants (Outcomes.Posts pass ending) h = refl
ended_grants Outcomes.Starved h = refl
ended_grants (Outcomes.StarvedPosts pass ending) h = refl
ended_grants Outcomes.Retries h = refl
ended_grants (Outcomes.Returns pass) h = refl

ended_posts : (outcome : Outcome) (h : ExchangeHistory) → passes_of (ended outcome h).posts ≡ passes_of h.posts ++ gone_with outcome
ended_posts Outcomes.Quiet h = sym (append-nil (passes_of h.posts))
ended_posts (Outcomes.Posts pass ending) h = map-append (λ (p : Post). p.pass) h.posts _
ended_posts Outcomes.Starved h = sym (append-nil (passes_of h.posts))
ended_posts (Outcomes.StarvedPosts pass ending) h = map-append (λ (p : Post). p.pass) h.posts _
ended_posts Outcomes.Retries h = sym (append-nil (passes_of h.posts))
ended_posts (Outcomes.Returns pass) h = sym (append-nil (passes_of h.posts))

pub passes_go_on : (x y : Exchange) (h : ExchangeHistory) (event : Event) (used : ℕ) (outcome : Outcome) → IsAtItsStage x h → IsAtItsStage y (history_after x event used outcome h)
    → held_by x ++ came_with event used ≡ gone_with outcome ++ held_by y
passes_go_on x y h event used outcome before behind =
    let mid = heard x event used h in
    let earlier = passes_of h.posts in
    let came = came_with event used in
    append_cancel_left earlier (held_by x ++ came) (gone_with outcome ++ held_by y)
    (sym (append_assoc earlier (held_by x) came) ∙ ap (λ l. l ++ came) (sym (at_held x h before)) ∙ sym (heard_grants x event used h)
    ∙ sym (ended_grants outcome mid) ∙ at_held y (history_after x event used outcome h) behind
    ∙ ap (λ l. l ++ held_by y) (ended_posts outcome mid ∙ ap (λ (l : List Post). passes_of l ++ gone_with outcome) (heard_posts x event used h))
    ∙ append_assoc earlier (gone_with outcome) (held_by y))

-- the same of a history in which no pass came or went
pub passes_stay : (x y : Exchange) (h now : ExchangeHistory) (outcome : Outcome) → IsAtItsStage x h → now.grants ≡ h.grants → now.posts ≡ h.posts → IsAtItsStage y (ended outcome now)
    → held_by x ≡ gone_with outcome ++ held_by y
passes_stay x y h now outcome before grants posts behind =
    let earlier = passes_of h.posts in
    append_cancel_left earlier (held_by x) (gone_with outcome ++ held_by y)
    (sym (at_held x h before) ∙ sym grants ∙ sym (ended_grants outcome now) ∙ at_held y (ended outcome now) behind
    ∙ ap (λ l. l ++ held_by y) (ended_posts outcome now ∙ ap (λ (l : List Post). passes_of l ++ gone_with outcome) posts)
    ∙ append_assoc earlier (gone_with outcome) (held_by y))

pub own_of_fails : (outcome : Outcome) (x : Exchange) → FailsInTurn outcome x → IsOwn outcome
own_of_fails Outcomes.Quiet x it = tt
own_of_fails (Outcomes.Posts pass ending) x it = tt
own_of_fails Outcomes.Starved x it = tt
own_of_fails (Outcomes.StarvedPosts pass ending) x it = tt
own_of_fails Outcomes.Retries x it = tt
own_of_fails (Outcomes.Returns pass) x it = it

pub own_of : (event : Event) (outcome : Outcome) (x : Exchange) → TellsInTurn event outcome x → IsOwnOf event outcome
own_of (Events.Granted pass) outcome x it = tt
own_of (Events.ClientBytes input) outcome x it = own_of_fails outcome x it
own_of (Events.ServerBytes input) outcome x it = own_of_fails outcome x it
own_of (Events.ClientTook count) outcome x it = own_of_fails outcome x it
own_of (Events.ServerTook count) outcome x it = own_of_fails outcome x it
own_of Events.Unserved outcome x it = own_of_fails outcome x it
own_of (Events.Connected terms) outcome x it = own_of_fails outcome x it
own_of Events.Unreachable outcome x it = own_of_fails outcome x it
own_of Events.ClientEnd outcome x it = own_of_fails outcome x it
own_of Events.ClientFailed outcome x it = own_of_fails outcome x it
own_of Events.ServerEnd outcome x it = own_of_fails outcome x it
own_of Events.ServerFailed outcome x it = own_of_fails outcome x it
own_of Events.ServerDeaf outcome x it = own_of_fails outcome x it
own_of (Events.TimeOver clock) outcome x it = own_of_fails outcome x it
