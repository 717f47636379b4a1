use Rattle.std.proofs.Common.{refl}
use Rattle.log_entries.specs.Histories.{refuses_failure}
use Rattle.dispatch_state.proofs.Stepping.{follows_on}
use Rattle.dispatch_state.proofs.Failures.{fail_countable, fail_kept, fail_counted}
use Rattle.dispatch_state.proofs.Stepping.{closed}
use Rattle.dispatch_state.proofs.Stepping.{here_at, here_begins}
use Rattle.dispatch_state.proofs.state.DispatchState.fail.Goals as goal

pub count_failure-failures-requires : goal.count_failure-failures-requires
count_failure-failures-requires g c =
    let begins = here_begins _ _ _ c.args.moment c.later-now.result
    (λ h. refuses_failure h c.args.it.ticket) c.self.invariant c.self.view_is c.requires.begins c.later-now.ensures.later
    c.later-now.ensures.range in
    fail_countable _ _ c.args.it c.args.moment c.self.invariant begins
    (here_at _ _ c.args.it c.self.view_is c.requires.at)

pub note-requires-clause-follows : goal.note-requires-clause-follows
note-requires-clause-follows g c =
    let begins = here_begins _ _ _ c.args.moment c.later-now.result
    (λ h. refuses_failure h c.args.it.ticket) c.self.invariant c.self.view_is c.requires.begins c.later-now.ensures.later
    c.later-now.ensures.range in
    let at = here_at _ _ c.args.it c.self.view_is c.requires.at in
    follows_on _ _ _ _ (fail_kept _ _ c.args.it c.args.moment c.later-now.result c.self.invariant begins c.later-now.ensures.later at).judged

pub invariant_of-self : goal.invariant_of-self
invariant_of-self g c =
    let begins = here_begins _ _ _ c.args.moment c.later-now.result
    (λ h. refuses_failure h c.args.it.ticket) c.self.invariant c.self.view_is c.requires.begins c.later-now.ensures.later
    c.later-now.ensures.range in
    let at = here_at _ _ c.args.it c.self.view_is c.requires.at in
    closed _ _ _ _ _ _ _ _ c.count_failure-failures.ensures.counted c.note.ensures refl
    (fail_kept _ _ c.args.it c.args.moment c.later-now.result c.self.invariant begins c.later-now.ensures.later at)

pub returns-clause-count : goal.returns-clause-count
returns-clause-count g c =
    let begins = here_begins _ _ _ c.args.moment c.later-now.result
    (λ h. refuses_failure h c.args.it.ticket) c.self.invariant c.self.view_is c.requires.begins c.later-now.ensures.later
    c.later-now.ensures.range in
    let at = here_at _ _ c.args.it c.self.view_is c.requires.at in
    fail_counted _ _ _ c.args.it c.count_failure-failures.result c.self.invariant
    (closed _ _ _ _ _ _ _ _ c.count_failure-failures.ensures.counted c.note.ensures refl
    (fail_kept _ _ c.args.it c.args.moment c.later-now.result c.self.invariant begins c.later-now.ensures.later at))
    c.count_failure-failures.ensures.counted at c.count_failure-failures.ensures.count
