-- An exchange's pass is its seat's, and so the log's.
use Rattle.std.proofs.Common.{◌≡◌, ℕ, Some, List, [], ◌∷◌, Contains, sym, subst}
use Rattle.log_entries.specs.Histories.{History, state_of}
use Rattle.grant_board.specs.Views.{Grant}
use Rattle.base_lists.proofs.Members.{Contains-head}
use Rattle.base_lists.proofs.Never.{none_some}
use Rattle.exchange_events.specs.Passes.{held_by}
use Rattle.locked_book.specs.Outstanding.{outstanding}
use Rattle.exchange_laws.specs.PassesConnections.{MayConnect, ConnectionsAreTrue}
use Rattle.exchange_laws.proofs.Meaning.{passes_are_true}
use Rattle.exchange_seated.specs.Seats.{server_of, served_by}
use Rattle.base_verdict.specs.declared.Verdict.{Verdict}
use Rattle.base_verdict.specs.declared.Verdict.TheVariants.{Serve, Told}

serve_of : (verdict : Verdict) (server : ℕ) → served_by verdict ≡ Some server → verdict ≡ Serve server
serve_of (Serve n) server is = search
serve_of (Told cause) server is = search

may_connect : (history : History) (passes : List Grant) (server : ℕ)
    → ((pass : Grant) → Contains passes pass → Contains (outstanding (state_of history).rows) pass)
    → server_of passes ≡ Some server → MayConnect history passes server
may_connect history [] server given is = none_some is
may_connect history (pass ∷ passes) server given is = record {
  pass = pass;
  held = Contains-head pass passes;
  given = given pass (Contains-head pass passes);
  serves = serve_of pass.verdict server is;
}

pub connections_are_true : ConnectionsAreTrue
connections_are_true t s k h o at book j i r x server has same is =
    may_connect h (held_by x) server (λ pass mine. (passes_are_true t s k h o at book j i r pass has (subst (λ passes. Contains passes pass) (sym same) mine)).given) is
