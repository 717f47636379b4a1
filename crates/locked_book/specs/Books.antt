-- A dispatcher beside a board's keeper: the verdicts that are out at the board are those that are
-- outstanding in the log's state.
use Rattle.std.specs.Prelude.{◌≡◌, ℕ, ◌+◌, List, ◌++◌, map}
use Rattle.base_verdict.specs.declared.Ending.{Ending}
use Rattle.base_verdict.specs.declared.Verdict.{Verdict}
use Rattle.base_lists.specs.Weights.{total}
use Rattle.grant_board.specs.declared.returned.Return.{Return}
use Rattle.grant_board.specs.Views.{Grant, Terms, terms, mark_of, KeeperView}
use Rattle.log_entries.specs.declared.allowance.Allowance.{Allowance}
use Rattle.log_entries.specs.declared.entry.Entry.{Entry}
use Rattle.log_entries.specs.declared.setup.Setup.{Setup}
use Rattle.log_entries.specs.Dispatch.{bound_by}
use Rattle.log_entries.specs.Histories.{History, state_of}
use Rattle.locked_book.specs.Outstanding.{outstanding, grants_of}
use Rattle.locked_book.specs.Verdicts.{verdicts, endings}

-- the terms of the board for a setup: its places, and its servers' limits
abbrev pub terms_for : Setup → Terms
terms_for setup = terms setup.places (map (λ server. server.limit) setup.servers)

-- a server's mark at the board, by its bound
abbrev pub mark_by : Allowance → ℕ
mark_by it = mark_of (bound_by it)

-- grants, and returns, without their places
abbrev pub without_places : List Grant → List (ℕ × Verdict)
without_places grants = map (λ g. (g.ticket, g.verdict)) grants

abbrev pub returned : List Return → List (ℕ × Ending)
returned returns = map (λ back. (back.ticket, back.ending)) returns

-- between calls: the board has the setup's terms and the marks of the state's bounds; the grants
-- that are out are those that are outstanding, under every weight function; and the offers end with
-- the window's verdicts, the returns with its endings
pub record IsBook (history : History) (view : KeeperView) : Type 0 where
  pub terms : view.terms ≡ terms_for history.setup
  pub bounds : view.bounds ≡ map mark_by (state_of history).limits
  pub out : (weight : Grant → ℕ) → total weight view.out ≡ total weight (outstanding (state_of history).rows)
  pub offers : (earlier : List (ℕ × Verdict)) × (without_places view.offers ≡ earlier ++ verdicts history.log)
  pub returns : (earlier : List (ℕ × Ending)) × (returned view.returns ≡ earlier ++ endings history.log)

-- within a call: the same, but the verdicts among these entries are still to be offered
pub record IsOwing (history : History) (view : KeeperView) (entries : List Entry) : Type 0 where
  pub terms : view.terms ≡ terms_for history.setup
  pub bounds : view.bounds ≡ map mark_by (state_of history).limits
  pub out : (weight : Grant → ℕ) → total weight view.out + total weight (grants_of (state_of history).rows (verdicts entries))
      ≡ total weight (outstanding (state_of history).rows)
  pub offers : (earlier : List (ℕ × Verdict)) × (without_places view.offers ++ verdicts entries ≡ earlier ++ verdicts history.log)
  pub returns : (earlier : List (ℕ × Ending)) × (returned view.returns ≡ earlier ++ endings history.log)
