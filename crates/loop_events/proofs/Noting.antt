-- An event that ends an exchange is noted as its end.
use Rattle.std.proofs.Common.{◌≡◌, ◌∙◌, ℕ, Some, ap, sym}
use Rattle.exchange_seated.specs.declared.notice.Notice.{Notice}
use Rattle.exchange_seated.specs.declared.seated.Stage.{Stage}
use Rattle.log_lines.specs.Accounts.{ended_by}
use Rattle.log_lines.specs.declared.account.Account.{Account}
use Rattle.log_lines.specs.declared.letters.During.{During}
use Rattle.log_lines.specs.declared.letters.ExchangeEnd.{ExchangeEnd}
use Rattle.loop_events.specs.Ends.{during_in, notice_end, noted, noticed}

pub noticed_end : (notice : Notice) (stage : Stage) (now : ℕ) (account : Account) (during : During) (end : ExchangeEnd)
    → during ≡ during_in stage account → notice_end notice during ≡ Some end
    → ended_by end account ≡ noticed notice stage now account
noticed_end notice stage now account during end under_way ends =
    sym (ap (λ found. noted found now account) (ap (notice_end notice) (sym under_way) ∙ ends))
