use Rattle.std.proofs.Common.{◌∙◌, ap, sym}
use Rattle.std.specs.Option.{unwrap_or}
use Rattle.loop_events.specs.Ends.{last_at}
use Rattle.loop_events.proofs.Noting.{noticed_end}
use Rattle.loop_events.proofs.looping.Looper.note_event.Goals as goal

-- any moment will do where an end is noted
pub returns-in-Some : goal.returns-in-Some
returns-in-Some g c =
    let under_way = c.unwrap_or-during.ensures
    ∙ ap (λ last. unwrap_or last c.under_way.result) c.last_at.ensures
    ∙ ap (unwrap_or (last_at c.args.stage)) c.under_way.ensures in
    let ends = noticed_end c.args.notice.now c.args.stage 0 c.args.account.now c.unwrap_or-during.result c.in-Some.end under_way
    (sym c.notice_end.ensures ∙ c.in-Some.is) in
    (0, c.end_by.ensures ∙ ends)
