-- A loop's record of an exchange.
use Rattle.std.specs.Prelude.{ℕ, Bool, true, false, ◌&&◌, ◌||◌, not, cond, Option, None, Some, is_none}
use Rattle.std.specs.declared.net.socket_addr.SocketAddr.{SocketAddr}
use Rattle.log_lines.specs.Letters.{well}
use Rattle.log_lines.specs.declared.account.Account.{Account}
use Rattle.log_lines.specs.declared.letters.During.{During}
use Rattle.log_lines.specs.declared.letters.During.TheVariants.{Request, Queue, Connect, Head, Data}
use Rattle.log_lines.specs.declared.letters.EndedBy.{EndedBy}
use Rattle.log_lines.specs.declared.letters.EndedBy.TheVariants.{Nobody, Client, ClientTime, Server, ServerTime, Proxy, Shortage}
use Rattle.log_lines.specs.declared.letters.ExchangeEnd.{ExchangeEnd}

-- the record of an exchange of this client, of which nothing has happened but that it began
abbrev pub account_from : Option SocketAddr → ℕ → Account
account_from client began = record {
  client = client;
  asked = None;
  wish = None;
  ticket = None;
  server = None;
  moments = record { began = began; asked = None; granted = None; connected = None; answered = None; ended = began };
  status = None;
  received = 0;
  sent = 0;
  ended = well;
  clients = 0;
  is_silent = true;
}

-- what is under way: what comes before the first step that hasn't happened, of all steps up to the
-- first byte from the server and the status that the client is sent
abbrev pub under_way : Account → During
under_way account =
    cond (is_none account.moments.asked) Request
    (cond (is_none account.moments.granted) Queue
    (cond (is_none account.moments.connected) Connect
    (cond (is_none account.moments.answered || is_none account.status) Head Data)))

-- the server answered nothing
abbrev pub unanswered : ExchangeEnd
unanswered = record { by = Server; during = Head }

-- the request was at fault
abbrev pub refused : ExchangeEnd
refused = record { by = Proxy; during = Request }

-- something ended it before its proper end
abbrev pub is_early : EndedBy → Bool
is_early Nobody = false
is_early Client = true
is_early ClientTime = true
is_early Server = true
is_early ServerTime = true
is_early Proxy = true
is_early Shortage = true

-- it ended so, unless an early end is noted already
abbrev pub ended_by : ExchangeEnd → Account → Account
ended_by end account = cond (not (is_early account.ended.by) && is_early end.by) (record account { ended = end }) account

-- it is given to this server at this moment, whatever was noted of an earlier one
abbrev pub granted : ℕ → ℕ → Account → Account
granted server now account = record account {
  server = Some server;
  ended = well;
  moments = record account.moments { granted = Some now; connected = None; answered = None };
}
