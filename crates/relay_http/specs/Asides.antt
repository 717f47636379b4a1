-- Exchanges that are set aside between a request and its answer.
use Rattle.relay_http.specs.declared.aside.Aside.{Aside}
use Rattle.relay_http.specs.declared.exchange.Stage.{Stage}
use Rattle.relay_http.specs.declared.exchange.Stage.TheVariants.{Forwarded}

-- the stage of the exchange that was set aside, and so of the one that goes on with it
abbrev pub aside_stage : Aside → Stage
aside_stage aside = Forwarded aside.ticket aside.verdict
