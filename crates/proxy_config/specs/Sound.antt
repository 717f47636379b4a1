-- The facts that hold for each accepted configuration.
use Rattle.std.specs.Prelude.{ℕ, ◌+◌, ◌<◌, ◌≤◌, ◌^◌, length, All, IfSome}
use Rattle.proxy_config.specs.declared.parts.Checks.{Checks}
use Rattle.proxy_config.specs.declared.parts.Condition.{Condition}
use Rattle.proxy_config.specs.declared.parts.Config.{Config}
use Rattle.proxy_config.specs.declared.parts.Guard.{Guard}
use Rattle.proxy_config.specs.declared.parts.Guard.TheVariants as guards
use Rattle.proxy_config.specs.declared.parts.Operand.{Operand}
use Rattle.proxy_config.specs.declared.parts.Operand.TheVariants as operands
use Rattle.proxy_config.specs.declared.parts.Server.{Server}

-- no time and no count of a server's checks is 0
pub record IsSoundCheck (checks : Checks) : Type 0 where
  pub inter : 0 < checks.inter
  pub rise : 0 < checks.rise
  pub fall : 0 < checks.fall

pub record IsSoundServer (server : Server) : Type 0 where
  pub weight : server.weight ≤ 256
  pub check : IfSome server.check IsSoundCheck

-- an index of an ACL is below their number
abbrev pub IsSoundOperand : ℕ → Operand → Type 0
IsSoundOperand acls (operands.Acl index) = index < acls
IsSoundOperand acls (operands.Test test) = Unit {0}

abbrev pub IsSoundCondition : ℕ → Condition → Type 0
IsSoundCondition acls condition = All (λ terms. All (λ term. IsSoundOperand acls term.operand) terms) condition.alternatives

abbrev pub IsSoundGuard : ℕ → Guard → Type 0
IsSoundGuard acls (guards.If condition) = IsSoundCondition acls condition
IsSoundGuard acls (guards.Unless condition) = IsSoundCondition acls condition

-- a time that is set: it isn't 0, and small enough for a dispatcher
pub record IsSoundTime (milliseconds : ℕ) : Type 0 where
  pub some : 0 < milliseconds
  pub within : milliseconds < 2 ^ 62

pub record IsSoundConfig (config : Config) : Type 0 where
  pub some : 0 < length config.servers
  pub most : length config.servers ≤ 64
  pub servers : All IsSoundServer config.servers
  pub rules : length config.rules + length config.pins ≤ 256
  pub pins : All (λ pin. pin.server < length config.servers) config.pins
  pub rule_guards : All (λ rule. IfSome rule.guard (IsSoundGuard (length config.acls))) config.rules
  pub pin_guards : All (λ pin. IsSoundGuard (length config.acls) pin.guard) config.pins
  pub retries : config.retries ≤ 999999999
  pub queue_timeout : IfSome config.queue_timeout IsSoundTime
  pub connect_timeout : IfSome config.connect_timeout IsSoundTime
  pub client_timeout : IfSome config.client_timeout IsSoundTime
  pub server_timeout : IfSome config.server_timeout IsSoundTime
