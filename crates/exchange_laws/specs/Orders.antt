-- What passes over a client's connection: whole requests and their answers in order, and a front of one more.
use Rattle.std.specs.Prelude.{◌≡◌, ◌≢◌, ℕ, List, ◌++◌}
use Rattle.std.specs.List.{flat_map, AllByRecursion}
use Rattle.base_lists.specs.Fronts.{IsFront}
use Rattle.http_texts.specs.declared.persistence.Persistence.TheVariants.{Close}
use Rattle.exchange_machine.specs.Headline.{ClientText}
use Rattle.exchange_machine.specs.Histories.{ExchangeHistory}
use Rattle.exchange_machine.specs.Wholes.{Whole, IsWhole, asked, told}

-- the client may ask again afterwards: both sides agreed to keep the connection open
abbrev pub IsOpenToClient : Whole → Type 0
IsOpenToClient w = w.says ≢ Close

-- The bytes from the client are its requests one after another, and then those of the running
-- exchange. The bytes to the client are their answers one after another, each whole and for its own
-- request, none left out and none twice, and then a front of one text for the running exchange: an
-- answer, or a refusal.
pub record AnsweredInOrder (before : List Whole) (now : ExchangeHistory) (input output : List ℕ) : Type 0 where
  pub each : AllByRecursion IsWhole before
  pub stays : AllByRecursion IsOpenToClient before
  pub input_is : input ≡ flat_map asked before ++ now.client_in
  pub output_is : output ≡ flat_map told before ++ now.to_client
  pub text : List ℕ
  pub last : ClientText now text
  pub front : IsFront now.to_client text
