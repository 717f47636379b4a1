-- The definitions at worked examples: what must hold, and wrong words that must not be taken.
use Rattle.std.proofs.Common.{◌≡◌, ◌++◌, ℕ, true, false, List, [], ◌∷◌, Some, None, Ok, Err, negsuc, codes, refl}
use Rattle.proxy_words.specs.Text.{words}
use Rattle.proxy_config.specs.declared.faults.FaultCause.TheVariants as causes
use Rattle.proxy_config.specs.declared.parts.Expression.TheVariants.{Int, HeaderValue}
use Rattle.proxy_words.specs.Names.{is_name}
use Rattle.proxy_config.specs.Names.{is_acl_name}
use Rattle.proxy_config.specs.Addresses.{ip, bind_of, address_of}
use Rattle.proxy_config.specs.Samples.{expression_of, head_at, test_in_braces}
use Rattle.proxy_config.specs.Conditions.{alternatives, condition, operand_at, term_at}
use Rattle.proxy_config.specs.Settings.{built_in, settings}
use Rattle.proxy_config.specs.Draft.{step, words_line, optional_name, defaults_line, listen_line, bind_line, server_of}
use Rattle.proxy_config.specs.File.{reading}
use Rattle.proxy_config.specs.Wishes.{asked_pin, wish_line}
use Rattle.proxy_config.specs.Progress.{with_pins}
use Rattle.proxy_config.specs.declared.parts.Host.TheVariants as hosts
use Rattle.proxy_config.specs.declared.parts.Server.{Server}
use Rattle.proxy_config.specs.declared.wishes.UnresolvedUseServer.{UnresolvedUseServer}

name_row : is_name (codes "web-1.a:b_c") ≡ true
name_row = refl

no_name : is_name (codes "a/b") ≡ false
no_name = refl

or_is_none : is_acl_name (codes "or") ≡ false
or_is_none = refl

ip_row : ip (codes "01.2.3.004") ≡ Some (1 ∷ 2 ∷ 3 ∷ 4 ∷ [])
ip_row = refl

three_parts : ip (codes "1.2.3") ≡ None
three_parts = refl

large_part : ip (codes "256.1.1.1") ≡ None
large_part = refl

bind_row : bind_of (codes ":80") ≡ Some (record { ip = None; port = 80 })
bind_row = refl

no_port : bind_of (codes "1.2.3.4") ≡ None
no_port = refl

port_zero : address_of (codes "1.2.3.4:0") ≡ None
port_zero = refl

int_row : expression_of (codes "int(-9999)") ≡ Some (Int (negsuc 9998))
int_row = refl

no_int : expression_of (codes "int(x)") ≡ None
no_int = refl

field_row : expression_of (codes "req.hdr_val(x-due)") ≡ Some (HeaderValue (codes "x-due"))
field_row = refl

last_stands : settings built_in (words (codes "maxconn 2 maxconn 3")) ≡ Ok (record built_in { maxconn = 3 })
last_stands = refl

weight_257 : settings built_in (words (codes "weight 257")) ≡ Err causes.Number
weight_257 = refl

empty_alternative : condition [] (words (codes "{ path / } or or { path / }")) ≡ Err causes.Condition
unfolding alternatives term_at operand_at test_in_braces head_at
empty_alternative = refl

unclosed : condition [] (words (codes "{ path /")) ≡ Err causes.Words
unfolding alternatives term_at operand_at test_in_braces head_at
unclosed = refl

no_value : condition [] (words (codes "{ path }")) ≡ Err causes.Condition
unfolding alternatives term_at operand_at test_in_braces head_at
no_value = refl

-- pins whose servers may stand later
abbrev one_server : List Server
one_server = server_of (codes "a") (record { host = hosts.Name (codes "h"); port = 80 }) built_in ∷ []

-- a wish for a server of this name, in line 4, without a condition
abbrev unguarded : List ℕ → UnresolvedUseServer
unguarded name = record { line = 4; server = name; guard = Err causes.Words }

wish_row : wish_line 4 [] (words (codes "a")) ≡ Ok (unguarded (codes "a"))
unfolding wish_line
wish_row = refl

guard_counts : asked_pin one_server (unguarded (codes "a")) ≡ Err causes.Words
guard_counts = refl

unknown_first : asked_pin one_server (unguarded (codes "b")) ≡ Err causes.Unknown
unknown_first = refl

named_with_its_line : with_pins one_server (unguarded (codes "b") ∷ unguarded (codes "a") ∷ []) Ok ≡ Err (record { line = 4; cause = causes.Unknown })
named_with_its_line = refl

-- whole files
empty_file : reading [] ≡ Err (record { line = 0; cause = causes.Missing })
empty_file = refl

refused_section : reading (codes "backend b") ≡ Err (record { line = 1; cause = causes.Section })
unfolding step words_line
refused_section = refl

out_of_place : reading (codes "defaults" ++ (10 ∷ codes "bind :80")) ≡ Err (record { line = 2; cause = causes.Place })
unfolding step words_line defaults_line optional_name bind_line
out_of_place = refl

quoted_word : reading (codes "listen w" ++ (10 ∷ codes "log \"x\"")) ≡ Err (record { line = 2; cause = causes.Quoting })
unfolding step words_line listen_line
quoted_word = refl

no_server : reading (codes "listen w" ++ (10 ∷ codes "bind :80")) ≡ Err (record { line = 1; cause = causes.Missing })
unfolding step words_line listen_line bind_line
no_server = refl
