use Rattle.std.proofs.Common.{◌≡◌, ◌∙◌, ◌+◌, ℕ, Bool, List, [], ◌∷◌, length, Option, Some, None, Result, Err, sym, ap, subst, arith}
use Rattle.std.specs.Str.Lines.{lines}
use Rattle.proxy_config.specs.declared.faults.ConfigFault.{ConfigFault}
use Rattle.proxy_config.specs.declared.parts.Config.{Config}
use Rattle.proxy_config.specs.declared.parts.Pin.{Pin}
use Rattle.proxy_config.specs.declared.parts.Server.{Server}
use Rattle.proxy_config.specs.declared.progress.Progress.{Progress}
use Rattle.proxy_config.specs.declared.wishes.UnresolvedUseServer.{UnresolvedUseServer}
use Rattle.proxy_config.specs.Resolved.{Resolved, start}
use Rattle.proxy_config.specs.File.{FileAnswers, declared_servers, finished, is_line, run, survey}
use Rattle.proxy_config.specs.Progress.{decided, settled, take_line, unless_known, with_pins}
use Rattle.proxy_config.proofs.OnePass.{coming, coming-take, fit}
use Rattle.proxy_config.proofs.Surveys.{survey-take}
use Rattle.proxy_config.proofs.reading.read_lines.Goals as goal

servers_kept : (long : Option ℕ) (p next : Progress) (n : ℕ) (too_long : Bool) (left rest : List (List ℕ)) (line : List ℕ) (all : List Server)
    → (survey long p.draft n left).servers ≡ all → left ≡ line ∷ rest → too_long ≡ is_line long n → next ≡ take_line too_long p n line
    → (survey long next.draft (n + 1) rest).servers ≡ all
servers_kept long p next n too_long left rest line all so_far is length_is read =
    ap (λ (x : Progress). (survey long x.draft (n + 1) rest).servers) (read ∙ ap (λ (b : Bool). take_line b p n line) length_is)
    ∙ sym (survey-take long p n line rest) ∙ ap (λ (ls : List (List ℕ)). (survey long p.draft n ls).servers) (sym is) ∙ so_far

coming_kept : (servers : List Server) (long : Option ℕ) (p next : Progress) (n : ℕ) (too_long : Bool) (left rest : List (List ℕ)) (line : List ℕ)
    (all : Result Resolved ConfigFault)
    → coming servers long p n left ≡ all → left ≡ line ∷ rest → too_long ≡ is_line long n → next ≡ take_line too_long p n line
    → coming servers long next (n + 1) rest ≡ all
coming_kept servers long p next n too_long left rest line all so_far is length_is read =
    ap (λ (x : Progress). coming servers long x (n + 1) rest) (read ∙ ap (λ (b : Bool). take_line b p n line) length_is)
    ∙ sym (coming-take servers long p n line rest) ∙ ap (λ (ls : List (List ℕ)). coming servers long p n ls) (sym is) ∙ so_far

-- behind no pin the known fault is the first
behind_none : (servers : List Server) (wishes : List UnresolvedUseServer) (known : Option ConfigFault) (fault : ConfigFault) (more : List Pin → Result Resolved ConfigFault)
    → Some fault ≡ decided wishes known → with_pins servers wishes (λ ps. unless_known known (more ps)) ≡ Err fault
behind_none servers [] None fault more is = absurd (let none = is in cc)
behind_none servers [] (Some first) fault more is = cc
behind_none servers (wish ∷ wishes) known fault more is = absurd (let none = is in cc)

coming_decided : (servers : List Server) (long : Option ℕ) (p : Progress) (n : ℕ) (lines : List (List ℕ)) (fault : ConfigFault)
    → Some fault ≡ decided p.wishes p.fault → coming servers long p n lines ≡ Err fault
coming_decided servers long p n lines fault is = behind_none servers p.wishes p.fault fault (λ ps. run servers long (fit ps p.draft) n lines) is

pub lines-preserved : goal.lines-preserved
lines-preserved c = record {
  servers = servers_kept _ _ _ _ _ _ _ _ _ c.lines.invariant.servers c.in-Some.ensures.steps c.is_line.ensures c.in_ok-take.ensures.ok;
  coming = coming_kept _ _ _ _ _ _ _ _ _ _ c.lines.invariant.coming c.in-Some.ensures.steps c.is_line.ensures c.in_ok-take.ensures.ok;
  count = omega (arith, c.lines.invariant.count, ap (λ (ls : List (List ℕ)). length ls) c.in-Some.ensures.steps);
}

pub returns-in-Some-decided : goal.returns-in-Some-decided
returns-in-Some-decided c =
    let all = declared_servers c.args.bytes.now in
    ap (λ (long : Option ℕ). finished (run all long start 1 (lines c.args.bytes.now))) (sym c.long_line-long.ensures)
    ∙ ap finished (sym (coming_kept all _ _ c.take.new.self _ _ _ _ _ _ c.lines.invariant.coming c.in-Some.ensures.steps c.is_line.ensures
    c.in_ok-take.ensures.ok)
    ∙ coming_decided all _ c.take.new.self _ _ _ c.in-Some-decided.ensures)

pub returns : goal.returns
returns c =
    let all = declared_servers c.args.bytes.now in
    let long = c.long_line-long.result in
    let none = c.in_default.ensures.steps.0 in
    let known : c.lines.progress.draft.servers ≡ all =
    ap (λ (ls : List (List ℕ)). (survey long c.lines.progress.draft (c.lines.number + 1) ls).servers) (sym none) ∙ c.lines.invariant.servers in
    let same : settled c.lines.progress.draft.servers c.lines.progress ≡ run all long start 1 (lines c.args.bytes.now) =
    ap (λ (servers : List Server). settled servers c.lines.progress) known
    ∙ ap (λ (ls : List (List ℕ)). coming all long c.lines.progress (c.lines.number + 1) ls) (sym none) ∙ c.lines.invariant.coming in
    subst (λ (read : Result Config ConfigFault). FileAnswers c.finish.result read)
    (ap finished same ∙ ap (λ (l : Option ℕ). finished (run all l start 1 (lines c.args.bytes.now))) c.long_line-long.ensures) c.finish.ensures
