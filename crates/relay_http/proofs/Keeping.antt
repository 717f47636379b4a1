-- What is held after a fault: all that was held and read, in order.
use Rattle.std.proofs.Common.{◌≡◌, ◌∙◌, ℕ, List, [], ◌++◌, Option, None, Some, Result, sym, ap, append-nil, subst}
use Rattle.std.specs.Prelude.{OnErr}
use Rattle.std.specs.Io.KnownBytes.{Appends, Consumes, Keeps}
use Rattle.http_bodies.specs.Steps.{Ends, Moves}
use Rattle.http_texts.specs.declared.fault.Fault.{Fault}
use Rattle.relay_http.specs.Failures.{Conveys}

appends_nothing : (w : Option (List ℕ)) → Appends w w []
appends_nothing None = tt
appends_nothing (Some xs) = sym (append-nil xs)

-- a read that failed took nothing
consumes_before : (a b c : Option (List ℕ)) (taken : List ℕ) → Consumes a b taken → Keeps b c → Consumes a c taken
consumes_before None b c taken consumes keeps = tt
consumes_before (Some xs) None c taken consumes keeps = absurd consumes
consumes_before (Some xs) (Some ys) None taken consumes keeps = absurd keeps
consumes_before (Some xs) (Some ys) (Some zs) taken consumes keeps = consumes ∙ ap (λ l. taken ++ l) (sym keeps)

-- what the steps read is held
pub kept_by : {a b : Ends} (w : Option (List ℕ)) → Moves a b [] []
    → Conveys a.pipe.inbox b.pipe.inbox a.source.bytes b.source.bytes w w [] []
kept_by w x = record { taken = x.taken; reads = x.reads.bytes; all = x.held; writes = appends_nothing w }

-- a read that failed came after them
pub kept_before : {a b : Ends} (inbox : List ℕ) (r w : Option (List ℕ)) → Moves a b [] [] → inbox ≡ b.pipe.inbox → Keeps b.source.bytes r
    → Conveys a.pipe.inbox inbox a.source.bytes r w w [] []
kept_before {a} {b} inbox r w x same keeps = record {
  taken = x.taken;
  reads = consumes_before a.source.bytes b.source.bytes r x.taken x.reads.bytes keeps;
  all = x.held ∙ sym same;
  writes = appends_nothing w;
}

-- the bytes of a reader are those of its stream
pub kept_as : {T : Type 0} (result : Result T Fault) (held rest : List ℕ) (s t r0 r : Option (List ℕ)) → s ≡ r0 → t ≡ r
    → ((w : Option (List ℕ)) → OnErr result (Conveys held rest s t w w [] [])) → (w : Option (List ℕ)) → OnErr result (Conveys held rest r0 r w w [] [])
kept_as result held rest s t r0 r e f x w =
    subst (λ (o : Option (List ℕ)). OnErr result (Conveys held rest r0 o w w [] [])) f
    (subst (λ (o : Option (List ℕ)). OnErr result (Conveys held rest o t w w [] [])) e (x w))
