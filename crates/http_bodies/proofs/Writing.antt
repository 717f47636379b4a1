-- What a sink took, call after call.
use Rattle.std.proofs.Common.{◌≡◌, ◌∙◌, ℕ, ◌+◌, List, [], ◌++◌, refl, ap, arith, length-append}
use Rattle.std.proofs.KnownBytes.{Appends-nil, Appends-trans}
use Rattle.base_streams.specs.Streams.{Stream}
use Rattle.http_bodies.specs.Texts.{Wrote}

pub Wrote-nil : (w : Stream) → Wrote w w []
Wrote-nil w = record { bytes = Appends-nil w.bytes; more = omega arith; some = omega arith; none = λ same. refl }

both_none : (x y : List ℕ) → x ≡ [] → y ≡ [] → x ++ y ≡ []
both_none x y e f = ap (λ l. l ++ y) e ∙ f

pub Wrote-trans : {a b c : Stream} {x y : List ℕ} → Wrote a b x → Wrote b c y → Wrote a c (x ++ y)
Wrote-trans {a} {b} {c} {x} {y} p q = record {
  bytes = Appends-trans a.bytes b.bytes c.bytes x y p.bytes q.bytes;
  more = omega (arith, p.more, q.more);
  some = omega (arith, p.some, q.some, length-append x y);
  none = λ same.
      let first : b.calls + a.failures ≡ a.calls + b.failures = omega (arith, same, p.more, q.more) in
      let second : c.calls + b.failures ≡ b.calls + c.failures = omega (arith, same, p.more, q.more) in
      both_none x y (p.none first) (q.none second);
}
