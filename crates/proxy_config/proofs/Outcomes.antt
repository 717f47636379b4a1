-- Taking apart what reading gave.
use Rattle.std.proofs.Common.{◌≡◌, ◌⊎◌, inl, inr, Bool, true, false, cond, Result, Ok, Err, Option, Some, None, refl}
use Rattle.std.specs.Option.{ok_or}
use Rattle.proxy_config.specs.declared.faults.FaultCause.{FaultCause}
use Rattle.proxy_config.specs.Outcomes.{◌>>=◌, unless}

-- where two steps come to a value, the first did
pub bind_ok : {A B : Type 0} (r : Result A FaultCause) (f : A → Result B FaultCause) (y : B) → (r >>= f) ≡ Ok y → (x : A) × (r ≡ Ok x) × (f x ≡ Ok y)
bind_ok (Ok x) f y both = (x, refl, both)
bind_ok (Err cause) f y both = cc

-- which way a test went
pub chosen : {A : Type 0} (b : Bool) (x y z : A) → cond b x y ≡ z → ((b ≡ true) × (x ≡ z)) ⊎ ((b ≡ false) × (y ≡ z))
chosen true x y z is = inl (refl, is)
chosen false x y z is = inr (refl, is)

pub unless_ok : (fault : Bool) (cause : FaultCause) (u : Unit {0}) → unless fault cause ≡ Ok u → fault ≡ false
unless_ok true cause u is = cc
unless_ok false cause u is = refl

pub ok_or_ok : {A : Type 0} (o : Option A) (cause : FaultCause) (x : A) → ok_or o cause ≡ Ok x → o ≡ Some x
ok_or_ok None cause x is = cc
ok_or_ok (Some y) cause x is = cc

pub from_ok : {A : Type 0} (x y : A) → (let one : Result A FaultCause = Ok x in one ≡ Ok y) → x ≡ y
from_ok x y same = cc

-- the next step may be another that does the same where it is made
pub same_next : {A B : Type 0} (r : Result A FaultCause) (f g : A → Result B FaultCause) → ((x : A) → r ≡ Ok x → f x ≡ g x) → (r >>= f) ≡ (r >>= g)
same_next (Ok x) f g same = same x refl
same_next (Err cause) f g same = refl
