-- What can't be, where anything is to be shown.
use Rattle.std.proofs.Common.{◌≡◌, true, false, None, Some}

pub none_some : {A : Type 0} {x : A} {P : Type 0} → None ≡ Some x → P
none_some e = cc

pub false_true : {P : Type 0} → false ≡ true → P
false_true e = cc
