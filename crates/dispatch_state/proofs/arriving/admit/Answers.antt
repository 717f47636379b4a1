use Rattle.dispatch_state.proofs.Admitting.{admitted_stands, admitted_node, admitted_back}
use Rattle.dispatch_state.proofs.arriving.admit.Goals as goal

pub loosen-requires : goal.loosen-requires
loosen-requires g c = admitted_stands _ _ _ _ c.admit-place.ensures.vacant c.admit-place.ensures.admitted

pub end-requires : goal.end-requires
end-requires g c = admitted_stands _ _ _ _ c.admit-place.ensures.vacant c.admit-place.ensures.admitted

pub returns-in-Ok-clause-admitted : goal.returns-in-Ok-clause-admitted
returns-in-Ok-clause-admitted g c = (
  c.in-Ok.node,
  c.in-Ok.ensures,
  admitted_node _ _ _ _ _ c.in-Ok.node c.admit-place.ensures.vacant c.requires.loose c.admit-place.ensures.admitted
      c.loosen.ensures,
)

pub returns-in-Err-clause-err : goal.returns-in-Err-clause-err
returns-in-Err-clause-err g c = admitted_back _ _ _ _ _ c.admit-place.ensures.vacant c.admit-place.ensures.admitted c.end.ensures
