-- What threads share may be lent to them; what is known of its parts is handed on.
use denote.RattleType.{RattleType}
use denote.Ref.{NamedLft}
use denote.Param.Send.{IsSync, sendable}
use denote.Param.SendFields.{declared_sync}
use Rattle.std.proofs.Crossing.{crosses}
use Rattle.std.proofs.sync.Mutex.TheSendSync as mutex
use Rattle.std.specs.declared.sync.ledger.Ledger as ledger_name
use Rattle.grant_board.specs.declared.board.BoardName as board_name
use Rattle.locked_book.specs.declared.name.DeskName as desk_name
use Rattle.board_seats.proofs.seats.Seats.TheSendSync as seats
use Rattle.loop_shared.proofs.parked.Parked.TheSendSync as parked
use Rattle.loop_shared.proofs.mail.Mailbox.TheSendSync as mailbox
use Rattle.loop_shared.proofs.outside.Outside.TheSendSync as outside
use Rattle.loop_shared.proofs.unused.UnusedCounts.TheSendSync as counts
use Rattle.loop_shared.specs.contracts.shared.Shared as shared
pub use Rattle.relay_workers.proofs.Crosses.{proxy_sync}
pub use Rattle.run_gate.proofs.front.GateShared.TheSendSync.{the_sync as front_sync}

pub shared_sync : (a : NamedLft) (N : RattleType) (d : desk_name.Ghosts N.Denot) (g : board_name.Ghosts N.Denot) (l : ledger_name.Ghosts N.Denot) → IsSync (shared.the_row a N d g l)
shared_sync a N d g l = declared_sync (shared.the_type a N d g l) (
  search (proxy_sync N d g, crosses, sendable) depth 60 fits 20000,
  (
    search (front_sync, mutex.the_sync, crosses, sendable) depth 60 fits 20000,
    (
      search (parked.the_send, mutex.the_sync, crosses, sendable) depth 60 fits 20000,
      (
        search (seats.the_send, mutex.the_sync, crosses, sendable) depth 60 fits 20000,
        (
          search (outside.the_send, mutex.the_sync, crosses, sendable) depth 60 fits 20000,
          (
            search (crosses, sendable) depth 60 fits 20000,
            (
              search (crosses, sendable) depth 60 fits 20000,
              (
                search (counts.the_sync, crosses, sendable) depth 60 fits 20000,
                (
                  search (mailbox.the_sync, crosses, sendable) depth 60 fits 20000,
                  (
                    search (crosses, sendable) depth 60 fits 20000,
                    (
                      search (crosses, sendable) depth 60 fits 20000,
                      (
                        search (crosses, sendable) depth 60 fits 20000,
                        (
                          search (crosses, sendable) depth 60 fits 20000,
                          (
                            search (crosses, sendable) depth 60 fits 20000,
                            (
                              search (crosses, sendable) depth 60 fits 20000,
                              (
                                search (crosses, sendable) depth 60 fits 20000,
                                (
                                  search (crosses, sendable) depth 60 fits 20000,
                                  (
                                    search (mutex.the_sync, crosses, sendable) depth 60 fits 20000,
                                    (
                                      search (crosses, sendable) depth 60 fits 20000,
                                      (
                                        search (crosses, sendable) depth 60 fits 20000,
                                        tt,
                                      ),
                                    ),
                                  ),
                                ),
                              ),
                            ),
                          ),
                        ),
                      ),
                    ),
                  ),
                ),
              ),
            ),
          ),
        ),
      ),
    ),
  ),
)
