-- A desk may be lent to other threads.
use denote.RattleType.{RattleType}
use denote.Struct.Declared.{shape}
use denote.Param.Send.{IsSend, IsSync, sendable, recorded_sync, struct_sync}
use Rattle.std.proofs.Crossing.{crosses}
use Rattle.std.proofs.sync.Mutex.TheSendSync as mutex
use Rattle.std.specs.declared.cmp.Ord as ord
use Rattle.std.specs.declared.cmp.PartialEq as eq
use Rattle.std.specs.declared.cmp.PartialOrd as partial
use Rattle.binom_queue.specs.contracts.binom_queue.BinomQueue as queue
use Rattle.binom_queue.specs.contracts.single.Single as single
use Rattle.binom_queue.proofs.forest.Forest.TheLaws.TheKnot as knot
use Rattle.grant_board.specs.declared.board.BoardName as board_name
use Rattle.locked_book.proofs.book.Book.TheSendSync as book
use Rattle.locked_book.specs.declared.name.DeskName as desk_name
use Rattle.due_key.proofs.key.Key.TheSendSync as key
use Rattle.shared_desk.proofs.unread.Unread.TheSendSync as unread
use Rattle.grant_board.proofs.board.Board.TheSendSync as board
use Rattle.shared_desk.specs.contracts.desk.Desk as desk
use Rattle.shared_desk.specs.contracts.locked.Locked as locked

module _ (K V : RattleType) (k : IsSend K) (v : IsSend V) where
  pub queue_send : (o : ord.Ghosts K.Denot) (e : eq.Ghosts K.Denot) (p : partial.Ghosts K.Denot) → IsSend (queue.the_row K V o e p)
  queue_send o e p = search (crosses, knot.crosses, sendable) depth 60 fits 20000

  pub single_send : IsSend (single.the_row K V)
  single_send = search (crosses, knot.crosses, sendable) depth 60 fits 20000

module _ (B : RattleType) (b : IsSend B) where
  pub locked_sync : IsSync (locked.the_field B).row
  locked_sync =
      struct_sync (shape (locked.the_type B)) (
        search (b, mutex.the_sync, crosses, sendable) depth 60 fits 20000,
        (search (crosses, sendable) depth 60 fits 20000, tt),
      )

pub desk_sync : (N : RattleType) (d : desk_name.Ghosts N.Denot) (g : board_name.Ghosts N.Denot) → IsSync (desk.the_row N d g)
desk_sync N d g =
    recorded_sync (desk.the_field N d g).row _ _ (desk.the_type N d g).to_one (struct_sync (shape (desk.the_type N d g)) (
      search (locked_sync, queue_send, single_send, key.the_send, book.the_send, crosses, sendable) depth 60 fits 20000,
      (
        search (board.the_sync, crosses, sendable) depth 60 fits 20000,
        (search (locked_sync, unread.the_send, crosses, sendable) depth 60 fits 20000, tt),
      ),
    ))
