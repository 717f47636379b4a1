use Rattle.locked_book.proofs.Ends.{room_made, roomy_book}
use Rattle.locked_book.proofs.book.Book.make_room.Goals as goal

pub invariant_of-self : goal.invariant_of-self
invariant_of-self g c =
    roomy_book g.N.BoardName.board g.N.BoardName.terms g.N.DeskName.setup c.self.inside.core c.make_room.new.self c.self.inside.keeping c.self.invariant
    (room_made c.make_room.result c.self.inside.core c.make_room.new.self _ _ _ _ c.make_room.ensures.none c.make_room.ensures.some c.make_room.ensures.err)
