-- The name of a board that doesn't exist.
use Rattle.std.specs.Prelude.{[]}
use Rattle.atomic_table.specs.Seated.{TableId}
use Rattle.grant_board.specs.Views.{Terms}

abbrev pub no_board : TableId
no_board = record { words = 0; slots = 0; views_name = 0; atom = 0; block = 0; offset = 0; slot_names = [] }

abbrev pub no_terms : Terms
no_terms = record { places = 0; limits = [] }
