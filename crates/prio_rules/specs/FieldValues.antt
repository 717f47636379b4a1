-- The values of a field.
use Rattle.std.specs.Prelude.{ℕ, List}
use Rattle.std.specs.List.{flat_map}
use Rattle.proxy_words.specs.Parts.{parts}
use Rattle.req_view.specs.Request.{Request, values_of}

-- the comma-separated parts of each field with this name, ignoring case, in order
abbrev pub field_values : List ℕ → Request → List (List ℕ)
field_values name request = flat_map parts (values_of name request.fields)
