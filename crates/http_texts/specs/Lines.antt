-- Lines of fields that are handed on, one at a time.
use Rattle.std.specs.Prelude.{ℕ, List, [], if◌then◌else◌}
use Rattle.http_texts.specs.Fields.{is_kept}
use Rattle.http_texts.specs.Texts.{field_text}
use Rattle.req_view.specs.Request.{NamedValue}

-- a field's line, if it is handed on
abbrev pub kept_line : List (List ℕ) → List NamedValue → NamedValue → List ℕ
kept_line names fields field = if is_kept names fields field.0 then field_text field else []
