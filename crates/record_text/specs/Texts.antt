-- The texts of a record r of the table, as parts of the three lent stores.
use Rattle.std.specs.Prelude.{cond, ℕ, eqb}
use Rattle.grammar.specs.Bytes.{Bytes}
use Rattle.grammar.specs.Fields.{file, form_number}
use Rattle.layout.specs.Layout.{byte_at, text_in, title_extent, name_extent, body_extent}
use Rattle.places.specs.Places.{record_form}

-- "Each has a form (0 plain text, 1 packed message, 2 packed file)"
abbrev pub file_form : ℕ
file_form = form_number file

-- "the title for a message or the file name for a file"
unfoldable pub heading_part : Bytes → Bytes → Bytes → Bytes
heading_part titles names r = cond (eqb (byte_at r record_form) file_form) (text_in names (name_extent r)) (text_in titles (title_extent r))

unfoldable pub body_in : Bytes → Bytes → Bytes
body_in bodies r = text_in bodies (body_extent r)
