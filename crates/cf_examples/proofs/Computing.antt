-- What the examples open to compute with texts: the reading of JSON, and numbers as text.
use Rattle.std.specs.Prelude.{⊤}
use Rattle.std.specs.Str.{is_utf8, chars}
use Rattle.std.specs.Fmt.{digits}
use lib.Utf8.{encode}
use Rattle.json.specs.Lex.{lex, punctuate}
use Rattle.json.specs.Json.{value, items, members}
use Rattle.json.specs.Word.{word, after_number}
use Rattle.json.specs.Text.{code_unit, short_escape, content}
use Rattle.json.specs.Print.{escape_byte}
use Rattle.serde_json.specs.Read.{number_of}

unfoldable pub computing : ⊤
unfolding lex punctuate value items members word after_number code_unit short_escape content number_of is_utf8 chars encode digits escape_byte
computing = tt
